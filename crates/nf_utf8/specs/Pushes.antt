-- Pushing the bytes of a piece one by one, up to a bad byte (The Unicode Standard, section 3.9).
use Rattle.std.specs.Prelude.{◌≡◌, ℕ, ◌+◌, List, [], ◌∷◌, ◌++◌, length}
use Rattle.nf_utf8.specs.declared.step.Step.{Step}
use Rattle.nf_utf8.specs.declared.step.Step.TheVariants.{More, Char, Bad as BadByte}
use Rattle.nf_utf8.specs.declared.chunk.End.{End}
use Rattle.nf_utf8.specs.declared.chunk.End.TheVariants.{Bad}
use Rattle.nf_utf8.specs.Reading.{rest_of}
use Rattle.nf_utf8.specs.Standing.{Answers}
use Rattle.nf_utf8.specs.Taking.{end_holding}

-- a step, and what the bytes after it give, which `More` says. `from` are the bytes before the piece, `bytes` those
-- before the step
abbrev pub GoesOn : List ℕ → List ℕ → (List ℕ → Type 0) → List ℕ → End → Step → Type 0
GoesOn from bytes Next text end More = Next text
GoesOn from bytes Next text end (Char c) = (more : List ℕ) × (text ≡ c ∷ more) × Next more
GoesOn from bytes Next text end (BadByte back) = (text ≡ []) × ((at : ℕ) × (length from + at ≡ length bytes) × (end ≡ Bad at back))

-- after `bytes` the piece's bytes are answered one by one, and the answers give this text and this end
abbrev pub Pushes : List ℕ → List ℕ → List ℕ → List ℕ → End → Type 0
Pushes from bytes [] text end = (text ≡ []) × (end ≡ end_holding (rest_of bytes))
Pushes from bytes (byte ∷ piece) text end =
    (step : Step) × Answers bytes byte step × GoesOn from bytes (λ more. Pushes from (bytes ++ byte ∷ []) piece more end) text end step
