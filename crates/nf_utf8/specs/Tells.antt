-- What a byte tells after the bytes of a begun character (The Unicode Standard, section 3.9, Table 3-7).
use Rattle.std.specs.Prelude.{◌≡◌, ℕ, List, [], ◌∷◌, ◌++◌, length, encode_utf8}
use Rattle.std.specs.Char.{IsScalar}
use Rattle.nf_utf8.specs.declared.step.Step.{Step}
use Rattle.nf_utf8.specs.declared.step.Step.TheVariants.{More, Char, Bad}
use Rattle.nf_utf8.specs.Text.{BeginsText}
use Rattle.nf_utf8.specs.Subpart.{IsSubpart}

-- that the character goes on, that it is c, or that with this byte nothing begins a text
abbrev pub Tells : List ℕ → ℕ → Step → Type 0
Tells subpart byte More = IsSubpart (subpart ++ byte ∷ [])
Tells subpart byte (Char c) = IsScalar c × (subpart ++ byte ∷ [] ≡ encode_utf8 c)
Tells subpart byte (Bad back) = (back ≡ length subpart) × (¬ BeginsText (subpart ++ byte ∷ []))

-- the bytes of a begun character then
abbrev pub subpart_after : List ℕ → ℕ → Step → List ℕ
subpart_after subpart byte More = subpart ++ byte ∷ []
subpart_after subpart byte (Char c) = []
subpart_after subpart byte (Bad back) = []
