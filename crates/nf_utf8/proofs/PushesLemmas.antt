-- Pushing a piece's bytes one by one reads them as they are read, and so gives what the piece gives.
use Rattle.nf_utf8.proofs.Common.{◌≡◌, ℕ, ◌+◌, List, [], ◌∷◌, ◌++◌, length, Option, chars, refl, sym, ◌∙◌, arith, append_assoc, append-nil, length-append, append_cancel_left, Step, More, Char, BadByte, End, BeginsText, IsWhole, IsCut, text_len, text_of, rest_of, ending_of, Answers, first_text, Takes}
use Rattle.nf_utf8.specs.declared.chunk.End.TheVariants.{Bad}
use Rattle.nf_utf8.specs.Pushes.{Pushes, GoesOn}
use Rattle.nf_utf8.proofs.BegunLen.{begun_len-longest, begins_all, ending_of-says}
use Rattle.nf_utf8.proofs.ReadingLemmas.{text_of-bad, ending_of-bad, length-encodes-text_of}
use Rattle.nf_utf8.proofs.TakingLemmas.{EndsAll, ends_holding, ends_piece, same_end}

-- the bytes read as this text after that of `bytes`, with this end
abbrev ReadsOn : List ℕ → List ℕ → List ℕ → List ℕ → End → Type 0
ReadsOn from bytes all text end = (text_of all ≡ text_of bytes ++ text) × EndsAll from all end

-- ---- where they go on

pub begins_cut : (bytes : List ℕ) (at start : ℕ) → ending_of bytes ≡ IsCut at start → BeginsText bytes
begins_cut bytes at start e = begins_all bytes (rw e at (ending_of-says bytes)).1

pub begins_whole : (bytes : List ℕ) → ending_of bytes ≡ IsWhole → BeginsText bytes
begins_whole bytes e = begins_all bytes (omega (arith, (begun_len-longest bytes).within, rw e at (ending_of-says bytes)))

-- ---- byte by byte

module _ (from : List ℕ) where
  ill_formed : (bytes piece : List ℕ) (byte at back : ℕ) → Answers bytes byte (BadByte back) → length from + at ≡ length bytes
      → ReadsOn from bytes (bytes ++ byte ∷ [] ++ piece) [] (Bad at back)
  ill_formed bytes piece byte at back answer place =
      let text = text_of-bad (bytes ++ byte ∷ []) piece _ _ answer.1 ∙ answer.0 in
      let len : text_len (bytes ++ byte ∷ [] ++ piece) ≡ text_len bytes = rw (text, length-encodes-text_of) at (sym (length-encodes-text_of (bytes ++ byte ∷ [] ++ piece))) in
      (rw append-nil text, (rw (place, len) (ending_of-bad (bytes ++ byte ∷ []) piece _ _ answer.1), omega (arith, len, place, answer.2), simp length-append (omega (arith, place))))

  -- `Next` is what the bytes after the step give
  step_on : (bytes piece text : List ℕ) (byte : ℕ) (end : End) (step : Step) (Next : List ℕ → Type 0)
      → ((more : List ℕ) → BeginsText (bytes ++ byte ∷ []) → Next more → ReadsOn from (bytes ++ byte ∷ []) (bytes ++ byte ∷ [] ++ piece) more end)
      → Answers bytes byte step → GoesOn from bytes Next text end step → ReadsOn from bytes (bytes ++ byte ∷ [] ++ piece) text end
  step_on bytes piece text byte end More Next read answer on = rw answer.0 at (read text (begins_cut _ _ _ answer.1) on)
  step_on bytes piece text byte end (Char c) Next read answer on = rw on.1 (rw (answer.0, append_assoc (text_of bytes) (c ∷ []) on.0) at (read on.0 (begins_whole _ answer.1) on.2))
  step_on bytes piece text byte end (BadByte back) Next read answer on = rw (on.0, on.1.2) (ill_formed bytes piece byte on.1.0 back answer on.1.1)

  pub reads_on : (bytes piece text : List ℕ) (end : End) → BeginsText bytes → Pushes from bytes piece text end → ReadsOn from bytes (bytes ++ piece) text end
  reads_on bytes [] text end b p = rw (append-nil, p.0, p.1, append-nil) (refl, ends_holding from bytes (rest_of bytes) (record { rest = refl; begins = b }))
  reads_on bytes (byte ∷ piece) text end b p =
      rw append_assoc at (step_on bytes piece text byte end p.0 (λ more. Pushes from (bytes ++ byte ∷ []) piece more end) (λ more. reads_on (bytes ++ byte ∷ []) piece more end) p.1 p.2)

-- ---- the piece as a whole

module _ (bytes piece text taken : List ℕ) (first : Option ℕ) (end stop : End) (b : BeginsText bytes) (p : Pushes bytes bytes piece text end) (t : Takes bytes piece first taken stop) where
  read : ReadsOn bytes bytes (bytes ++ piece) text end
  read = reads_on bytes bytes piece text end b p

  pub pushed_text : text ≡ first_text first ++ chars taken
  pushed_text = append_cancel_left (text_of bytes) _ _ (sym read.0 ∙ rw append_assoc at t.spelled)

  pub pushed_end : end ≡ stop
  pushed_end = same_end bytes piece end stop (ends_piece bytes piece end read.1) t.ends
