-- How the reading of a vector file goes on, byte by byte.
use Rattle.nf_vectors.proofs.Common.{◌≡◌, ℕ, ◌+◌, true, false, List, [], ◌∷◌, ◌++◌, Option, Result, Ok, Err, OnOk, refl, arith, rules, append_assoc, append-nil, All, or_assoc, slice_split_at, slice_split_none, VectorFault, VectorKind, Reading, is_line_end, lines_of, judged, fault_or, first_fault, StandsAfter, EndsLine, length-append}
use Rattle.nf_vectors.proofs.PieceLemmas.{split-some}

module _ (line : List ℕ) (one : All (λ b. is_line_end b ≡ false) line) where
  pub lines_of-ended : (b : ℕ) (more : List ℕ) → is_line_end b ≡ true → lines_of (line ++ b ∷ more) ≡ line ∷ lines_of more
  lines_of-ended b more e = slice_split_at is_line_end line b more one e

  pub lines_of-last : lines_of (line ++ []) ≡ line ∷ []
  lines_of-last = rw append-nil (slice_split_none is_line_end line one)

pub first_fault-ended : (n : ℕ) (stop : Option VectorKind) (line bytes : List ℕ)
    → first_fault n stop (line ∷ lines_of bytes) ≡ fault_or n (judged n line) (first_fault (n + 1) stop (lines_of bytes))
first_fault-ended n stop line bytes = rw (split-some is_line_end bytes).2 refl

-- the end of the line
pub StandsAfter-line : {old : Reading} {bytes : List ℕ} (new : Reading) (b : ℕ) → StandsAfter old bytes → is_line_end b ≡ true → (r : Result (Unit {0}) VectorKind)
    → OnOk r ((new.line ≡ old.line + 1) × (new.taken ≡ old.taken + 1) × (new.bytes.items ≡ [])) → OnOk r (EndsLine (judged old.line old.bytes.items) (record old { taken = old.taken + 1 }) new)
    → ((other : Option VectorFault) → OnOk r (fault_or old.line (judged old.line old.bytes.items) other ≡ other)) → OnOk r (StandsAfter new (bytes ++ b ∷ []))
StandsAfter-line new b before end (Err kind) rest ends fine = tt
StandsAfter-line {old} {bytes} new b before end (Ok done) rest ends fine = record {
  faults = λ stop more.
      rw (append_assoc bytes (b ∷ []) more, before.faults stop (b ∷ more), split more, first_fault-ended old.line stop old.bytes.items more, fine (first_fault (old.line + 1) stop (lines_of more)), rest.0, rest.2) refl;
  rows = λ more. rw (append_assoc bytes (b ∷ []) more, before.rows (b ∷ more), split more, ends.rows, ends.in_part1, rest.0, rest.2, append_assoc) refl;
  part1 = λ more. rw (append_assoc bytes (b ∷ []) more, before.part1 (b ∷ more), split more, ends.has_part1, rest.0, rest.2, or_assoc) refl;
  taken = omega (arith, length-append bytes (b ∷ []));
  one_line = rw rest.2 (search rules);
}
  where
    split : (more : List ℕ) → lines_of (old.bytes.items ++ b ∷ more) ≡ old.bytes.items ∷ lines_of more
    split more = lines_of-ended old.bytes.items before.one_line b more end
