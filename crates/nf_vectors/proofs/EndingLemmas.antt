-- Where the reading of a vector file ends.
use Rattle.nf_vectors.proofs.Common.{◌≡◌, ◌↔◌, ℕ, suc, ◌+◌, ◌-◌, ◌<◌, ◌≤◌, Bool, true, false, List, [], ◌∷◌, ◌++◌, length, take, drop, get_or, Option, Some, None, Result, Err, refl, sym, ap, arith, append_assoc, append-nil, ⊎_elim, if◌then◌else◌, le-ltb, cases_lt, or-false, take-append-add, length-append, take_at, drop_more, take-append-drop, VectorFault, VectorKind, Size, Read, Memory, Reading, is_line_end, lines_of, Bad, judged, rows_from, names_part1_from, last_fault, first_fault, rows_in, StandsAfter, EndsLine, limit, block, lines_within, stop_of, Finds, RunsOut, take_all}
use Rattle.std.proofs.Common.{subst₂}
use Rattle.std.proofs.lemmas.Grind.{common_steps}
use Rattle.nf_vectors.proofs.StandingLemmas.{lines_of-ended, lines_of-last, first_fault-ended}

module _ {reading : Reading} {bytes : List ℕ} (stands : StandsAfter reading bytes) where
  -- a bad line is the first fault, whatever follows
  pub bad_line : (b : ℕ) (kind : VectorKind) → is_line_end b ≡ true → judged reading.line reading.bytes.items ≡ Bad kind
      → (stop : Option VectorKind) (more : List ℕ) → first_fault 1 stop (lines_of (bytes ++ b ∷ more)) ≡ Some (record { line = reading.line; kind = kind })
  bad_line b kind end bad stop more =
      rw (stands.faults stop (b ∷ more), lines_of-ended reading.bytes.items stands.one_line b more end, first_fault-ended reading.line stop reading.bytes.items more, bad) refl

  -- where the bytes end, the fault is that of the last line
  pub last_line : (stop : Option VectorKind) → first_fault 1 stop (lines_of bytes) ≡ last_fault reading.line stop reading.bytes.items
  last_line stop = rw (← append-nil bytes, stands.faults stop [], lines_of-last reading.bytes.items stands.one_line) refl

  module _ (few : length bytes ≤ limit) where
    pub within : take limit bytes ≡ bytes
    within = take_all limit bytes few

    -- the first fault there
    pub ends_at : (failed : Bool) → first_fault 1 (stop_of bytes failed) (lines_within bytes) ≡ last_fault reading.line (if failed then Some Read else None) reading.bytes.items
    ends_at failed =
        rw (within, le-ltb limit (length bytes) few) (last_line (if failed then Some Read else None))

    -- where memory runs out over the next byte, or at the end
    pub runs_out : (rest : List ℕ) {all : List ℕ} {at_end : Bool} {fault : VectorFault} → length rest ≤ block → all ≡ bytes ++ rest → (at_end ≡ true → rest ≡ []) → fault.line ≡ reading.line → fault.kind ≡ Memory → RunsOut all at_end fault
    runs_out rest short is end line memory = record {
      read = bytes;
      rest = rest;
      is = is;
      within = few;
      last = short;
      end = end;
      first = grind (arith, last_line (Some Memory));
    }

    module _ {new : Reading} (ends : EndsLine (judged reading.line reading.bytes.items) reading new) where
      pub all_rows : rows_in new.text.items new.entries.items ≡ rows_from 1 false (lines_within bytes)
      all_rows = rw (within, ← append-nil bytes, stands.rows [], lines_of-last reading.bytes.items stands.one_line, append-nil, ends.rows) refl

      pub all_parts : new.has_part1 ≡ names_part1_from 1 (lines_within bytes)
      all_parts = rw (within, ← append-nil bytes, stands.part1 [], lines_of-last reading.bytes.items stands.one_line, or-false, ends.has_part1) refl

-- the fault at one byte, whatever stands after it: at the limit, that it is one too many
pub found_here : {reading : Reading} {bytes : List ℕ} {kind : VectorKind} {fault : VectorFault} → StandsAfter reading bytes → (b : ℕ) (rest all : List ℕ) → bytes ++ b ∷ rest ≡ all
    → reading.taken ≤ 67108864 → fault ≡ record { line = reading.line; kind = kind } → ◌≡◌ {A = Result (Unit {0}) VectorKind} (Err kind) (Err Size) ↔ (reading.taken ≡ 67108864)
    → (¬ (kind ≡ Size) → (stop : Option VectorKind) (more : List ℕ) → first_fault 1 stop (lines_of (bytes ++ b ∷ more)) ≡ Some (record { line = reading.line; kind = kind }))
    → Finds all fault
found_here {reading} {bytes} {kind} stands b rest all is few here size found =
    subst₂ Finds is (sym here) (λ stop past. ⊎_elim
    (λ below.
    let n = limit - length bytes - 1 in
    let within : limit ≡ length bytes + suc n = omega arith in
    rw (within, take-append-add) (found (λ e. omega (arith, size.0 (ap Err e))) stop (take n rest)))
    (λ above.
    let end : length bytes ≡ limit = omega arith in
    let one_more : kind ≡ Size = let e = size.1 (omega arith) in cc in
    rw (past (omega (arith, length-append bytes (b ∷ rest))), take_at bytes (b ∷ rest) limit end, one_more) (last_line stands (Some Size)))
    (cases_lt reading.taken 67108864))

pub piece_at : (bytes piece : List ℕ) (i : ℕ) → i < length piece → (bytes ++ take i piece) ++ get_or piece i 0 ∷ drop (i + 1) piece ≡ bytes ++ piece
piece_at bytes piece i within = grind (arith, common_steps, append_assoc, drop_more, take-append-drop)
