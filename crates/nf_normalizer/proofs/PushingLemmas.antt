-- What the room holds, and how long the run is, when decomposed text is pushed code point by code point.
use Rattle.nf_normalizer.proofs.Common.{◌≡◌, ℕ, ◌+◌, ◌<◌, ◌≤◌, true, List, [], ◌∷◌, ◌++◌, length, take, drop, get_or, ap, ◌∙◌, arith, length-take-le, take-append-drop, take_more, Properties, is_nonstarter, has_starter, lead, has_starter-append, lead-append, trail-le-length, run_after, append_assoc, Start, Holds}
use Rattle.std.proofs.lemmas.Bool.Decides.{nat_tests}

-- more was put into the room
pub Holds-more : {start : Start} {room new due : List ℕ} (text : List ℕ) → new ≡ room ++ text → Holds start room due → Holds start new (due ++ text)
Holds-more text is holds = record { text = simp (is, ← append_assoc, holds.text) }

module _ (p : Properties) where
  -- while a row is pushed there is room for the next non-starter
  pub run_after-lt : (n : ℕ) (row : List ℕ) (i c : ℕ) → n + lead p row ≤ 30 → length row ≤ 18 → i < length row → c ≡ get_or row i c → is_nonstarter p c ≡ true
      → run_after p n (take i row) < 30
  run_after-lt n row i c room few within is mark =
      let has = ap (has_starter p) (rw (← is) at (take_more row i c within)) ∙ has_starter-append p (take i row) (c ∷ []) in
      let leads = rw take-append-drop at (lead-append p (take (i + 1) row) (drop (i + 1) row)) in
      grind (arith, nat_tests, has, leads, trail-le-length p (take i row), length-take-le (i + 1) row (omega arith), length-take-le i row (omega arith))
