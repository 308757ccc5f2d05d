use Rattle.std.proofs.Common.{◌≡◌, ◌≤◌, ℕ, List, true, take, arith}
use Rattle.std.specs.Prelude.{chars, IsUtf8}
use Rattle.std.specs.List.{list_all}
use Rattle.std.specs.Str.{IsCharBoundary}
use Rattle.std.proofs.lemmas.List.Sums.{list_all-from_AllPass}
use Rattle.nf_forms.specs.Ucd.{is_assigned}
use Rattle.nf_lanes.proofs.LooksLemmas.{told_front}
use Rattle.nf_assigned.specs.Bytes.{AreTold, IsTold}
use Rattle.nf_assigned.proofs.ToldLemmas.{known, tells}
use Rattle.nf_assigned.proofs.front.assigned_front.Goals as goal

are_assigned : (text : List ℕ) (n m : ℕ) → IsUtf8 text → IsCharBoundary text n → n ≤ m → AreTold text m → list_all is_assigned (chars (take n text)) ≡ true
are_assigned text n m u boundary within told = list_all-from_AllPass is_assigned _ (told_front _ _ _ known IsTold tells text n m u boundary within told)

pub returns-in-Ok-clause-assigned : goal.returns-in-Ok-clause-assigned
returns-in-Ok-clause-assigned c =
    are_assigned c.args.text.now c.floor_char_boundary.result _ c.utf8.text c.floor_char_boundary.ensures.boundary c.floor_char_boundary.ensures.bound (c.in-Ok.ensures.0.2)

pub returns-in-Err-clause-assigned : goal.returns-in-Err-clause-assigned
returns-in-Err-clause-assigned c =
    are_assigned c.args.text.now c.in-Err.place _ c.utf8.text (search (arith)) (omega arith) (c.in-Err.ensures.0.2)
