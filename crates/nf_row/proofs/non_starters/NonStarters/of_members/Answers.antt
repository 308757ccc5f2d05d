use Rattle.std.proofs.Common.{◌≡◌, ℕ, ◌+◌, List, [], ◌∷◌, ◌++◌, take, arith}
use Rattle.std.proofs.lemmas.List.{take_more}
use Rattle.std.proofs.lemmas.Bool.Decides.{nat_tests}
use Rattle.nf_forms.specs.Laws.Runs.{has_starter-append, lead-append, lead-marks, trail-push}
use Rattle.nf_row.proofs.non_starters.NonStarters.of_members.Goals as goal

pub loop-c-init : goal.loop-c-init
loop-c-init g c = let none = c.none-so_far.ensures (g.R.Rows.properties c.args.rows.now) in grind (arith, none)

pub loop-c-preserved : goal.loop-c-preserved
loop-c-preserved g c =
    let p = g.R.Rows.properties c.args.rows.now in
    let items : List ℕ = c.args.row.now in
    let i : ℕ = c.loop-c.c-index in
    let member : ℕ = c.c-item.result in
    let w = take i items in
    let more : take (i + 1) items ≡ w ++ member ∷ [] = rw c.c-item.is (take_more items i member c.loop-c-test.true) in
    rw more (grind (arith, nat_tests, has_starter-append p w (member ∷ []), lead-append p w (member ∷ []), lead-marks p w, trail-push p w member))
