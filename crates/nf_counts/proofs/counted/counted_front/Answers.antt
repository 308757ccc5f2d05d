use Rattle.std.proofs.Common.{◌≡◌, take-append-drop}
use Rattle.std.specs.Prelude.{chars}
use Rattle.nf_counts.proofs.PieceLemmas.{boundary, chars_are}
use Rattle.nf_counts.proofs.counted.counted_front.Goals as goal

pub split_at-requires : goal.split_at-requires
split_at-requires c = rw (c.pass_front.ensures.text, c.new-scan.ensures.text) at (boundary _ _ _ c.pass_front.ensures.reaches.begins)

pub returns : goal.returns
returns c =
    let here = c.pass_front.ensures.reaches in
    let begins = rw (c.pass_front.ensures.text, c.new-scan.ensures.text) at here.begins in
    let same : here.front ≡ chars c.split_at.result.0.now = rw c.split_at.ensures.front (chars_are _ _ _ begins c.utf8.text) in
    record {
      split = rw (c.split_at.ensures.front, c.split_at.ensures.back, take-append-drop);
      sound = rw (← same) here.sound;
      unassigned = rw (← same) here.unassigned;
      counts = rw (← same) here.counts;
      leads = here.leads;
    }
