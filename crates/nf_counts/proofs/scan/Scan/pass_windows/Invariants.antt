use Rattle.std.proofs.Common.{◌≡◌, ◌-◌, ◌≤◌, length}
use Rattle.nf_forms.specs.Ucd.{ucd}
use Rattle.nf_counts.specs.Scan.{Reaches}
use Rattle.nf_counts.specs.Window.{AreAsked}
use Rattle.nf_counts.proofs.scan.Scan.pass_windows.Given as goal

abbrev pub invariant-loop-self : goal.invariant-loop-self
invariant-loop-self l = record {
  text : l.self.text.now ≡ l.text;
  within : l.base ≤ length l.text;
  asked : AreAsked l.text l.self.at l.base;
  reaches : Reaches ucd l.room l.self;
}

abbrev pub decreases-loop-self : goal.decreases-loop-self
decreases-loop-self l = length l.text - l.base
