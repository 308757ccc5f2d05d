use Rattle.std.proofs.Common.{◌≡◌, ◌-◌, length}
use Rattle.nf_forms.specs.Ucd.{ucd}
use Rattle.nf_counts.specs.Scan.{Reaches}
use Rattle.nf_counts.specs.Window.{AreLeft}
use Rattle.nf_counts.proofs.scan.Scan.pass_window.Given as goal

abbrev pub invariant-loop-place : goal.invariant-loop-place
invariant-loop-place l = record {
  text : l.self.text.now ≡ l.text;
  base : l.window.base ≡ l.base;
  left : AreLeft l.text l.self.at l.window;
  reaches : Reaches ucd l.room l.self;
}

abbrev pub decreases-loop-place : goal.decreases-loop-place
decreases-loop-place l = length l.text - l.self.at
