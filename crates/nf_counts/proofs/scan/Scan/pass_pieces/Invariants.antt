use Rattle.std.proofs.Common.{◌≡◌, ◌-◌}
use Rattle.nf_forms.specs.Ucd.{ucd}
use Rattle.nf_counts.specs.Scan.{Reaches}
use Rattle.nf_counts.proofs.scan.Scan.pass_pieces.Given as goal

abbrev pub invariant-loop-self : goal.invariant-loop-self
invariant-loop-self l = record {
  text : l.self.text.now ≡ l.initial.self.text.now;
  reaches : Reaches ucd l.room l.self;
}

abbrev pub decreases-loop-self : goal.decreases-loop-self
decreases-loop-self l = l.to - l.self.at
