use Rattle.nf_filter.proofs.Common.{◌≡◌, ℕ, ◌-◌, ◌<◌, ◌^◌, List, [], length, Consumes, Survey}
use Rattle.nf_filter.proofs.sources.survey.Given as goal

abbrev pub invariant-loop-given : goal.invariant-loop-given
invariant-loop-given g l = record {
  room : length l.buffer ≡ length l.fn.buffer;
  ready : g.S.Surveyor.is_ready l.surveyor;
  fits : g.S.Surveyor.offset l.surveyor < 2 ^ 64;
  fed : (fed : List ℕ) × Consumes (g.I.Source.state l.fn.source).coming (g.I.Source.state l.source).coming fed
      × ((survey : Survey g.row.S-Answer.Denot) → g.S.Surveyor.has_taken l.fn.surveyor survey [] → g.S.Surveyor.has_taken l.surveyor survey fed);
  lender : (g.I.Source.state l.source).lender ≡ (g.I.Source.state l.fn.source).lender;
}

abbrev pub decreases-loop-given : goal.decreases-loop-given
decreases-loop-given g l = 2 ^ 64 - g.S.Surveyor.offset l.surveyor
