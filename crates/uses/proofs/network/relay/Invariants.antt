use Rattle.std.proofs.Common.{◌≡◌, ℕ, ◌-◌, ◌^◌, List, [], length}
use Rattle.std.specs.Io.KnownBytes.{Consumes}
use Rattle.nf_forms.specs.Ucd.{ucd}
use Rattle.nf_forms.specs.declared.form.Form.TheVariants.{Nfc}
use Rattle.nf_filter.specs.Writes.{Puts}
use Rattle.nf_filter.specs.Settled.{settled_utf8}
use Rattle.nf_filter.specs.Filter.{state_of, base_of, offset_of, StandsAfter}
use Rattle.nf_filter.specs.Policy.{as_is}
use Rattle.uses.proofs.network.relay.Given as goal

abbrev pub invariant-loop-come : goal.invariant-loop-come
invariant-loop-come g l = record {
  room : length l.packet ≡ 1500;
  base : base_of (state_of l.filter) ≡ 0;
  relayed : (come : List ℕ) × Consumes (g.C.Read.remaining l.fn.connection) (g.C.Read.remaining l.connection) come × StandsAfter as_is Nfc ucd (state_of l.filter) come
      × Puts (g.S.Sink.state l.fn.sink) (g.S.Sink.state l.sink) [] (settled_utf8 as_is Nfc ucd come);
  lender : (g.S.Sink.state l.sink).lender ≡ (g.S.Sink.state l.fn.sink).lender;
}

abbrev pub decreases-loop-come : goal.decreases-loop-come
decreases-loop-come g l = 2 ^ 64 - offset_of (state_of l.filter)
