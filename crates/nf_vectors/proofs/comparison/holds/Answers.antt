use Rattle.nf_vectors.proofs.Common.{◌∙◌, append-nil}
use Rattle.nf_vectors.proofs.HoldsLemmas.{holds-told}
use Rattle.nf_vectors.proofs.comparison.holds.Goals as goal

pub returns : goal.returns
returns g c = λ x e is is_expected. rw (c.is_ok-is_taken.ensures.value, c.is_met.ensures)
    (holds-told c.read_back.ensures _ _ _ x e c.as_bytes-2.ensures.utf8 (cc) c.new-sink.result c.convert.new.sink (c.new-sink.ensures.expected ∙ append-nil _ ∙ c.as_bytes.ensures.value ∙ is_expected) c.new-sink.ensures.none c.convert.result c.convert.ensures.converts)
