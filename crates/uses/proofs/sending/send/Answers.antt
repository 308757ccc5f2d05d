use Rattle.std.proofs.Common.{◌≡◌, false, ℕ, List, [], Option, Some, Result, Ok, Err, sym, ap, ◌∙◌, OnOk}
use Rattle.nf_forms.specs.Properties.{Properties}
use Rattle.nf_forms.specs.Ucd.{ucd}
use Rattle.nf_forms.specs.declared.form.Form.{Form}
use Rattle.nf_forms.specs.declared.form.Form.TheVariants.{Nfc}
use Rattle.nf_utf8.specs.Reading.{text_of, ending_of}
use Rattle.nf_utf8.specs.Reads.{Reads}
use Rattle.nf_filter.specs.declared.fault.Fault.{Fault}
use Rattle.nf_filter.specs.declared.tally.Tally.{Tally}
use Rattle.nf_filter.specs.Devices.{SinkState}
use Rattle.nf_filter.specs.ToWriter.{writer_of, has_failed}
use Rattle.nf_filter.specs.Whole.{Converts, IsFormOf}
use Rattle.nf_filter.proofs.WholeLemmas.{IsFormOf-from}
use Rattle.uses.specs.Sends.{Sends}
use Rattle.uses.proofs.sending.send.Goals as goal

-- what a writer holds that held nothing
form_of : (f : Form) (p : Properties) (bytes : List ℕ) (old new : SinkState) (held holds : Option (List ℕ)) → old.taken ≡ held → new.taken ≡ holds
    → Reads bytes (text_of bytes) (ending_of bytes) → (r : Result Tally Fault) → Converts f p bytes old new r
    → OnOk r ((out : List ℕ) → held ≡ Some [] → holds ≡ Some out → IsFormOf f p bytes out)
form_of f p bytes old new held holds was is reads (Ok tally) converts = λ out before after. IsFormOf-from (was ∙ before) (is ∙ after) reads converts
form_of f p bytes old new held holds was is reads (Err fault) converts = tt

pub returns-clause-form : goal.returns-clause-form
returns-clause-form g c =
    form_of Nfc ucd c.args.text.now _ _ (g.W.Write.contents c.args.writer) (g.W.Write.contents c.into_inner.result)
    (ap (λ s. g.W.Write.contents (writer_of s)) c.new-sink.ensures ∙ ap g.W.Write.contents c.new.ensures.writer)
    (ap (λ s. g.W.Write.contents (writer_of s)) (sym c.into_parts-sink.ensures.sink) ∙ ap g.W.Write.contents (sym c.into_inner.ensures))
    (c.longest_text.ensures.reads c.args.text.now) c.convert-answer.result c.convert-answer.ensures.converts

sends_from : (f : Form) (p : Properties) (bytes : List ℕ) (old new : SinkState) (held holds : Option (List ℕ)) (r : Result Tally Fault) → old.taken ≡ held → new.taken ≡ holds → old.is_failed ≡ false → Converts f p bytes old new r → Sends f p bytes held holds r
sends_from f p bytes old new held holds r was is unfailed converts = record { old = old; new = new; output_is = (was, is); unfailed = unfailed; converts = converts }

pub returns-clause-sends : goal.returns-clause-sends
returns-clause-sends g c =
    sends_from Nfc ucd c.args.text.now _ _ (g.W.Write.contents c.args.writer) (g.W.Write.contents c.into_inner.result) c.convert-answer.result
    (ap (λ s. g.W.Write.contents (writer_of s)) c.new-sink.ensures ∙ ap g.W.Write.contents c.new.ensures.writer)
    (ap (λ s. g.W.Write.contents (writer_of s)) (sym c.into_parts-sink.ensures.sink) ∙ ap g.W.Write.contents (sym c.into_inner.ensures))
    (ap (λ s. has_failed s) c.new-sink.ensures ∙ c.new.ensures.stands)
    c.convert-answer.ensures.converts
