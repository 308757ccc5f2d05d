use Rattle.std.proofs.Common.{◌≡◌, true, sym, ap, ◌∙◌, arith}
use Rattle.nf_forms.specs.Ucd.{ucd}
use Rattle.nf_facts.specs.Passing.{is_among, composing_classes}
use Rattle.nf_row.proofs.own.class_may_compose.Goals as goal

pub returns-else-not-is_ucd : goal.returns-else-not-is_ucd
unfolding ucd
returns-else-not-is_ucd g c = λ none a x class.
    let known : c.is_ucd.result ≡ true = grind (arith, c.if-not-is_ucd.false) in
    let same = c.is_ucd.ensures known in
    rw same (c.few_classes_compose.ensures a x (ap (is_among composing_classes) (rw same at class) ∙ sym c.is_composing.ensures ∙ none))
