use Rattle.std.proofs.Common.{sym, ◌∙◌, subst}
use Rattle.nf_forms.specs.Ucd.{ucd}
use Rattle.nf_filter.specs.Saved.{IsRestorable}
use Rattle.nf_c.proofs.starting.kept.Goals as goal

pub returns-clause-stands : goal.returns-clause-stands
returns-clause-stands c = λ policy f bytes stands. record {
  can = (c.pack.ensures.state, subst (IsRestorable ucd) (sym c.pack.ensures.saved) (c.save.ensures.restorable policy f bytes stands));
  saved = sym (c.pack.ensures.saved ∙ c.save.ensures.saved);
  stands = stands;
}
