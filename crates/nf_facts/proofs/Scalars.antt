-- What Unicode's data has for scalar values are scalar values, so that the form of a text is a text.
use Rattle.std.proofs.Common.{⊎_elim, ◌≡◌, ℕ, true, List, Some, refl, arith}
use Rattle.nf_facts.proofs.Common.{KitForm, false_from_ne_true, list_all, KitNfd, KitNfkd, decompose, Form, normal_form, ucd, kit_form}
use Rattle.std.proofs.Math.Utf8.{scalar, low_scalar}
use Rattle.std.specs.Str.{all_scalars}
use Rattle.unicode_normalization.proofs.DecomposeLemmas.{pick-none, primary_composite-some, IsCompositeOf-IsTableComposite}
use Rattle.unicode_normalization.proofs.KeptLemmas.{list_all-normalize}
use Rattle.nf_forms.specs.StreamSafe.{stream_safe}
use Rattle.nf_forms.specs.SafeForm.{safe_form}
use Rattle.nf_forms.specs.Twice.{HasScalarRows, ChangesOnce}
use Rattle.nf_forms.specs.Laws.Audited.{scalars-all, list_all-stream_safe}
use Rattle.nf_facts.proofs.Mapped.{CanonicalScalars, CompatScalars, OfScalar, IsMapped, mapped, by_row}
use Rattle.nf_facts.proofs.FormsAfter.{stream_safe-safe_form, safe_form-twice}
use Rattle.nf_facts.proofs.SameForms.{normal_form-ucd}
use Rattle.nf_facts.proofs.Rows.{is_sound-ucd}

-- ---- rows

scalars-mapped : (form : KitForm) (c : ℕ) → IsMapped c → list_all scalar (decompose form c) ≡ true
unfolding decompose
scalars-mapped KitNfd c with_mapping = with_mapping CanonicalScalars
scalars-mapped _ c with_mapping = search (with_mapping CanonicalScalars, with_mapping CompatScalars)

scalars-row : (form : KitForm) (c : ℕ) → scalar c ≡ true → list_all scalar (decompose form c) ≡ true
scalars-row form c is =
    by_row form c (λ w. list_all scalar w ≡ true) refl (λ x w _ high rest. rw (low_scalar x (omega arith)) rest) (rw is) (scalars-mapped form c)

pub scalar-rows : HasScalarRows ucd
unfolding ucd
scalar-rows = record { canonical = λ c is. rw scalars-all (scalars-row KitNfd c is); compat = λ c is. rw scalars-all (scalars-row KitNfkd c is) }

-- ---- composites

pub scalar-pair : (a b c : ℕ) → ucd.pair a b ≡ Some c → scalar c ≡ true
unfolding ucd
scalar-pair a b c h =
    ⊎_elim (λ hangul. low_scalar c (grind arith))
    (λ table. mapped c (IsCompositeOf-IsTableComposite a b c table).both_other (false_from_ne_true _ (λ none. let empty = pick-none KitNfd c none in let some = table.mapping in cc)) OfScalar)
    (primary_composite-some a b c h)

-- ---- forms

pub scalars-normal_form : (f : Form) (x : List ℕ) → all_scalars x ≡ true → all_scalars (normal_form f ucd x) ≡ true
unfolding ucd
scalars-normal_form f x is =
    rw (normal_form-ucd f x, scalars-all) (list_all-normalize (kit_form f) scalar (scalars-row (kit_form f)) (λ a b c _ _. scalar-pair a b c) x (rw scalars-all at is))

pub changes_once : (f : Form) → ChangesOnce f ucd
unfolding safe_form
changes_once f = record {
  text = λ x is. scalars-normal_form f (stream_safe ucd x) (rw scalars-all (list_all-stream_safe ucd scalar refl x (rw scalars-all at is)));
  sound = λ c _. is_sound-ucd c;
  safe = λ x _. stream_safe-safe_form f x;
  form = λ x _. safe_form-twice f x;
}
