-- What a compatibility form takes from a text is not there for a canonical form after it: the ligature U+FB01.
use Rattle.std.proofs.Common.{◌≡◌, ◌≢◌, ℕ, List, [], ◌∷◌, refl, arith}
use Rattle.nf_facts.proofs.Common.{unicode_normalization, Form, Nfc, Nfd, Nfkc, Nfkd, ucd}
use Rattle.nf_forms.specs.Order.{by_class}
use Rattle.nf_forms.specs.SafeForm.{safe_form}
use Rattle.nf_facts.specs.After.{after}
use Rattle.nf_facts.proofs.FormsAfter.{safe_form-after}
use Rattle.nf_facts.proofs.laws.a_later_form_may_come_too_late.Goals as goal

ligature : List ℕ
ligature = 0xFB01 ∷ []

in_canonical : (safe_form Nfc ucd ligature ≡ 0xFB01 ∷ []) × (safe_form Nfd ucd ligature ≡ 0xFB01 ∷ [])
unfolding ligature safe_form by_class ucd unicode_normalization
in_canonical = (refl, refl)

in_compatible : (safe_form Nfkc ucd ligature ≡ 0x66 ∷ 0x69 ∷ []) × (safe_form Nfkd ucd ligature ≡ 0x66 ∷ 0x69 ∷ [])
unfolding ligature safe_form by_class ucd unicode_normalization
in_compatible = (refl, refl)

lost : (f g : Form) → after g f ≢ g → (x : List ℕ) × (safe_form g ucd (safe_form f ucd x) ≢ safe_form g ucd x)
lost Nfkc Nfc other = (ligature, λ same. grind (arith, safe_form-after Nfkc Nfc ligature, in_compatible, in_canonical))
lost f g other = (ligature, λ same. grind (arith, safe_form-after f g ligature, in_compatible, in_canonical))

pub returns : goal.returns
returns c = record { direct = λ f g same x. rw same at (safe_form-after f g x); lost = lost }
