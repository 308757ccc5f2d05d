-- A text that was taken decides nothing.
use Rattle.std.proofs.Common.{◌≡◌, ℕ, Bool, true, List, [], ◌∷◌, None, refl, sym, ◌∙◌}
use Rattle.std.specs.List.{list_all, take_while}
use Rattle.std.proofs.lemmas.Bool.{and_parts}
use Rattle.std.proofs.lemmas.List.Sums.{take_while-cons}
use Rattle.nf_forms.specs.Properties.{Properties}
use Rattle.nf_forms.specs.Sound.{is_sound}
use Rattle.nf_safe.specs.declared.checker.Checker.{Checker}
use Rattle.nf_safe.specs.declared.measurer.Measurer.{Measurer}
use Rattle.nf_safe.specs.Place.{place_from}
use Rattle.nf_filter.specs.Settled.{is_usable}
use Rattle.nf_filter.specs.Checks.{text_decision, HasChecked}
use Rattle.nf_filter.specs.Measures.{unusable_decision, HasMeasured}

pub take_while-all : (test : ℕ → Bool) (x : List ℕ) → list_all test x ≡ true → take_while test x ≡ x
take_while-all test [] all = refl
take_while-all test (c ∷ x) all =
    let parts = and_parts (test c) (list_all test x) all in
    rw (take_while-cons test c x, parts.0, take_while-all test x parts.1)

-- sound text without a place
pub no_stop : (p : Properties) (base : ℕ) (x : List ℕ) → list_all (is_sound p) x ≡ true → place_from base p x ≡ None → text_decision p base x ≡ None
unfolding text_decision
no_stop p base x all none = rw (take_while-all (is_sound p) x all, all, none)

pub checked_undecided : (p : Properties) (checker : Checker) (base : ℕ) (x : List ℕ) → HasChecked p checker base x → text_decision p base x ≡ None
checked_undecided p checker base x seen = no_stop p base x seen.sound (sym seen.stands.place ∙ seen.none)

-- usable text
pub measured_undecided : (p : Properties) (measurer : Measurer) (base : ℕ) (x : List ℕ) → HasMeasured p measurer base x → unusable_decision p base x ≡ None
unfolding is_usable
measured_undecided p measurer base x seen = rw seen.sound
