-- What the class and the quick check tell of a character after a span (UAX #15, section 9).
use Rattle.std.specs.Prelude.{ℕ, Bool, not, ◌&&◌, ◌||◌, ◌==◌, nat_le, nat_lt, if◌then◌else◌}
use Rattle.ucd_normal.specs.CanonicalCombiningClass.{canonical_combining_class}
use Rattle.ucd_normal.specs.QuickCheck.{quick_check}
use Rattle.nf_forms.specs.declared.form.Form.{Form}
use Rattle.nf_forms.specs.StreamSafe.{max_run}
use Rattle.nf_facts.specs.KitForm.{kit_form}
use Rattle.nf_facts.specs.Passing.{is_among, is_yes, halfwidth_marks}

-- c goes on where no mark at the end is of a class above k, and NFKD ends in at most n non-starters
abbrev pub goes_on : Form → ℕ → ℕ → ℕ → Bool
goes_on f k n c = is_yes (quick_check (kit_form f) c)
    && (if canonical_combining_class c == 0 then (not (is_among halfwidth_marks c) || nat_lt n max_run) else (nat_le k (canonical_combining_class c) && nat_lt n max_run))
