-- Where a form changes a text (The Unicode Standard, section 3.11; UAX #15, sections 9 and 13).
use Rattle.std.specs.Prelude.{ℕ, Bool, List, length, take, Option, Some, None, Result, if◌then◌else◌, bytes_eq, false}
use Rattle.nf_forms.specs.Ucd.{ucd}
use Rattle.nf_forms.specs.declared.form.Form.{Form}
use Rattle.nf_forms.specs.SafeForm.{safe_form}
use Rattle.nf_utf8.specs.Reading.{text_of}
use Rattle.nf_safe.specs.declared.place.Place.{Place}
use Rattle.nf_safe.specs.Place.{place_at}
use Rattle.nf_filter.specs.declared.fault.Fault.{Fault}
use Rattle.nf_filter.specs.declared.policy.Policy.{Policy}
use Rattle.nf_filter.specs.Policy.{allowed}
use Rattle.nf_filter.specs.Faults.{fault_in}
use Rattle.nf_filter.specs.Settled.{settled, usable}
use Rattle.nf_filter.specs.Checks.{place_or_fault}
use Rattle.nf_filter.specs.InCommon.{common}

-- where in x, the first byte of which has the offset `base`, the form is another text: at its end where the form only goes on; none
-- where x is its own form
unfoldable pub change_at : ℕ → Form → List ℕ → Option Place
change_at base f x = if bytes_eq (safe_form f ucd x) x then None else Some (place_at base x (common x (safe_form f ucd x)))

-- the same of what is settled so far of the form: none as long as x begins with that
abbrev pub settled_change_at : ℕ → List ℕ → List ℕ → Option Place
settled_change_at base x made = if bytes_eq made (take (length made) x) then None else Some (place_at base x (common x made))

-- nothing is replaced
abbrev pub under : Bool → Policy
under assigned = record { replace = false; assigned = assigned }

-- what is settled of the form of the characters that are taken
abbrev pub made_of : Bool → Form → List ℕ → List ℕ
made_of assigned f x = settled f ucd (usable ucd (allowed assigned ucd x))

-- what the bytes, the first of which has the offset `base`, decide, whatever follows them: the place of a change comes before any
-- fault
unfoldable pub form_decision : Bool → Form → ℕ → List ℕ → Option (Result (Option Place) Fault)
form_decision assigned f base bytes =
    place_or_fault (settled_change_at base (text_of bytes) (made_of assigned f (text_of bytes))) (fault_in (under assigned) ucd base bytes)

-- what they come to where they are all
abbrev pub form_value : Form → ℕ → List ℕ → Option Place
form_value f base bytes = change_at base f (text_of bytes)
