-- What `check` shows: whether the text is in the Stream-Safe Text Format (UAX #15, section 13), or stream-safe and in a form (The
-- Unicode Standard, section 3.11), and where it is not.
use Rattle.std.specs.Prelude.{ℕ, Bool, List, [], ◌∷◌, ◌++◌, Option, Some, None, Result, Ok, Err, codes, decimal, option_map}
use Rattle.nf_forms.specs.Properties.{Properties}
use Rattle.nf_forms.specs.declared.form.Form.{Form}
use Rattle.nf_safe.specs.declared.place.Place.{Place}
use Rattle.nf_filter.specs.declared.fault.Fault.{Fault as Found}
use Rattle.nf_filter.specs.Checks.{check_decision, no_place}
use Rattle.nf_normalized.specs.Change.{form_decision, form_value}
use Rattle.nf_cmd.specs.declared.fault.Fault.{Fault}
use Rattle.nf_cmd.specs.Faults.{told}
use Rattle.nf_cmd.specs.Surveys.{Tells}
use Rattle.nf_cmd.specs.Text.{name_of}

-- the line says that the text is so, or the place where it is not
abbrev pub check_line : List ℕ → Result (Option Place) Found → List ℕ
check_line so (Ok None) = so ++ 10 ∷ []
check_line so (Ok (Some place)) = codes "not " ++ (so ++ (codes " at character " ++ (decimal place.chars ++ (codes " byte " ++ (decimal place.bytes ++ 10 ∷ [])))))
check_line so (Err fault) = []

-- status 1 where there is a place
abbrev pub check_end : Result (Option Place) Found → Option (Result ℕ Fault)
check_end (Ok None) = Some (Ok 0)
check_end (Ok (Some place)) = Some (Ok 1)
check_end (Err fault) = option_map Err (told fault)

abbrev pub Checks : Properties → Option (List ℕ) → Option (List ℕ) → Option (List ℕ) → Option (List ℕ) → Result ℕ Fault → Type 0
Checks p coming left taken now found = Tells (check_decision p 0) no_place (check_line (codes "stream-safe")) check_end coming left taken now found

-- with `--form`: the place of the first character that the form changes, or a fault before it
abbrev pub ChecksForm : Form → Bool → Option (List ℕ) → Option (List ℕ) → Option (List ℕ) → Option (List ℕ) → Result ℕ Fault → Type 0
ChecksForm f assigned coming left taken now found = Tells (form_decision assigned f 0) (form_value f 0) (check_line (name_of f)) check_end coming left taken now found
