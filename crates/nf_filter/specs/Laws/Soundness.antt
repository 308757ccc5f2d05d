-- Data of sound characters alone has none that is refused. `src/laws.rt` has each statement as a contract.
use Rattle.std.specs.Prelude.{◌≡◌, ℕ, List, Option, Result, Err, IsTrue}
use Rattle.nf_forms.specs.Properties.{Properties}
use Rattle.nf_forms.specs.declared.form.Form.{Form}
use Rattle.nf_forms.specs.Sound.{is_sound}
use Rattle.nf_safe.specs.declared.place.Place.{Place}
use Rattle.nf_safe.specs.declared.measure.Measure.{Measure}
use Rattle.nf_filter.specs.declared.fault.Fault.{Fault}
use Rattle.nf_filter.specs.declared.fault.Fault.TheVariants.{Row}
use Rattle.nf_filter.specs.declared.policy.Policy.{Policy}
use Rattle.nf_filter.specs.declared.tally.Tally.{Tally}
use Rattle.nf_filter.specs.Devices.{SinkState, SourceState}
use Rattle.nf_filter.specs.Feeds.{Feeds}
use Rattle.nf_filter.specs.Drives.{Drives}
use Rattle.nf_filter.specs.Surveys.{Surveys}
use Rattle.nf_filter.specs.Checks.{check_decision, no_place}
use Rattle.nf_filter.specs.Measures.{measure_decision, text_measure}

-- each character of the data is sound
abbrev pub AreSound : Properties → Type 0
AreSound p = (c : ℕ) → IsTrue (is_sound p c)

-- no character is what was refused
abbrev pub RefusesNone : {T : Type 0} → Result T Fault → Type 0
RefusesNone result = (at : ℕ) → ¬ (result ≡ Err (Row at))

-- by feeding a piece
abbrev pub FeedingRefusesNone : Type 0
FeedingRefusesNone = (policy : Policy) (f : Form) (p : Properties) (base : ℕ) (bytes piece : List ℕ) (old new : SinkState) (result : Result (Unit {0}) Fault)
    → AreSound p → Feeds policy f p base bytes piece old new result → RefusesNone result

-- by driving a filter
abbrev pub DrivingRefusesNone : Type 0
DrivingRefusesNone = (most : ℕ) (policy : Policy) (f : Form) (p : Properties) (base : ℕ) (bytes : List ℕ) (source left : SourceState) (old new : SinkState) (result : Result Tally Fault)
    → AreSound p → Drives most policy f p base bytes source left old new result → RefusesNone result

-- by checking
abbrev pub CheckingRefusesNone : Type 0
CheckingRefusesNone = (most : ℕ) (p : Properties) (base : ℕ) (source left : SourceState) (result : Result (Option Place) Fault)
    → AreSound p → Surveys most base (check_decision p base) no_place source left result → RefusesNone result

-- by measuring
abbrev pub MeasuringRefusesNone : Type 0
MeasuringRefusesNone = (most : ℕ) (p : Properties) (base : ℕ) (source left : SourceState) (result : Result Measure Fault)
    → AreSound p → Surveys most base (measure_decision p base) (text_measure p) source left result → RefusesNone result
