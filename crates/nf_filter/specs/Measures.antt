-- What is measured of bytes, and where they cannot be measured (UAX #15, section 13; The Unicode Standard, section 3.9).
use Rattle.std.specs.Prelude.{◌≤◌, false, ℕ, List, Option, None, option_map, Result, Err}
use Rattle.nf_forms.specs.Properties.{Properties}
use Rattle.nf_utf8.specs.Reading.{text_of}
use Rattle.nf_safe.specs.declared.measure.Measure.{Measure}
use Rattle.nf_safe.specs.declared.measurer.Measurer.{Measurer}
use Rattle.nf_safe.specs.Measurer.{values_of, StandsAfter}
use Rattle.nf_safe.specs.Measures.{measure_of}
use Rattle.nf_filter.specs.declared.fault.Fault.{Fault}
use Rattle.nf_filter.specs.Policy.{as_is}
use Rattle.nf_filter.specs.Faults.{fault_in, first_fault}
use Rattle.nf_filter.specs.Counted.{utf8_place}

-- only a fault stops a measurement, the one at which a filter stops
abbrev pub measure_decision : Properties → ℕ → List ℕ → Option (Result Measure Fault)
measure_decision p base bytes = option_map Err (fault_in as_is p base bytes)

-- the measure of the text that the bytes spell
abbrev pub text_measure : Properties → List ℕ → Measure
text_measure p bytes = measure_of p (text_of bytes)

-- the measurer has seen the characters x
abbrev pub HasMeasured : Properties → Measurer → ℕ → List ℕ → Type 0
HasMeasured p measurer base x = StandsAfter p measurer x

-- and counts fewer bytes than this offset
abbrev pub ends_at : Measurer → ℕ → Type 0
ends_at measurer at = (values_of measurer).bytes ≤ at

-- what a text decides that begins at the offset `base`
abbrev pub unusable_decision : Properties → ℕ → List ℕ → Option (Result Measure Fault)
unusable_decision p base x = option_map Err (first_fault false p (utf8_place base) x None)
