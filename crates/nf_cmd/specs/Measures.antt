-- What `measure` shows.
use Rattle.std.specs.Prelude.{ℕ, List, [], ◌++◌, Option, Result, Ok, Err, codes}
use Rattle.nf_forms.specs.Properties.{Properties}
use Rattle.nf_safe.specs.declared.measure.Measure.{Measure}
use Rattle.nf_filter.specs.declared.fault.Fault.{Fault as Found}
use Rattle.nf_filter.specs.Measures.{measure_decision, text_measure}
use Rattle.nf_cmd.specs.declared.fault.Fault.{Fault}
use Rattle.nf_cmd.specs.Converts.{end_of}
use Rattle.nf_cmd.specs.Surveys.{Tells}
use Rattle.nf_cmd.specs.Text.{line}

abbrev pub measure_lines : Result Measure Found → List ℕ
measure_lines (Ok m) =
    ((((line (codes "bytes") m.bytes
    ++ line (codes "characters") m.chars)
    ++ line (codes "non-starters") m.nonstarters)
    ++ line (codes "longest run") m.longest)
    ++ line (codes "put") m.put)
    ++ line (codes "unassigned") m.unassigned
measure_lines (Err fault) = []

abbrev pub Measures : Properties → Option (List ℕ) → Option (List ℕ) → Option (List ℕ) → Option (List ℕ) → Result ℕ Fault → Type 0
Measures p coming left taken now found = Tells (measure_decision p 0) (text_measure p) measure_lines end_of coming left taken now found
