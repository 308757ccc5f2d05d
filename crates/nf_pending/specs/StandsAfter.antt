-- When a pending machine stands after the decomposed text that was pushed to it.
use Rattle.std.specs.Prelude.{◌≡◌, ℕ, ◌==◌, false, Bool, if◌then◌else◌, List, ◌++◌, length, map, Option, None}
use Rattle.std.specs.Option.{option_to_list}
use Rattle.nf_forms.specs.Properties.{Properties}
use Rattle.nf_forms.specs.Runs.{has_starter, trail}
use Rattle.nf_forms.specs.Front.{back}
use Rattle.nf_forms.specs.Order.{by_class}
use Rattle.nf_forms.specs.declared.form.Form.{Form}
use Rattle.nf_forms.specs.Forms.{composes, finished}
use Rattle.nf_boundary.specs.declared.mark.Mark.{Mark}
use Rattle.nf_pending.specs.declared.pending.Pending.{Pending}
use Rattle.nf_boundary.specs.Mark.{mark_of}

-- what the machine holds, and whether its form composes
abbrev pub starter_of : Pending → Option ℕ
starter_of pending = pending.starter

abbrev pub marks_of : Pending → List Mark
marks_of pending = pending.marks.items

abbrev pub composes_of : Pending → Bool
composes_of pending = pending.composes

-- how many marks the machine holds
abbrev pub run_len : Pending → ℕ
run_len pending = length pending.marks.items

-- the starter that it holds, where it holds no marks
abbrev pub alone : Pending → Option ℕ
alone pending = if run_len pending == 0 then pending.starter else None

-- The text is a head that ends in no mark, and then marks. The machine holds what the finished head has from its last
-- starter on, which is that starter, and the marks in order of class.
pub record StandsAfter (f : Form) (p : Properties) (pending : Pending) (w : List ℕ) : Type 0 where
  pub head : List ℕ
  pub run : List ℕ
  pub text : w ≡ head ++ run
  pub ends : trail p head ≡ 0
  pub marks : has_starter p run ≡ false
  pub composes : pending.composes ≡ composes f
  pub starter : option_to_list pending.starter ≡ back p (finished f p head)
  pub held : pending.marks.items ≡ map (mark_of p) (by_class p run)
