-- What an audit of character data tells: the least scalar value that fails, and the first rule that it fails.
use Rattle.std.specs.Prelude.{ℕ, ◌<◌, Option, Some, None, IsTrue}
use Rattle.std.specs.Char.{IsScalar}
use Rattle.nf_forms.specs.Properties.{Properties}
use Rattle.nf_forms.specs.Sound.{is_sound}
use Rattle.nf_forms.specs.Audit.{HasFullRows, HasRowWithin, HasOwnMarks, PassesAudit}
use Rattle.nf_row.specs.declared.unsound.Unsound.{Unsound}
use Rattle.nf_row.specs.declared.unsound.Rule.{Rule}
use Rattle.nf_row.specs.declared.unsound.Rule.TheVariants.{A1, A2, A3, A4}

-- c is as the rule asks
abbrev pub Passes : Properties → ℕ → Rule → Type 0
Passes p c A1 = IsTrue (is_sound p c)
Passes p c A2 = HasFullRows p c
Passes p c A3 = HasRowWithin p c
Passes p c A4 = HasOwnMarks p c

-- it is as the rules before this one ask, and not as this one does
abbrev pub FailsFirst : Properties → ℕ → Rule → Type 0
FailsFirst p c A1 = ¬ Passes p c A1
FailsFirst p c A2 = Passes p c A1 × ¬ Passes p c A2
FailsFirst p c A3 = Passes p c A1 × Passes p c A2 × ¬ Passes p c A3
FailsFirst p c A4 = Passes p c A1 × Passes p c A2 × Passes p c A3 × ¬ Passes p c A4

-- the first rule that c fails; none where it passes
abbrev pub IsFirstFailed : Properties → ℕ → Option Rule → Type 0
IsFirstFailed p c None = PassesAudit p c
IsFirstFailed p c (Some rule) = FailsFirst p c rule

-- no scalar value below it fails, and this is the first rule that it fails
pub record IsLeastFault (p : Properties) (fault : Unsound) : Type 0 where
  pub scalar : IsScalar fault.c
  pub below : (c : ℕ) → c < fault.c → IsScalar c → PassesAudit p c
  pub fails : FailsFirst p fault.c fault.rule
