-- What a second run makes of what `convert` wrote.
use Rattle.std.specs.Prelude.{◌≡◌, ◌⊎◌, ℕ, List}
use Rattle.clap.specs.Walk.{Text}
use Rattle.nf_forms.specs.declared.form.Form.{Form}
use Rattle.nf_forms.specs.Ucd.{ucd}
use Rattle.nf_filter.specs.declared.policy.Policy.{Policy}
use Rattle.nf_filter.specs.Again.{AddsWhatStays}
use Rattle.nf_cmd.specs.declared.line.Request.TheVariants.{Convert, ConvertLines}
use Rattle.nf_cmd.specs.Answers.{Devices, IsDone}

-- where the words ask for `convert`, with `--line-buffered` or without it, and the status is 0, a second run in this form
-- changes nothing of what the output took
abbrev pub ConvertsOnce : List Text → Devices → Devices → ℕ → Type 0
ConvertsOnce words before after status = (f : Form) (policy : Policy) (done : IsDone words before after status) → (done.request ≡ Convert f policy) ⊎ (done.request ≡ ConvertLines f policy) → status ≡ 0 → AddsWhatStays f ucd before.out after.out
