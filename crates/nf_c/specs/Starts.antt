-- Whether numbers name a form and a policy.
use Rattle.std.specs.Prelude.{ℕ, nat_le, ◌&&◌, if◌then◌else◌}
use Rattle.nf_c.specs.declared.status.Status.{Status}
use Rattle.nf_c.specs.declared.status.Status.TheVariants.{Done, NoForm, NoPolicy}

abbrev pub start_status : ℕ → ℕ → Status
start_status form policy = if nat_le 1 form && nat_le form 4 then (if nat_le policy 3 then Done else NoPolicy) else NoForm
