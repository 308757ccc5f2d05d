-- What a starter composes to with what is held before it (The Unicode Standard, section 3.11, D117).
use Rattle.std.specs.Prelude.{ℕ, ◌==◌, Bool, ◌&&◌, List, length, Option, None, is_some, if◌then◌else◌, slice_index}
use Rattle.nf_forms.specs.Properties.{Properties}
use Rattle.nf_forms.specs.Compose.{composite}

-- the composite, where what is held comes to one starter alone and the form composes
abbrev pub composite_with : Properties → Bool → Option ℕ → List ℕ → ℕ → Option ℕ
composite_with p composes starter closed c = if composes && is_some starter && length closed == 1 then composite p (slice_index closed 0) c else None
