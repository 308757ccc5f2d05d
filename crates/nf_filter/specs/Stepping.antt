-- A text, step by step, to a sink.
use Rattle.std.specs.Prelude.{◌≡◌, ◌+◌, ℕ, List, length, chars}
use Rattle.nf_forms.specs.Properties.{Properties}
use Rattle.nf_forms.specs.declared.form.Form.{Form}
use Rattle.nf_forms.specs.StreamSafe.{stream_safe}
use Rattle.nf_normalizer.specs.Front.{Leaves, Stands}
use Rattle.nf_filter.specs.declared.counted.Counted.{Counted}
use Rattle.nf_filter.specs.Writes.{Puts}
use Rattle.nf_filter.specs.Block.{Start, BlockState}
use Rattle.nf_filter.specs.Taker.{HasTakenFront}
use Rattle.nf_normalizer.specs.Normalizer.{IsWithin as IsReady}

-- the normalizer stands after x, before `next`, and what of x is settled was written
pub record Standing (f : Form) (p : Properties) (counted : Counted) (start : Start) (now : BlockState) (x next : List ℕ) : Type 0 where
  pub given : List ℕ
  pub puts : Puts start.sink now.sink start.before given
  pub stands : Stands f p counted.normalizer (record { given = given; ahead = start.ahead }) now.kept x next
  pub put : length (stream_safe p x) ≡ length x + counted.put

-- after x a front of the text was taken; `rest` is what stands after that
abbrev pub StandsInFront : Form → Properties → Counted → Start → BlockState → List ℕ → List ℕ → List ℕ → Type 0
StandsInFront f p counted start now x text rest = HasTakenFront (λ y. Standing f p counted start now y (chars rest)) x text rest

-- a front of the text is past, with at most a joiner a character
pub record HasStepped (old new : Counted) (text rest : List ℕ) : Type 0 where
  pub n : ℕ
  pub leaves : Leaves text rest n
  pub within : IsReady new.normalizer
  pub count : new.chars ≡ old.chars
  pub put : new.put ≡ old.put + n
