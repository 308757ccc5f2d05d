-- What a call gave to a sink: bytes that stand after `before` in `whole`.
use Rattle.std.specs.Prelude.{◌≡◌, true, ℕ, ◌<◌, List, [], ◌++◌, length}
use Rattle.std.specs.Io.KnownBytes.{Appends}
use Rattle.nf_filter.specs.Devices.{SinkState}

-- it took all: a sink that stood failed, nothing
pub record Puts (old new : SinkState) (before whole : List ℕ) : Type 0 where
  pub out : List ℕ
  pub after : whole ≡ before ++ out
  pub given : Appends old.taken new.taken out
  pub stands : new.is_failed ≡ old.is_failed
  pub idle : old.is_failed ≡ true → out ≡ []

-- it failed, and took a part
pub record BreaksOff (old new : SinkState) (before whole : List ℕ) : Type 0 where
  pub out : List ℕ
  pub rest : List ℕ
  pub after : whole ≡ (before ++ out) ++ rest
  pub more : 0 < length rest
  pub given : Appends old.taken new.taken out
  pub failed : new.is_failed ≡ true
