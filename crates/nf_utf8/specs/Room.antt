-- What a contract sees of a room: the bytes that it holds.
use Rattle.std.specs.Prelude.{ℕ, List}

pub record Room : Type 0 where
  pub items : List ℕ
