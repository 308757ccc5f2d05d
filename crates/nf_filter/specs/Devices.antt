-- What is known of a device.
use Rattle.std.specs.Prelude.{ℕ, Bool, List, Option}

pub record SinkState : Type 0 where
  pub taken : Option (List ℕ)  -- the bytes that it has taken, where it tells them
  pub is_failed : Bool  -- whether it stands failed, as it then does for good
  pub lender : ℕ  -- the ghost name of the borrow that it writes through, where it holds one

pub record SourceState : Type 0 where
  pub coming : Option (List ℕ)  -- the bytes that are still to come, where it tells them
  pub is_failed : Bool  -- whether it stands failed, as it then does for good
  pub is_at_end : Bool  -- whether it stands at its end
  pub lender : ℕ  -- the ghost name of the borrow that it reads through, where it holds one
