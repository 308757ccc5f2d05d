-- What the caller's room holds of the text that is due.
use Rattle.std.specs.Prelude.{◌≡◌, List, ◌++◌, ℕ}

-- what was given away of the room so far, and what of the text that is due stands ahead of the part that is told
pub record Start : Type 0 where
  pub given : List ℕ
  pub ahead : List ℕ

-- all that is due and was not given away stands in the room
pub record Holds (start : Start) (room due : List ℕ) : Type 0 where
  pub text : start.ahead ++ due ≡ start.given ++ room
