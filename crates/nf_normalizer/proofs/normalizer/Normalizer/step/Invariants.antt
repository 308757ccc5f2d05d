use Rattle.nf_normalizer.proofs.Common.{◌≡◌, ◌+◌, ◌<◌, ◌≤◌, ◌⊎◌, ℕ, List, [], ◌++◌, length, IsUtf8, Form, Stands, StepsTo, IsWithin, Start}
use Rattle.std.specs.Str.{chars as characters}
use Rattle.nf_normalizer.proofs.normalizer.Normalizer.step.Given as goal

abbrev pub invariant-loop-room : goal.invariant-loop-room
invariant-loop-room g l = record {
  utf8 : IsUtf8 l.rest;
  left : length l.rest ≤ length l.text;
  gone : (front : List ℕ) × (characters l.text ≡ front ++ characters l.rest) × (l.put ≤ length front);
  within : IsWithin l.self;
  empty : l.formed.items ≡ [];
  begun : (length l.rest < length l.text) ⊎ (length l.room.items + 200 ≤ 4096);
  steps : (f : Form) (x : List ℕ) (start : Start) → Stands f (g.R.Rows.properties l.rows) l.fn.self start l.fn.room.items x (characters l.text)
      → StepsTo f (g.R.Rows.properties l.rows) l.self start l.room.items x l.text l.rest l.put;
}

abbrev pub decreases-loop-room : goal.decreases-loop-room
decreases-loop-room g l = length l.rest
