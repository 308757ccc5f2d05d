-- Where bytes that are as expected end.
use Rattle.std.specs.Prelude.{◌≡◌, ℕ, ◌+◌, ◌<◌, ◌≤◌, ◌^◌, List, length, encode_utf8_all}
use Rattle.nf_utf8.specs.Reading.{text_of}
use Rattle.nf_safe.specs.declared.place.Place.{Place}

-- where so many characters were taken, up to this offset, and `held` of them kept, those that are as expected have a place
pub record PlaceFits (held now : List ℕ) (chars offset : ℕ) : Type 0 where
  pub chars_held : length (text_of held) ≤ chars
  pub bytes_held : length held ≤ offset
  pub bytes_fit : offset + length now < 2 ^ 64 + length held
  pub chars_fit : chars + length (text_of now) < 2 ^ 64 + length (text_of held)

-- the place after them
abbrev pub IsAfter : List ℕ → List ℕ → ℕ → ℕ → Place → Type 0
IsAfter held now chars offset place = (place.chars + length (text_of held) ≡ chars + length (text_of now)) × (place.bytes + length held ≡ offset + length (encode_utf8_all (text_of now)))
