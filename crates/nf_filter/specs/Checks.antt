-- Where a text is found not to be in the Stream-Safe Text Format, or cannot be read on (UAX #15, section 13; The Unicode
-- Standard, section 3.9).
use Rattle.std.specs.Prelude.{◌≡◌, true, ℕ, ◌+◌, List, length, Option, Some, None, option_map, Result, Ok, Err, if◌then◌else◌, take_while, encode_utf8_all}
use Rattle.std.specs.List.{list_all}
use Rattle.nf_forms.specs.Properties.{Properties}
use Rattle.nf_forms.specs.Sound.{is_sound}
use Rattle.nf_safe.specs.declared.place.Place.{Place}
use Rattle.nf_safe.specs.declared.checker.Checker.{Checker}
use Rattle.nf_safe.specs.Place.{place_from}
use Rattle.nf_safe.specs.Checker.{place_of, offset_of, StandsAfter}
use Rattle.nf_filter.specs.declared.fault.Fault.{Fault}
use Rattle.nf_filter.specs.declared.fault.Fault.TheVariants.{Row}
use Rattle.nf_filter.specs.Taker.{decided_in}

-- the characters before the first unsound one
abbrev pub sound_front : Properties → List ℕ → List ℕ
sound_front p x = take_while (is_sound p) x

-- a place comes before any fault
abbrev pub place_or_fault : Option Place → Option Fault → Option (Result (Option Place) Fault)
place_or_fault (Some place) fault = Some (Ok (Some place))
place_or_fault None fault = option_map Err fault

-- what a text decides, the first byte of which has the offset `base`: a place, or else the first unsound character
unfoldable pub text_decision : Properties → ℕ → List ℕ → Option (Result (Option Place) Fault)
text_decision p base x = place_or_fault (place_from base p (sound_front p x)) (if list_all (is_sound p) x then None else Some (Row (base + length (encode_utf8_all (sound_front p x)))))

-- what the bytes decide, the first of which has this offset: what their text does, or else their first ill-formed byte
unfoldable pub check_decision : Properties → ℕ → List ℕ → Option (Result (Option Place) Fault)
check_decision p base bytes = decided_in (text_decision p base) base bytes

-- a text without a place is stream-safe
abbrev pub no_place : List ℕ → Option Place
no_place bytes = None

-- a checker that was made at `base` has seen the characters x, all of them sound, and they are in the format
pub record HasChecked (p : Properties) (checker : Checker) (base : ℕ) (x : List ℕ) : Type 0 where
  pub stands : StandsAfter base p checker x
  pub none : place_of checker ≡ None
  pub sound : list_all (is_sound p) x ≡ true

-- it has not found a place, and has seen the text up to this offset
abbrev pub ends_at : Checker → ℕ → Type 0
ends_at checker at = (place_of checker ≡ None) × (offset_of checker ≡ at)
