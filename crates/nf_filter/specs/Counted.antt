-- Where the characters taken leave a normalizer whose characters are counted.
use Rattle.std.specs.Prelude.{◌≡◌, ℕ, ◌+◌, ◌≤◌, List, ◌∷◌, ◌++◌, length, encode_utf8_all}
use Rattle.nf_forms.specs.Properties.{Properties}
use Rattle.nf_forms.specs.declared.form.Form.{Form}
use Rattle.nf_forms.specs.StreamSafe.{stream_safe}
use Rattle.nf_utf8.specs.Replaced.{decoded_of, source_in}
use Rattle.nf_normalizer.specs.Normalizer.{HasTaken as Takes, IsWithin as IsReady}
use Rattle.nf_filter.specs.declared.counted.Counted.{Counted}
pub use Rattle.nf_normalizer.specs.Normalizer.{settled_text}

-- the characters x were taken, and counted
pub record HasTaken (f : Form) (p : Properties) (counted : Counted) (x : List ℕ) : Type 0 where
  pub machine : Takes f p counted.normalizer x
  pub chars : counted.chars ≡ length x
  pub put : length (stream_safe p x) ≡ length x + counted.put

-- no more joiners were put than characters taken
pub record IsWithin (counted : Counted) : Type 0 where
  pub machine : IsReady counted.normalizer
  pub put : counted.put ≤ counted.chars

-- what it has taken ends at this offset, and what it counts fits below it
abbrev pub ends_at : Counted → ℕ → Type 0
ends_at counted at = IsWithin counted × (counted.chars ≤ at)

-- where what stands after a front of UTF-8 begins, the first byte of which has the offset `base`
abbrev pub utf8_place : ℕ → List ℕ → ℕ
utf8_place base front = base + length (encode_utf8_all front)

-- the offset of the character before which the text of the bytes has n bytes, where the first of them has the offset `begin`
abbrev pub told_by : ℕ → List ℕ → ℕ → ℕ
told_by begin bytes n = begin + source_in (decoded_of bytes) n

-- so `place` tells it of each character of the text y after x, before which their text has `at` bytes
abbrev pub IsPlacedAt : (List ℕ → ℕ) → ℕ → List ℕ → ℕ → List ℕ → List ℕ → Type 0
IsPlacedAt place begin bytes at x y = (front : List ℕ) (c : ℕ) (rest : List ℕ) → y ≡ front ++ c ∷ rest → place (x ++ front) ≡ told_by begin bytes (at + length (encode_utf8_all front))
