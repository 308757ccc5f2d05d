-- Bytes of UTF-8 (The Unicode Standard, section 3.9, Table 3-6) that tell of the characters that they begin.
use Rattle.std.specs.Prelude.{◌≡◌, ◌+◌, ◌<◌, ◌≤◌, ◌⊎◌, ◌==◌, ◌++◌, ℕ, Bool, true, false, not, List, slice_index, length, drop, encode_utf8}
use Rattle.std.specs.Int.{bit_at}
use Rattle.nf_forms.specs.Ucd.{is_assigned}
use Rattle.nf_lanes.specs.Looks.{is_in, NoneFound}
use Rattle.nf_lanes.specs.Scripts.{IsToldInScript}
use Rattle.nf_lanes.specs.Sets.{byte_sets}
use Rattle.nf_lanes.specs.declared.sets.Pairs.{Pairs}
use Rattle.nf_assigned.specs.declared.leads.TheConstants.{HIGH, LOW}
use Rattle.nf_assigned.specs.declared.pairs.TheConstants.{FIRST, SECOND}
use Rattle.nf_assigned.specs.declared.scripts.TheConstants.{SCRIPTS}

-- what this lead byte begins has to be looked up
abbrev pub finds_lead : ℕ → ℕ → Bool
finds_lead byte next = not (byte_sets HIGH LOW byte == 0)

-- one of the two of pairs
abbrev pub IsFamily : Pairs → Type 0
IsFamily family = (family ≡ FIRST) ⊎ (family ≡ SECOND)

-- whether the character that begins with byte k is assigned
abbrev pub IsAssignedAt : Bool → List ℕ → ℕ → Type 0
IsAssignedAt answer bytes k = (c : ℕ) (rest : List ℕ) → drop k bytes ≡ encode_utf8 c ++ rest → is_assigned c ≡ answer

-- its lead byte tells of it, or that a family has no pair of it, or one of a script, or a look-up
abbrev pub IsTold : List ℕ → ℕ → Type 0
IsTold bytes k =
    NoneFound finds_lead bytes k ⊎ (NoneFound (is_in FIRST) bytes k ⊎ (NoneFound (is_in SECOND) bytes k ⊎ (IsToldInScript SCRIPTS bytes k ⊎ IsAssignedAt true bytes k)))

-- so of each of the bytes before n that is no less than CD
abbrev pub AreTold : List ℕ → ℕ → Type 0
AreTold bytes n = (k : ℕ) → k < n → 0xCD ≤ slice_index bytes k → IsTold bytes k

-- so many bytes of a text, no fewer than the least, of which all is told
abbrev pub IsFront : List ℕ → ℕ → ℕ → Type 0
IsFront text least n = (least ≤ n) × (n ≤ length text) × AreTold text n

-- there an unassigned character begins, which is of more bytes than one
abbrev pub StopsAt : List ℕ → ℕ → Type 0
StopsAt text n = IsFront text 0 n × (n < length text) × (0xC0 ≤ slice_index text n) × IsAssignedAt false text n

-- a bit for each of 63 bytes from `at` on: where it is set a character of more bytes than one begins, and where not all is told
pub record AreFound (bytes : List ℕ) (at found : ℕ) : Type 0 where
  pub leads : (k : ℕ) → k < 64 → bit_at found k ≡ 1 → (k < 63) × (0xC0 ≤ slice_index bytes (at + k))
  pub told : (k : ℕ) → k < 63 → bit_at found k ≡ 0 → 0xCD ≤ slice_index bytes (at + k) → IsTold bytes (at + k)
