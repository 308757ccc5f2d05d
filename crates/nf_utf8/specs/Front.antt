-- What stands at the front of bytes, after those of a begun character (The Unicode Standard, section 3.9, Table 3-7).
use Rattle.std.specs.Prelude.{◌≡◌, ℕ, ◌+◌, ◌^◌, ◌<◌, ◌≤◌, List, [], ◌++◌, length, take, Option, Some, None, encode_utf8}
use Rattle.std.specs.Char.{IsScalar}
use Rattle.nf_utf8.specs.declared.front.Front.{Front}
use Rattle.nf_utf8.specs.declared.front.Front.TheVariants.{Char, Begun, Bad}
use Rattle.nf_utf8.specs.declared.chunk.End.{End}
use Rattle.nf_utf8.specs.declared.chunk.End.TheVariants.{Bad as BadEnd}
use Rattle.nf_utf8.specs.Text.{BeginsText}
use Rattle.nf_utf8.specs.Subpart.{IsSubpart}
use Rattle.nf_utf8.specs.Carry.{bytes_of}
use Rattle.nf_utf8.specs.Taking.{end_holding}

abbrev pub IsFront : List ℕ → List ℕ → Front → Type 0
IsFront subpart bytes (Char c len) = (len ≤ length bytes) × IsScalar c × (subpart ++ take len bytes ≡ encode_utf8 c)
IsFront subpart bytes (Begun carry) = IsSubpart (subpart ++ bytes) × (bytes_of carry ≡ subpart ++ bytes)
IsFront subpart bytes (Bad at back) = (at < length bytes) × IsSubpart (subpart ++ take at bytes) × (¬ BeginsText (subpart ++ take (at + 1) bytes)) × (back ≡ length subpart + at)

-- the first character has its bytes after the part up to `from` of the piece, or there is no part and none
abbrev pub Completes : List ℕ → List ℕ → Option ℕ → ℕ → Type 0
Completes subpart piece None from = (subpart ≡ []) × (from ≡ 0)
Completes subpart piece (Some c) from = (¬ (subpart ≡ [])) × IsFront subpart piece (Char c from)

-- what ends a piece after `skipped` bytes of it, and what is held then
abbrev pub CanEnd : Front → ℕ → Type 0
CanEnd (Char c len) skipped = ⊥
CanEnd (Begun carry) skipped = IsSubpart (bytes_of carry)
CanEnd (Bad at back) skipped = skipped + at < 2 ^ 64

abbrev pub EndsBy : Front → ℕ → End → List ℕ → Type 0
EndsBy (Char c len) skipped end held = ⊥
EndsBy (Begun carry) skipped end held = (end ≡ end_holding (bytes_of carry)) × (held ≡ bytes_of carry)
EndsBy (Bad at back) skipped end held = (end ≡ BadEnd (skipped + at) back) × (held ≡ [])
