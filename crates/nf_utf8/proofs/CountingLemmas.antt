-- The characters of a text, counted by the bytes that begin them.
use Rattle.nf_utf8.proofs.Common.{◌≡◌, ℕ, ◌+◌, ◌-◌, ◌%◌, ◌^◌, ◌≤◌, ◌||◌, Bool, true, false, cond, nat_lt, nat_le, bit_or, List, [], ◌∷◌, length, take, drop, map, replicate, IsUtf8, encode_utf8, encode_utf8_all, refl, sym, arith, take-add, is_char_start, count_by, chars, IsAscii, one, two, three, four, nat_tests, length-map, length-take-le, take_rest, zip2_of_maps, zip2_splat, zip2_splat_left, map-map, mask_l-mod, ones-mask_l, encodes-chars, IsUtf8-from_ascii, chars-IsAscii, chunk, zip2, mask_l, top}
use Rattle.std.specs.Int.RustNames.{count_ones}
use Rattle.std.proofs.lemmas.List.Sums.{sum_by-append, sum_by-take-drop, sum_by-take-le, count_by-le-length}

abbrev pub starts : List ℕ → ℕ
starts bytes = count_by is_char_start bytes

abbrev starts_at : ℕ → ℕ
starts_at byte = cond (is_char_start byte) 1 0

-- ---- a text has as many characters as bytes that begin one

starts-encode : (c : ℕ) → starts (encode_utf8 c) ≡ 1
starts-encode c = grind (arith, nat_tests, one, two, three, four)

starts-encode_all : (cs : List ℕ) → starts (encode_utf8_all cs) ≡ length cs
starts-encode_all [] = refl
starts-encode_all (c ∷ cs) = omega (arith, sum_by-append starts_at (encode_utf8 c) (encode_utf8_all cs), starts-encode c, starts-encode_all cs)

pub count-chars : (bytes : List ℕ) → IsUtf8 bytes → starts bytes ≡ length (chars bytes)
count-chars bytes u = rw (encodes-chars bytes u) at (starts-encode_all (chars bytes))

-- each byte of ASCII begins one
pub starts-front : (bytes : List ℕ) (n : ℕ) → n ≤ length bytes → IsAscii (take n bytes) → starts (take n bytes) ≡ n
starts-front bytes n within ascii = rw (count-chars (take n bytes) (IsUtf8-from_ascii (take n bytes) ascii), chars-IsAscii (take n bytes) ascii) (length-take-le n bytes within)

-- ---- the count up to a place

pub count-more : (bytes : List ℕ) (at n : ℕ) → starts (take at bytes) + starts (chunk at n bytes) ≡ starts (take (at + n) bytes)
count-more bytes at n = rw (take-add at n bytes) (sym (sum_by-append starts_at (take at bytes) (chunk at n bytes)))

pub count-rest : (bytes : List ℕ) (at : ℕ) → starts (take at bytes) + starts (take (length bytes - at) (drop at bytes)) ≡ starts bytes
count-rest bytes at = rw take_rest (sum_by-take-drop starts_at bytes at)

pub count-le : (bytes : List ℕ) (at : ℕ) → starts (take at bytes) ≤ length bytes
count-le bytes at = omega (arith, sum_by-take-le starts_at bytes at, count_by-le-length is_char_start bytes)

-- ---- the count of one load

either : (x y : Bool) → top 7 (bit_or (cond x 255 0) (cond y 255 0)) ≡ (x || y)
either true true = refl
either false true = refl
either _ _ = refl

abbrev is_low : ℕ → ℕ → ℕ
is_low byte bound = cond (nat_lt byte bound) 255 0

abbrev is_high : ℕ → ℕ → ℕ
is_high bound byte = cond (nat_le bound byte) 255 0

pub lanes_count : (lanes : List ℕ) (n : ℕ) → length lanes ≡ n → n ≤ 64
    → count_ones (mask_l (map (top 7) (zip2 (λ a b. bit_or a b) (zip2 is_low lanes (replicate n 0x80)) (zip2 is_high (replicate n 0xC0) lanes))) % 2 ^ 64) ≡ starts lanes
lanes_count lanes n long few =
    let low = zip2_splat is_low lanes n 0x80 long in
    let high = zip2_splat_left is_high 0xC0 n lanes long in
    let joined = zip2_of_maps (λ a b. bit_or a b) (λ x. is_low x 0x80) (λ x. is_high 0xC0 x) lanes low high in
    simp (joined, map-map, either) (rw (mask_l-mod (map is_char_start lanes) 64 (omega (arith, length-map lanes is_char_start))) (ones-mask_l is_char_start lanes))
