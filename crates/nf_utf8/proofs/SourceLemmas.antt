-- How many bytes gave the first characters.
use Rattle.nf_utf8.proofs.Common.{◌≡◌, ℕ, zero, suc, ◌+◌, ◌-◌, ◌<◌, true, List, [], ◌∷◌, ◌++◌, map, length, take, refl, ap, arith, nat_tests, append-nil, ne_eqb, width_is, encode_utf8, encode_utf8_all, length-append, Decoded, decoded_of, bytes_in, IsLeft}
use Rattle.nf_utf8.specs.Replaced.{source_in}

-- of bytes that begin with one character, after which `left` is left
module _ (bytes left : List ℕ) (c len n : ℕ) (some : 0 < n) where
  one_more : (decoded : List Decoded) → decoded_of bytes ≡ decoded ++ decoded_of left → map (λ decoded. decoded.char) decoded ≡ c ∷ [] → bytes_in decoded ≡ len
      → source_in (decoded_of bytes) n ≡ len + source_in (decoded_of left) (n - length (encode_utf8 c))
  one_more [] is chars size = cc
  one_more (d ∷ []) is chars size =
      let same : d.char ≡ c = cc in
      rw is (grind (arith, nat_tests, size, ap (λ e. source_in (decoded_of left) (n - length (encode_utf8 e))) same))
  one_more (d ∷ e ∷ decoded) is chars size = cc

  pub source-next : IsLeft true bytes (c ∷ []) len left → source_in (decoded_of bytes) n ≡ len + source_in (decoded_of left) (n - length (encode_utf8 c))
  source-next is = one_more is.decoded (rw (append-nil bytes, append-nil left) at (is.gives [])) is.chars is.size

-- none is asked for
pub source-none : (decoded : List Decoded) → source_in decoded 0 ≡ 0
source-none [] = refl
source-none (d ∷ decoded) = refl

-- those of whole characters
pub source-chars : (decoded : List Decoded) (k : ℕ) → source_in decoded (length (encode_utf8_all (map (λ decoded. decoded.char) (take k decoded)))) ≡ bytes_in (take k decoded)
source-chars decoded zero = source-none decoded
source-chars [] (suc k) = refl
source-chars (d ∷ decoded) (suc k) =
    let text : List ℕ = encode_utf8_all (map (λ decoded. decoded.char) (take k decoded)) in
    let size = length-append (encode_utf8 d.char) text in
    let rest : length (encode_utf8 d.char ++ text) - length (encode_utf8 d.char) ≡ length text = omega (arith, size) in
    let more : ¬ (length (encode_utf8 d.char ++ text) ≡ 0) = λ e. absurd (omega (arith, size, width_is d.char, e)) in
    rw (ne_eqb _ 0 more, rest) (ap (λ n. d.len + n) (source-chars decoded k))
