-- `text_len`, the length of the longest front that is well-formed.
use Rattle.nf_utf8.proofs.Common.{◌≡◌, ℕ, zero, suc, ◌+◌, ◌-◌, ◌≤◌, List, ◌++◌, length, take, drop, IsUtf8, encode_utf8, ap, arith, length-take-le, take-append-drop, StartsWithNoChar, utf8_valid_len, valid_len_up_to, width_is, longer, IsUtf8-from_is_utf8, is_utf8-from_IsUtf8, no_text, cond_both, IsUtf8-nil, IsUtf8-append, IsUtf8-encode, text_len}
use Rattle.nf_utf8.proofs.Fronts.{IsLongestFront, longest_same, longest_after}
use Rattle.nf_utf8.proofs.Texts.{IsUtf8-after}

-- n is the greatest length up to m at which the front is well-formed
abbrev IsGreatest : List ℕ → ℕ → ℕ → Type 0
IsGreatest bytes m n = (n ≤ m) × IsUtf8 (take n bytes) × ((k : ℕ) → k ≤ m → IsUtf8 (take k bytes) → k ≤ n)

found : (bytes : List ℕ) (m : ℕ) → IsGreatest bytes m (valid_len_up_to bytes m)
found bytes zero = (omega arith, IsUtf8-nil, λ k le _. le)
found bytes (suc m) =
    let f = found bytes m in
    cond_both _ _ _ (IsGreatest bytes (suc m)) (λ t. (omega arith, IsUtf8-from_is_utf8 _ t, λ k le _. le))
    (λ e. (omega (arith, f.0), f.1, λ k le u. let t = is_utf8-from_IsUtf8 _ u in let other : ¬ (k ≡ suc m) = λ same. cc in f.2 k (omega arith) u))

pub text_len-longest : (bytes : List ℕ) → IsLongestFront IsUtf8 bytes (text_len bytes)
unfolding utf8_valid_len
text_len-longest bytes = let f = found bytes (length bytes) in record { within = f.0; holds = f.1; longest = f.2 }

pub text_len-is : {bytes : List ℕ} {n : ℕ} → IsLongestFront IsUtf8 bytes n → text_len bytes ≡ n
text_len-is {bytes} h = longest_same (text_len-longest bytes) h

pub text_len-after : (xs ys : List ℕ) → IsUtf8 xs → text_len (xs ++ ys) ≡ length xs + text_len ys
text_len-after xs ys u = text_len-is (longest_after xs (λ zs. IsUtf8-append xs zs u) (λ zs. IsUtf8-after xs zs u) (text_len-longest ys))

-- the bytes in two after their text
pub length-front : (bytes : List ℕ) → length (take (text_len bytes) bytes) ≡ text_len bytes
length-front bytes = length-take-le (text_len bytes) bytes (text_len-longest bytes).within

pub text_len-rest : (bytes : List ℕ) → text_len (drop (text_len bytes) bytes) ≡ 0
text_len-rest bytes =
    let n : ℕ = text_len bytes in
    let both = rw (take-append-drop, length-front) at (text_len-after (take n bytes) (drop n bytes) (text_len-longest bytes).holds) in
    omega arith

-- where no character begins them, and only there, they have no text
pub no_char-text_len : (bytes : List ℕ) → text_len bytes ≡ 0 → StartsWithNoChar bytes
no_char-text_len bytes none c rest s e = omega (arith, width_is c, ap (λ l. text_len l) e, text_len-after (encode_utf8 c) rest (IsUtf8-encode c s))

pub text_len-no_char : (bytes : List ℕ) → StartsWithNoChar bytes → text_len bytes ≡ 0
text_len-no_char bytes none =
    let t = no_text (take (text_len bytes) bytes) (drop (text_len bytes) bytes) (rw take-append-drop none) (text_len-longest bytes).holds in
    grind (arith, length-front bytes)

-- after a well-formed front
module _ (bytes : List ℕ) (at : ℕ) (within : at ≤ length bytes) (front : IsUtf8 (take at bytes)) where
  pub front_to : (end : ℕ) → at ≤ end → IsUtf8 (take (end - at) (drop at bytes)) → IsUtf8 (take end bytes)
  front_to end le more = let e : at + (end - at) ≡ end = omega arith in rw e at (longer bytes at (end - at) front more)

  pub text_len-split : text_len bytes ≡ at + text_len (drop at bytes)
  text_len-split = rw (take-append-drop, length-take-le at bytes within) at (text_len-after (take at bytes) (drop at bytes) front)
