-- `begun_len`, the length of the longest front that begins a text, and `ending_of`, by the three lengths that it compares.
use Rattle.nf_utf8.proofs.Common.{◌≡◌, ℕ, suc, ◌+◌, ◌<◌, ◌≤◌, ⊎_elim, true, false, cond, nat_lt, List, [], ◌∷◌, ◌++◌, length, take, drop, Option, Some, None, unwrap_or, IsUtf8, arith, take-append-drop, length-drop, take-take, take_all, IsInRange, is_in_range, StartsWithNoChar, utf8_error_len, error_len_after_one, error_len_after_two, error_len_of_some, order, utf8_error_len-nil, utf8_error_len_some, no_text, le-ltb, cond_both, nat_tests, IsUtf8-nil, of_one, BeginsText, IsSecond, IsContinuation}
use Rattle.nf_utf8.proofs.Common.{text_len, subpart_len, begun_len, ◌==◌, eqb-true, Ending, Whole, Bad, Cut, ending_of}
use Rattle.nf_utf8.proofs.Fronts.{IsLongestFront, longest_same, longest_after}
use Rattle.nf_utf8.proofs.Texts.{BeginsText-append, BeginsText-after, BeginsText-front, BeginsText-IsUtf8}
use Rattle.nf_utf8.proofs.TextLen.{text_len-longest, length-front, text_len-rest, no_char-text_len}
use Rattle.nf_utf8.proofs.Sequences.{IsUtf8-two, IsUtf8-three, IsUtf8-four, begins_one, begins_two, begins_three, no_first, no_second, no_third, no_fourth}

abbrev pub BeginsFor : List ℕ → ℕ → Type 0
BeginsFor bytes n = IsLongestFront BeginsText bytes n

begins_for_all : (bytes : List ℕ) → BeginsText bytes → BeginsFor bytes (length bytes)
begins_for_all bytes b = record { within = omega arith; holds = rw (take_all (length bytes) bytes (omega arith)) b; longest = λ m le _. le }

pub begins_until : (bytes : List ℕ) (n : ℕ) → n < length bytes → BeginsText (take n bytes) → ¬ BeginsText (take (suc n) bytes) → BeginsFor bytes n
begins_until bytes n short b none = record {
  within = omega arith;
  holds = b;
  longest = λ m le c. ⊎_elim (λ below. omega arith)
      (λ past. absurd (none (rw (take-take (suc n) m bytes past) at (BeginsText-front (take (suc n) (take m bytes)) (drop (suc n) (take m bytes)) (rw take-append-drop c)))))
      (order m (suc n));
}

in_range : (lo hi c : ℕ) → is_in_range lo hi c ≡ true → IsInRange lo hi c
in_range lo hi c e = grind (arith, nat_tests)

out_of_range : (lo hi c : ℕ) → is_in_range lo hi c ≡ false → ¬ IsInRange lo hi c
out_of_range lo hi c e h = grind (arith, nat_tests)

-- ---- std's count of the bytes that begin a character, case by case

-- k bytes begin one, at most three, and a byte breaks them off where std counts them
record Counted (bytes : List ℕ) (o : Option ℕ) (k : ℕ) : Type 0 where
  pub begins : BeginsFor bytes k
  pub few : k ≤ 3
  pub ill_formed : (n : ℕ) → o ≡ Some n → k < length bytes

abbrev CountedLen : List ℕ → Option ℕ → Type 0
CountedLen bytes o = Counted bytes o (unwrap_or o (length bytes))

all_begin : {bytes : List ℕ} → length bytes ≤ 3 → BeginsText bytes → CountedLen bytes None
all_begin {bytes} few b = record { begins = begins_for_all bytes b; few = few; ill_formed = λ n e. cc }

some_begin : {bytes : List ℕ} {n : ℕ} → n ≤ 3 → n < length bytes → BeginsText (take n bytes) → ¬ BeginsText (take (suc n) bytes) → CountedLen bytes (Some n)
some_begin {bytes} {n} few short b none = record { begins = begins_until bytes n short b none; few = few; ill_formed = λ _ _. short }

after_three : (a b d : ℕ) (rest : List ℕ) → IsInRange 0xF0 0xF4 a → IsSecond a b → IsContinuation d → StartsWithNoChar (a ∷ b ∷ d ∷ rest)
    → CountedLen (a ∷ b ∷ d ∷ rest) (cond (nat_lt (length (a ∷ b ∷ d ∷ rest)) 4) None (Some 3))
after_three a b d [] first second third none = all_begin (omega arith) (grind (arith, begins_three))
after_three a b d (e ∷ rest) first second third none =
    rw (le-ltb (length (a ∷ b ∷ d ∷ e ∷ rest)) 4 (omega arith)) (some_begin (omega arith) (omega arith) (grind (arith, begins_three))
    (no_fourth a b d e first.0 (λ fourth. no_text (a ∷ b ∷ d ∷ e ∷ []) rest none (IsUtf8-four a b d e first second third fourth) (omega arith))))

after_two : (a b : ℕ) (rest : List ℕ) → IsInRange 0xE0 0xF4 a → IsSecond a b → StartsWithNoChar (a ∷ b ∷ rest) → CountedLen (a ∷ b ∷ rest) (error_len_after_two (a ∷ b ∷ rest))
after_two a b [] first second none = all_begin (omega arith) (grind (arith, begins_two))
after_two a b (d ∷ rest) first second none =
    rw (le-ltb (length (a ∷ b ∷ d ∷ rest)) 3 (omega arith)) (cond_both _ _ _ (CountedLen (a ∷ b ∷ d ∷ rest))
    (λ t. let k = in_range 0x80 0xBF d t in
    ⊎_elim (λ below. absurd (no_text (a ∷ b ∷ d ∷ []) rest none (grind (arith, IsUtf8-three)) (omega arith)))
    (λ above. after_three a b d rest (above, first.1) second k none) (order a 0xF0))
    (λ t. some_begin (omega arith) (omega arith) (grind (arith, begins_two)) (no_third a b d first.0 (out_of_range 0x80 0xBF d t))))

after_one : (a : ℕ) (rest : List ℕ) → IsInRange 0xC2 0xF4 a → StartsWithNoChar (a ∷ rest) → CountedLen (a ∷ rest) (error_len_after_one (a ∷ rest))
after_one a [] first none = all_begin (omega arith) (begins_one a first)
after_one a (b ∷ rest) first none =
    rw (le-ltb (length (a ∷ b ∷ rest)) 2 (omega arith)) (cond_both _ _ _ (CountedLen (a ∷ b ∷ rest))
    (λ t. let k = in_range _ _ b t in
    ⊎_elim (λ below. absurd (no_text (a ∷ b ∷ []) rest none (grind (arith, nat_tests, IsUtf8-two)) (omega arith)))
    (λ above. after_two a b rest (above, first.1) k none) (order a 0xE0))
    (λ t. some_begin (omega arith) (omega arith) (begins_one a first) (no_second a b first (out_of_range _ _ b t))))

subpart_len-counted : (bytes : List ℕ) → StartsWithNoChar bytes → Counted bytes (utf8_error_len bytes) (subpart_len bytes)
subpart_len-counted [] none = rw utf8_error_len-nil (all_begin (omega arith) (BeginsText-IsUtf8 [] IsUtf8-nil))
subpart_len-counted (a ∷ rest) none =
    rw (utf8_error_len_some (a ∷ rest) (omega arith)) (cond_both _ _ _ (λ k. Counted (a ∷ rest) (error_len_of_some (a ∷ rest)) k)
    (λ t. rw t (after_one a rest (in_range 0xC2 0xF4 a t) none))
    (λ t. record {
      begins = begins_until (a ∷ rest) 0 (omega arith) (BeginsText-IsUtf8 [] IsUtf8-nil)
          (⊎_elim (λ low. absurd (no_text (a ∷ []) rest none (of_one (a ∷ []) 0 (omega arith) low) (omega arith))) (λ high. no_first a high (out_of_range 0xC2 0xF4 a t)) (order a 0x80));
      few = omega arith;
      ill_formed = λ _ _. omega arith;
    }))

-- ---- the longest front that begins a text

subpart_counted : (bytes : List ℕ) → let rest : List ℕ = drop (text_len bytes) bytes in Counted rest (utf8_error_len rest) (subpart_len rest)
subpart_counted bytes = subpart_len-counted (drop (text_len bytes) bytes) (no_char-text_len (drop (text_len bytes) bytes) (text_len-rest bytes))

pub begun_len-longest : (bytes : List ℕ) → BeginsFor bytes (begun_len bytes)
begun_len-longest bytes =
    let front : List ℕ = take (text_len bytes) bytes in
    let rest : List ℕ = drop (text_len bytes) bytes in
    let u = (text_len-longest bytes).holds in
    rw (take-append-drop, length-front) at (longest_after front (λ zs. BeginsText-append front zs u) (λ zs. BeginsText-after front zs u) (subpart_counted bytes).begins)

-- no more than three bytes after the text begin a character
pub begun_few : (bytes : List ℕ) → begun_len bytes ≤ text_len bytes + 3
begun_few bytes = omega (arith, (subpart_counted bytes).few)

-- where std tells how many bytes are invalid, a byte breaks them off
pub told_ill_formed : (bytes : List ℕ) (n : ℕ) → utf8_error_len (drop (text_len bytes) bytes) ≡ Some n → begun_len bytes < length bytes
told_ill_formed bytes n told = omega (arith, (subpart_counted bytes).ill_formed n told, length-drop (text_len bytes) bytes)

pub begun_len-is : {bytes : List ℕ} {n : ℕ} → BeginsFor bytes n → begun_len bytes ≡ n
begun_len-is {bytes} h = longest_same (begun_len-longest bytes) h

pub begun_all : (bytes : List ℕ) → BeginsText bytes → begun_len bytes ≡ length bytes
begun_all bytes b = begun_len-is (begins_for_all bytes b)

pub begins_all : (bytes : List ℕ) → begun_len bytes ≡ length bytes → BeginsText bytes
begins_all bytes e = rw (take_all (begun_len bytes) bytes (omega arith)) at (begun_len-longest bytes).holds

pub begun_len-after : (xs ys : List ℕ) → IsUtf8 xs → begun_len (xs ++ ys) ≡ length xs + begun_len ys
begun_len-after xs ys u = begun_len-is (longest_after xs (λ zs. BeginsText-append xs zs u) (λ zs. BeginsText-after xs zs u) (begun_len-longest ys))

-- ---- the ending

module _ (bytes : List ℕ) where
  pub ending_of-full : text_len bytes ≡ length bytes → ending_of bytes ≡ Whole
  unfolding ending_of
  ending_of-full e = grind (arith, nat_tests)

  pub ending_of-begun : text_len bytes < length bytes → begun_len bytes ≡ length bytes → ending_of bytes ≡ Cut (length bytes) (text_len bytes)
  unfolding ending_of
  ending_of-begun short e = grind (arith, nat_tests)

  pub ending_of-ill_formed : begun_len bytes < length bytes → ending_of bytes ≡ Bad (begun_len bytes) (text_len bytes)
  unfolding ending_of
  ending_of-ill_formed short = grind (arith, nat_tests)

-- what an ending says of the lengths
abbrev pub Says : List ℕ → Ending → Type 0
Says bytes Whole = text_len bytes ≡ length bytes
Says bytes (Cut at start) = (text_len bytes < length bytes) × (begun_len bytes ≡ length bytes) × (at ≡ length bytes) × (start ≡ text_len bytes)
Says bytes (Bad at start) = (begun_len bytes < length bytes) × (at ≡ begun_len bytes) × (start ≡ text_len bytes)

pub ending_of-says : (bytes : List ℕ) → Says bytes (ending_of bytes)
unfolding ending_of
ending_of-says bytes =
    let within = (begun_len-longest bytes).within in
    cond_both (text_len bytes == length bytes) _ _ (Says bytes) (λ t. eqb-true _ _ t)
    (λ f. cond_both (begun_len bytes == length bytes) _ _ (Says bytes) (λ t. grind (arith, nat_tests)) (λ g. grind (arith, nat_tests)))
