-- Which bytes spell a character, which begin one, and which begin none.
use Rattle.nf_utf8.proofs.Common.{append-nil, ℕ, ◌-◌, ◌≤◌, ⊎_elim, List, [], ◌∷◌, ◌++◌, length, get_or, IsUtf8, encode_utf8, refl, sym, ap, arith, length-append, subst, IsInRange, StartsWithNoChar, second_byte_min, order, width_is, no_text, nat_tests, of_two, of_three, of_four, BeginsText, IsSecond, IsContinuation, IsSubpart}
use Rattle.std.proofs.str.Faults.{Ranged, no_char}
use Rattle.nf_utf8.proofs.Texts.{BeginsText-front}

-- ---- the bytes that spell a character

pub IsUtf8-two : (a b : ℕ) → IsInRange 0xC2 0xDF a → IsContinuation b → IsUtf8 (a ∷ b ∷ [])
IsUtf8-two a b first second = grind (arith, of_two (a ∷ b ∷ []) 0)

pub IsUtf8-three : (a b d : ℕ) → IsInRange 0xE0 0xEF a → IsSecond a b → IsContinuation d → IsUtf8 (a ∷ b ∷ d ∷ [])
IsUtf8-three a b d first second third = grind (arith, nat_tests, of_three (a ∷ b ∷ d ∷ []) 0)

pub IsUtf8-four : (a b d e : ℕ) → IsInRange 0xF0 0xF4 a → IsSecond a b → IsContinuation d → IsContinuation e → IsUtf8 (a ∷ b ∷ d ∷ e ∷ [])
IsUtf8-four a b d e first second third fourth = grind (arith, nat_tests, of_four (a ∷ b ∷ d ∷ e ∷ []) 0)

-- ---- the bytes that begin a text

pub begins_three : (a b d : ℕ) → IsInRange 0xE0 0xF4 a → IsSecond a b → IsContinuation d → BeginsText (a ∷ b ∷ d ∷ [])
begins_three a b d first second third = ⊎_elim
    (λ short. ([], IsUtf8-three a b d (first.0, omega arith) second third))
    (λ long. (0x80 ∷ [], IsUtf8-four a b d 0x80 (long, first.1) second third (omega arith, omega arith)))
    (order a 0xF0)

pub begins_two : (a b : ℕ) → IsInRange 0xC2 0xF4 a → IsSecond a b → BeginsText (a ∷ b ∷ [])
begins_two a b first second = ⊎_elim
    (λ short. ([], IsUtf8-two a b (first.0, omega arith) (grind (arith, nat_tests))))
    (λ long. BeginsText-front (a ∷ b ∷ []) (0x80 ∷ []) (begins_three a b 0x80 (long, first.1) second (omega arith, omega arith)))
    (order a 0xE0)

pub begins_one : (a : ℕ) → IsInRange 0xC2 0xF4 a → BeginsText (a ∷ [])
begins_one a first = BeginsText-front (a ∷ []) (second_byte_min a ∷ []) (begins_two a (second_byte_min a) first (grind (arith, nat_tests)))

pub BeginsText-subpart : (subpart : List ℕ) → IsSubpart subpart → BeginsText subpart
BeginsText-subpart [] h = ([], ([], (refl, refl)))
BeginsText-subpart (a ∷ []) h = begins_one a h
BeginsText-subpart (a ∷ b ∷ []) h = begins_two a b (omega (arith, h.0.0), h.0.1) h.1
BeginsText-subpart (a ∷ b ∷ d ∷ []) h = begins_three a b d (omega (arith, h.0.0), h.0.1) h.1 h.2
BeginsText-subpart (a ∷ b ∷ d ∷ e ∷ rest) h = absurd h

-- ---- the bytes that begin none

-- what the first character of a text demands of its bytes
refuted : (a : ℕ) (bytes : List ℕ)
    → ((more : List ℕ) → let all : List ℕ = (a ∷ bytes) ++ more in Ranged (length all - 0) (get_or all 0 0) (get_or all 1 0) (get_or all 2 0) (get_or all 3 0) → ⊥)
    → ¬ BeginsText (a ∷ bytes)
refuted a bytes h b =
    let all : List ℕ = (a ∷ bytes) ++ b.0 in
    no_text all [] (subst StartsWithNoChar (sym (append-nil all)) (no_char all 0 (h b.0))) b.1 (omega arith)

pub no_first : (a : ℕ) → 0x80 ≤ a → ¬ IsInRange 0xC2 0xF4 a → ¬ BeginsText (a ∷ [])
no_first a high outside = refuted a [] (λ more r. grind arith)

pub no_second : (a b : ℕ) → IsInRange 0xC2 0xF4 a → ¬ IsSecond a b → ¬ BeginsText (a ∷ b ∷ [])
no_second a b first none = refuted a (b ∷ []) (λ more r. none (grind (arith, nat_tests)))

pub no_third : (a b d : ℕ) → 0xE0 ≤ a → ¬ IsContinuation d → ¬ BeginsText (a ∷ b ∷ d ∷ [])
no_third a b d first none = refuted a (b ∷ d ∷ []) (λ more r. grind arith)

pub no_fourth : (a b d e : ℕ) → 0xF0 ≤ a → ¬ IsContinuation e → ¬ BeginsText (a ∷ b ∷ d ∷ e ∷ [])
no_fourth a b d e first none = refuted a (b ∷ d ∷ e ∷ []) (λ more r. grind arith)

-- ---- the bytes that begin a character and are none

pub subpart_no_char : (subpart : List ℕ) → IsSubpart subpart → StartsWithNoChar subpart
subpart_no_char [] h = λ c rest s e. omega (arith, width_is c, ap length e, length-append (encode_utf8 c) rest)
subpart_no_char (a ∷ []) h = no_char (a ∷ []) 0 (λ r. omega arith)
subpart_no_char (a ∷ b ∷ []) h = no_char (a ∷ b ∷ []) 0 (λ r. omega arith)
subpart_no_char (a ∷ b ∷ d ∷ []) h = no_char (a ∷ b ∷ d ∷ []) 0 (λ r. grind arith)
subpart_no_char (a ∷ b ∷ d ∷ e ∷ rest) h = absurd h
