-- What a text begins with, by its bytes.
use Rattle.std.proofs.Common.{◌≡◌, ℕ, ◌+◌, ◌*◌, ◌%◌, ◌<◌, ◌≤◌, ◌⊎◌, ⊎_elim, inl, inr, List, [], ◌∷◌, ◌++◌, length, slice_index, take, take_at, drop, drop_at, refl, sym, ap, ◌∙◌, arith, append-nil, append_assoc, length-append}
use Rattle.std.specs.Prelude.{chars as chars_of, encode_utf8, encode_utf8_all}
use Rattle.std.specs.Str.{IsUtf8, IsCharBoundary, all_scalars}
use Rattle.std.proofs.lemmas.Str.{IsCharBoundary-at_seam, IsUtf8-take, chars_from_encodes, chars_past_char, encodes-append}
use lib.Utf8.{scalar, scalar_cases}
use Rattle.std.proofs.str.Laws.{order, one, two, three, four}
use Rattle.std.proofs.lemmas.Bool.{and_parts}
use Rattle.std.proofs.lemmas.Bool.Decides.{nat_tests}
use Rattle.nf_forms.specs.Properties.{Properties}
use Rattle.nf_counts.specs.Counts.{IsValued}
use Rattle.nf_counts.specs.Piece.{BeginsWith, IsPiece}

-- there it may be cut
module _ (text chars : List ℕ) (len : ℕ) (begins : BeginsWith text chars len) where
  pub boundary : IsCharBoundary text len
  boundary = rw begins.is_long (IsCharBoundary-at_seam text (encode_utf8_all chars) begins.rest begins.split begins.rest_utf8)

  pub rest_is : drop len text ≡ begins.rest
  rest_is = rw begins.split (drop_at (encode_utf8_all chars) begins.rest len (sym begins.is_long))

  pub goes_on : (next : List ℕ) (more : ℕ) → BeginsWith (drop len text) next more → BeginsWith text (chars ++ next) (len + more)
  goes_on next more after = record {
    rest = after.rest;
    split = rw (encodes-append, append_assoc, ← after.split, rest_is) begins.split;
    rest_utf8 = after.rest_utf8;
    is_long = rw (encodes-append, length-append) (omega (arith, begins.is_long, after.is_long));
  }

  -- what stands up to there is these characters
  pub front_is : encode_utf8_all chars ≡ take len text
  front_is = rw begins.split (sym (take_at (encode_utf8_all chars) begins.rest len (sym begins.is_long)))

  pub chars_are : IsUtf8 text → chars ≡ chars_of (take len text)
  chars_are u = chars_from_encodes chars (take len text) (IsUtf8-take text len u boundary) front_is

-- it begins with this code point, in so many bytes
pub record HasCode (text : List ℕ) (n code : ℕ) : Type 0 where
  pub begins : BeginsWith text (code ∷ []) n
  pub fits : code < 1114112
  pub one : (k : ℕ) → 0 < k → k < n → slice_index text k < 0xC0

-- what two bytes, or three, spell
abbrev pub two_spell : List ℕ → ℕ
two_spell text = slice_index text 0 % 32 * 64 + slice_index text 1 % 64

abbrev pub three_spell : List ℕ → ℕ
three_spell text = slice_index text 0 % 16 * 4096 + slice_index text 1 % 64 * 64 + slice_index text 2 % 64

abbrev pub four_spell : List ℕ → ℕ
four_spell text = slice_index text 0 % 8 * 262144 + slice_index text 1 % 64 * 4096 + slice_index text 2 % 64 * 64 + slice_index text 3 % 64

pub four_is : (text : List ℕ) (a b d e : ℕ) → a ≡ slice_index text 0 → b ≡ slice_index text 1 → d ≡ slice_index text 2 → e ≡ slice_index text 3
    → (((a % 32 * 64 + b % 64) * 64 + d % 64) * 64 + e % 64) % 2097152 ≡ four_spell text
four_is text a b d e first second third fourth = omega (arith, first, second, third, fourth)

pub record HasFirst (text : List ℕ) : Type 0 where
  pub two : slice_index text 0 < 0xE0 → HasCode text 2 (two_spell text)
  pub three : 0xE0 ≤ slice_index text 0 → slice_index text 0 < 0xF0 → HasCode text 3 (three_spell text)
  pub four : 0xF0 ≤ slice_index text 0 → HasCode text 4 (four_spell text)

pub has_second : (text : List ℕ) → HasFirst text → 1 < length text
has_second text first =
    ⊎_elim
    (λ low. omega (arith, (boundary _ _ _ (first.two low).begins).0))
    (λ more. ⊎_elim (λ low. omega (arith, (boundary _ _ _ (first.three more low).begins).0)) (λ high. omega (arith, (boundary _ _ _ (first.four high).begins).0)) (order (slice_index text 0) 0xF0))
    (order (slice_index text 0) 0xE0)

-- from a byte on that is not ASCII
pub first_of : (text : List ℕ) → IsUtf8 text → 0x80 ≤ slice_index text 0 → HasFirst text
first_of text ([], spells) high = absurd (omega (arith, rw (← spells.1) at high))
first_of text (c ∷ cs, spells) high = within (order c 128) (order c 2048) (order c 65536)
  where
    begins : BeginsWith text (c ∷ []) (length (encode_utf8 c))
    begins = record {
      rest = encode_utf8_all cs;
      split = rw append-nil (sym spells.1);
      rest_utf8 = (cs, ((and_parts (scalar c) (all_scalars cs) spells.0).1, refl));
      is_long = rw append-nil;
    }

    fits : c < 1114112
    fits = grind (arith, scalar_cases c, (and_parts (scalar c) (all_scalars cs) spells.0).0)

    at : (k : ℕ) (bytes : List ℕ) → encode_utf8 c ≡ bytes → slice_index text k ≡ slice_index (bytes ++ encode_utf8_all cs) k
    at k bytes e = rw (← spells.1, e)

    within : (c < 128) ⊎ (128 ≤ c) → (c < 2048) ⊎ (2048 ≤ c) → (c < 65536) ⊎ (65536 ≤ c) → HasFirst text
    within (inl ascii) _ _ = absurd (omega (arith, high, at 0 _ (one c ascii)))
    within (inr more) (inl small) _ =
        let e = two c more small in
        let lead = at 0 _ e in
        let is : c ≡ two_spell text = omega (arith, lead, at 1 _ e) in
        record {
          two = λ _. record { begins = rw (e, is) at begins; fits = rw is at fits; one = λ k above below. grind (arith, at 1 _ e) };
          three = λ high _. absurd (omega (arith, high, lead, small));
          four = λ high. absurd (omega (arith, high, lead, small));
        }
    within (inr _) (inr more) (inl small) =
        let e = three c more small in
        let lead = at 0 _ e in
        let is : c ≡ three_spell text = omega (arith, lead, at 1 _ e, at 2 _ e) in
        record {
          two = λ low. absurd (omega (arith, low, lead));
          three = λ _ _. record { begins = rw (e, is) at begins; fits = rw is at fits; one = λ k above below. grind (arith, order k 2, at 1 _ e, at 2 _ e) };
          four = λ high. absurd (omega (arith, high, lead, small));
        }
    within (inr _) (inr _) (inr more) =
        let e = four c more in
        let lead = at 0 _ e in
        let is : c ≡ four_spell text = omega (arith, fits, lead, at 1 _ e, at 2 _ e, at 3 _ e) in
        record {
          two = λ low. absurd (omega (arith, low, lead));
          three = λ _ low. absurd (omega (arith, low, lead));
          four = λ _. record { begins = rw (e, is) at begins; fits = rw is at fits; one = λ k above below. grind (arith, order k 2, order k 3, at 1 _ e, at 2 _ e, at 3 _ e) };
        }

-- there is no other, whatever stands after it
pub same_code : {text : List ℕ} {n code : ℕ} → IsUtf8 text → HasCode text n code → (c : ℕ) (rest : List ℕ) → text ≡ encode_utf8 c ++ rest → code ≡ c
same_code {text = text} {code = code} u here c rest is =
    let begins : text ≡ encode_utf8 code ++ here.begins.rest = rw append-nil at here.begins.split in
    ap (λ cs. slice_index cs 0) (sym (chars_past_char text here.begins.rest code u begins) ∙ chars_past_char text rest c u is)

-- a character of this value
pub piece_of : {p : Properties} {text : List ℕ} {n code value : ℕ} → HasCode text n code → 0 < n → value < 16 → IsValued p code value → IsPiece p text record { len = n; value = value }
piece_of {code = code} here some within valued = record {
  chars = code ∷ [];
  begins = here.begins;
  some = some;
  within = within;
  sound = rw valued.sound;
  unassigned = grind (arith, nat_tests, valued.assigned);
  row = rw append-nil valued.row;
}
