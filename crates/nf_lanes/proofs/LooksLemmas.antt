-- What pairs of bytes tell of a text is so.
use Rattle.std.proofs.Common.{◌≡◌, ℕ, ◌+◌, ◌*◌, ◌/◌, ◌%◌, ◌<◌, ◌≤◌, ◌⊎◌, inl, inr, ⊎_elim, slice_index, Bool, true, false, nat_lt, List, [], ◌∷◌, ◌++◌, length, take, drop, arith, length-append, append_assoc, add_assoc, take-append-drop, length-take-le}
use Rattle.std.specs.Prelude.{All, chars, encode_utf8, encode_utf8_all, IsUtf8}
use Rattle.std.specs.Str.{all_scalars, IsCharBoundary}
use lib.Utf8.{scalar, scalar_cases}
use Rattle.std.proofs.str.Laws.{order, two, three, four}
use Rattle.std.proofs.lemmas.Bool.{and_parts}
use Rattle.std.proofs.lemmas.Bool.Decides.{nat_tests}
use Rattle.std.proofs.lemmas.List.Elements.{All-nil, All-cons}
use Rattle.std.proofs.lemmas.List.{get_or-append-add}
use Rattle.std.proofs.lemmas.Str.{encodes-chars, length-le-encodes, scalars-chars, IsUtf8-take}
use Rattle.nf_facts.specs.Within.{or_else}
use Rattle.ucd_table.proofs.TrieCheck.{all_below, all_below-at}
use Rattle.nf_lanes.specs.Looks.{is_in, NoneFound, NoneAfter}
use Rattle.nf_lanes.specs.Scripts.{IsAfter, IsToldInScript}
use Rattle.nf_lanes.specs.declared.sets.Pairs.{Pairs}
use Rattle.nf_lanes.specs.declared.scripts.Scripts.{Scripts}

-- characters of four bytes are looked up
abbrev pub four_looked_up : (ℕ → ℕ → Bool) → ℕ → Bool
four_looked_up finds k = all_below (λ i. finds (240 + k) (128 + i)) 64

-- blocks of 64 code points are so as a whole, or each of the block that no pair finds is so; the second bytes of E0 begin at A0
module _ (finds : ℕ → ℕ → Bool) (whole : ℕ → Bool) (is : ℕ → ℕ → Bool) where
  abbrev pub second_told : ℕ → ℕ → Bool
  second_told k i = or_else (finds (192 + k) (128 + i)) (λ _. is k i)

  abbrev pub two_told : ℕ → Bool
  two_told k = or_else (whole k) (λ _. all_below (second_told k) 64)

  abbrev pub third_told : ℕ → ℕ → Bool
  third_told b j = or_else (finds (128 + b % 64) (128 + j)) (λ _. is b j)

  abbrev pub three_told : ℕ → ℕ → Bool
  three_told k i =
      or_else (whole (64 * k + i)) (λ _.
      or_else (finds (224 + k) (128 + i)) (λ _.
      or_else (nat_lt (64 * k + i) 32) (λ _. all_below (third_told (64 * k + i)) 64)))

  -- the same of the blocks of one lead byte alone, by the two bytes after it
  abbrev pub after_told : ℕ → ℕ → Bool
  after_told k i = or_else (whole (64 * k + i)) (λ _. or_else (nat_lt (64 * k + i) 32) (λ _. all_below (third_told (64 * k + i)) 64))

-- what is known: it is so of each character below `low`, and of blocks and places from there on: those begin with bytes from `least`
pub record Known (least low : ℕ) (P : ℕ → Type 0) : Type 0 where
  pub whole : ℕ → Bool
  pub is : ℕ → ℕ → Bool
  pub in_block : (b j : ℕ) → b < 1024 → j < 64 → whole b ≡ true → P (64 * b + j)
  pub in_place : (b j : ℕ) → b < 1024 → j < 64 → is b j ≡ true → P (64 * b + j)
  pub below : (c : ℕ) → c < low → P c
  pub ascii : 128 ≤ low
  pub of_low : least ≤ 192 + low / 64
  pub is_low : least ≤ 224

-- so it is of each character that no pair finds
pub record Tells (least low : ℕ) (P : ℕ → Type 0) (known : Known least low P) (finds : ℕ → ℕ → Bool) : Type 0 where
  pub of_two : all_below (two_told finds known.whole known.is) 32 ≡ true
  pub of_three : all_below (λ k. all_below (three_told finds known.whole known.is k) 64) 16 ≡ true
  pub of_four : all_below (four_looked_up finds) 5 ≡ true

-- what the bytes from the first one of a character on tell of it, and of none but these is it asked
pub record TellsOf (low : ℕ) (P : ℕ → Type 0) (None : List ℕ → ℕ → Type 0) : Type 0 where
  pub after : (piece rest : List ℕ) (k : ℕ) → None (piece ++ rest) (length piece + k) → None rest k
  pub of_char : (c : ℕ) (more : List ℕ) → c < 1114112 → low ≤ c → None (encode_utf8 c ++ more) 0 → P c

-- what a character that stands at the front of these bytes begins with
begins : (least low : ℕ) (P : ℕ → Type 0) → Known least low P → (c : ℕ) (more : List ℕ) → low ≤ c → least ≤ slice_index (encode_utf8 c ++ more) 0
begins least low P known c more some = at (order c 2048) (order c 65536)
  where
    at : (c < 2048) ⊎ (2048 ≤ c) → (c < 65536) ⊎ (65536 ≤ c) → least ≤ slice_index (encode_utf8 c ++ more) 0
    at (inl small) _ = rw (two c (omega (arith, known.ascii)) small) (omega (arith, known.of_low))
    at (inr large) (inl small) = rw (three c large small) (omega (arith, known.is_low))
    at (inr _) (inr large) = rw (four c large) (omega (arith, known.is_low))

module _ (least low : ℕ) (P : ℕ → Type 0) (known : Known least low P) (finds : ℕ → ℕ → Bool) (tells : Tells least low P known finds) where
  by_two : (k i : ℕ) → k < 32 → i < 64 → finds (192 + k) (128 + i) ≡ false → P (64 * k + i)
  by_two k i short little none =
      let here = all_below-at (two_told finds known.whole known.is) 32 k tells.of_two short in
      grind (arith, known.in_block k i, known.in_place k i, all_below-at (second_told finds known.whole known.is k) 64 i)

  by_three : (k i j : ℕ) → k < 16 → i < 64 → j < 64 → 32 ≤ 64 * k + i → finds (224 + k) (128 + i) ≡ false → finds (128 + i) (128 + j) ≡ false → P (64 * (64 * k + i) + j)
  by_three k i j short little small large first second =
      let b = 64 * k + i in
      let same : b % 64 ≡ i = omega arith in
      let here = all_below-at _ 64 i (all_below-at (λ k. all_below (three_told finds known.whole known.is k) 64) 16 k tells.of_three short) little in
      grind (arith, nat_tests, known.in_block b j, known.in_place b j, all_below-at (third_told finds known.whole known.is b) 64 j)

  by_told : (c : ℕ) (more : List ℕ) → c < 1114112 → low ≤ c → NoneFound finds (encode_utf8 c ++ more) 0 → P c
  by_told c more scalar some told = at (order c 2048) (order c 65536)
    where
      at : (c < 2048) ⊎ (2048 ≤ c) → (c < 65536) ⊎ (65536 ≤ c) → P c
      at (inl small) _ =
          let is : 64 * (c / 64) + c % 64 ≡ c = omega arith in
          let here = rw (two c (omega (arith, known.ascii)) small) at told in
          rw is at (by_two (c / 64) (c % 64) (omega arith) (omega arith) here.0)
      at (inr large) (inl small) =
          let is : 64 * (64 * (c / 4096) + c / 64 % 64) + c % 64 ≡ c = omega arith in
          let here = rw (three c large small) at told in
          rw is at (by_three (c / 4096) (c / 64 % 64) (c % 64) (omega arith) (omega arith) (omega arith) (omega (arith, is)) here.0 here.1)
      at (inr _) (inr large) =
          let here = rw (four c large) at told in
          let found = all_below-at (λ i. finds (240 + c / 262144) (128 + i)) 64 (c / 4096 % 64) (all_below-at (four_looked_up finds) 5 (c / 262144) tells.of_four (omega arith)) (omega arith) in
          cc

  pub by_pairs : TellsOf low P (NoneFound finds)
  by_pairs = record {
    after = λ piece rest k none. simp add_assoc (simp (add_assoc, get_or-append-add) at none);
    of_char = by_told;
  }

-- so it is of each that begins with this lead byte, and of which no pair after it is found
module _ (least low : ℕ) (P : ℕ → Type 0) (known : Known least low P) (finds : ℕ → ℕ → Bool) (k : ℕ) (short : k < 16) (tells : all_below (after_told finds known.whole known.is k) 64 ≡ true) where
  of_three : (i j : ℕ) → i < 64 → j < 64 → 32 ≤ 64 * k + i → finds (128 + i) (128 + j) ≡ false → P (64 * (64 * k + i) + j)
  of_three i j little small large none =
      let b = 64 * k + i in
      let same : b % 64 ≡ i = omega arith in
      let here = all_below-at (after_told finds known.whole known.is k) 64 i tells little in
      grind (arith, nat_tests, known.in_block b j, known.in_place b j, all_below-at (third_told finds known.whole known.is b) 64 j)

  of_bytes : (c : ℕ) (more : List ℕ) → c < 1114112 → low ≤ c → NoneAfter finds (224 + k) (encode_utf8 c ++ more) 0 → P c
  of_bytes c more fits some told = at (order c 2048) (order c 65536)
    where
      at : (c < 2048) ⊎ (2048 ≤ c) → (c < 65536) ⊎ (65536 ≤ c) → P c
      at (inl small) _ = absurd (omega (arith, small, (rw (two c (omega (arith, known.ascii)) small) at told).0))
      at (inr large) (inl small) =
          let here = rw (three c large small) at told in
          let lead : c / 4096 ≡ k = omega (arith, here.0) in
          let is : 64 * (64 * k + c / 64 % 64) + c % 64 ≡ c = omega (arith, lead) in
          rw is at (of_three (c / 64 % 64) (c % 64) (omega arith) (omega arith) (omega (arith, is)) here.1)
      at (inr _) (inr large) = absurd (omega (arith, large, short, (rw (four c large) at told).0))

  pub by_pairs_after : TellsOf low P (NoneAfter finds (224 + k))
  by_pairs_after = record {
    after = λ piece rest j none. simp add_assoc (simp (add_assoc, get_or-append-add) at none);
    of_char = of_bytes;
  }

-- so do two together
pub either : (low : ℕ) (P : ℕ → Type 0) (A B : List ℕ → ℕ → Type 0) → TellsOf low P A → TellsOf low P B → TellsOf low P (λ text k. A text k ⊎ B text k)
either low P A B a b = record {
  after = λ piece rest k. ⊎_elim (λ x. inl (a.after piece rest k x)) (λ y. inr (b.after piece rest k y));
  of_char = λ c more scalar some. ⊎_elim (a.of_char c more scalar some) (b.of_char c more scalar some);
}

-- so tell the families of scripts
pub record ScriptsTell (least low : ℕ) (P : ℕ → Type 0) (known : Known least low P) (s : Scripts) : Type 0 where
  pub narrow : Tells least low P known (is_in s.narrow)
  pub indic : all_below (after_told (is_in s.indic) known.whole known.is 0) 64 ≡ true
  pub southern : all_below (after_told (is_in s.southern) known.whole known.is 0) 64 ≡ true
  pub thai : all_below (after_told (is_in s.thai) known.whole known.is 0) 64 ≡ true
  pub letters : all_below (after_told (is_in s.letters) known.whole known.is 1) 64 ≡ true
  pub kana : all_below (after_told (is_in s.kana) known.whole known.is 3) 64 ≡ true

module _ (least low : ℕ) (P : ℕ → Type 0) (known : Known least low P) (s : Scripts) (tell : ScriptsTell least low P known s) where
  by_family : (lead : ℕ) (family : Pairs) → IsAfter s lead family → TellsOf low P (NoneAfter (is_in family) lead)
  by_family lead family (inl (lead_is, inl is)) = rw (lead_is, is) (by_pairs_after least low P known (is_in s.indic) 0 (omega arith) tell.indic)
  by_family lead family (inl (lead_is, inr (inl is))) = rw (lead_is, is) (by_pairs_after least low P known (is_in s.southern) 0 (omega arith) tell.southern)
  by_family lead family (inl (lead_is, inr (inr is))) = rw (lead_is, is) (by_pairs_after least low P known (is_in s.thai) 0 (omega arith) tell.thai)
  by_family lead family (inr (inl is)) = rw (is.0, is.1) (by_pairs_after least low P known (is_in s.letters) 1 (omega arith) tell.letters)
  by_family lead family (inr (inr is)) = rw (is.0, is.1) (by_pairs_after least low P known (is_in s.kana) 3 (omega arith) tell.kana)

  pub by_scripts : TellsOf low P (IsToldInScript s)
  by_scripts = either low P _ _ (by_pairs least low P known (is_in s.narrow) tell.narrow) record {
    after = λ piece rest k at. (at.0, at.1, at.2, (by_family at.0 at.1 at.2).after piece rest k at.3);
    of_char = λ c more scalar some at. (by_family at.0 at.1 at.2).of_char c more scalar some at.3;
  }

-- of each character of a text they tell
module _ (least low : ℕ) (P : ℕ → Type 0) (known : Known least low P) (None : List ℕ → ℕ → Type 0) (tells : TellsOf low P None) where
  abbrev AreTold : List ℕ → ℕ → Type 0
  AreTold text n = (k : ℕ) → k < n → least ≤ slice_index text k → None text k

  -- of so many after a piece
  told_after : (piece rest : List ℕ) (n m : ℕ) → length piece + n ≤ m → AreTold (piece ++ rest) m → AreTold rest n
  told_after piece rest n m short told k inside high = tells.after piece rest k (told (length piece + k) (omega arith) (rw get_or-append-add high))

  told_chars : (cs more : List ℕ) → all_scalars cs ≡ true → AreTold (encode_utf8_all cs ++ more) (length (encode_utf8_all cs)) → All P cs
  told_chars [] more scalars told = All-nil P
  told_chars (c ∷ cs) more scalars told =
      let both = and_parts (scalar c) (all_scalars cs) scalars in
      let fits : c < 1114112 = grind (arith, scalar_cases c) in
      let here = rw (append_assoc, length-append) at told in
      let first = told_after [] _ (length (encode_utf8 c)) _ (omega arith) here 0 (omega (arith, length-le-encodes (c ∷ []), length-append (encode_utf8 c) [])) in
      All-cons P c cs
      (⊎_elim (known.below c) (λ some. tells.of_char c _ fits some (first (begins least low P known c _ some))) (order c low))
      (told_chars cs more both.1 (told_after (encode_utf8 c) _ _ _ (omega arith) here))

  -- a front that ends between two characters
  pub told_front : (text : List ℕ) (n m : ℕ) → IsUtf8 text → IsCharBoundary text n → n ≤ m → AreTold text m → All P (chars (take n text))
  told_front text n m u boundary short told =
      let front_utf8 = IsUtf8-take text n u boundary in
      told_chars _ (drop n text) (scalars-chars _ front_utf8)
      (rw (encodes-chars (take n text) front_utf8, take-append-drop n text, length-take-le n text boundary.0) (told_after [] text n m (omega arith) told))
