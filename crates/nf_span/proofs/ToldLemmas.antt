-- What bytes tell of a character is so: a character of which they tell that it passes lies in the form's ranges.
use Rattle.std.proofs.Common.{◌≡◌, ℕ, ◌+◌, ◌*◌, ◌/◌, ◌%◌, ◌<◌, ◌≤◌, ◌⊎◌, inl, inr, Bool, true, false, not, ◌&&◌, ◌||◌, ◌==◌, nat_lt, List, ◌++◌, bit_and, bit_or, refl, ap, arith, le-ltb}
use Rattle.std.specs.Prelude.{encode_utf8}
use Rattle.std.proofs.str.Laws.{order, two, three, four}
use Rattle.std.proofs.lemmas.Bool.Decides.{nat_tests}
use Rattle.nf_lanes.specs.Looks.{is_in}
use Rattle.ucd_table.specs.Rows.{in_ranges}
use Rattle.ucd_table.proofs.TrieCheck.{all_below, all_below-at}
use Rattle.nf_forms.specs.declared.form.Form.{Form}
use Rattle.nf_forms.specs.declared.form.Form.TheVariants.{Nfc}
use Rattle.nf_facts.specs.PlainRanges.{plain_ranges}
use Rattle.nf_facts.specs.Within.{lies_within, in_ranges-lies_within, or_else}
use Rattle.nf_span.specs.Leads.{lead_bits, wants_look}
use Rattle.nf_span.specs.Closer.{family_of, is_asked, pairs_of, wants_after, wants_pair, look_at}
use Rattle.nf_lanes.specs.Sets.{byte_sets, pair_sets}
use Rattle.nf_lanes.specs.declared.sets.Pairs.{Pairs}
use Rattle.nf_span.proofs.LookLemmas.{no_bits}

-- by lead bytes: all that begins with one lies in the form's ranges; or it has to be looked up, and each that the bytes after do
-- not find lies there
module _ (f : Form) where
  abbrev within : ℕ → ℕ → Bool
  within = lies_within (plain_ranges f)

  abbrev told_second : ℕ → ℕ → Bool
  told_second k i = or_else (wants_pair f (192 + k) (128 + i)) (λ _. within (64 * k + i) (64 * k + i))

  abbrev told_two : ℕ → Bool
  told_two k = or_else (within (64 * k) (64 * k + 63)) (λ _. wants_look f (192 + k) && all_below (told_second k) 64)

  -- by the sets t
  module _ (t : Pairs) where
    abbrev told_third : ℕ → ℕ → ℕ → Bool
    told_third hits base j = or_else (not (bit_and hits (byte_sets t.next_high t.next_low (128 + j)) == 0)) (λ _. within (base + j) (base + j))

    -- the second bytes of E0 begin at A0
    abbrev told_block : ℕ → ℕ → Bool
    told_block k i =
        or_else (within (4096 * k + 64 * i) (4096 * k + 64 * i + 63)) (λ _.
        or_else (nat_lt (4096 * k + 64 * i) 2048) (λ _. all_below (told_third (byte_sets t.first_high t.first_low (128 + i)) (4096 * k + 64 * i)) 64))

  abbrev told_three : ℕ → Bool
  told_three k =
      or_else (within (4096 * k) (4096 * k + 4095)) (λ _.
      wants_look f (224 + k) && (not (bit_and (lead_bits f (224 + k)) 13 == 0) && or_else (not (is_asked (224 + k))) (λ _. all_below (told_block (family_of f (224 + k)) k) 64)))

  abbrev told_four : ℕ → Bool
  told_four k = or_else (within (262144 * k) (262144 * k + 262143)) (λ _. wants_look f (240 + k) && not (bit_and (lead_bits f (240 + k)) 13 == 0))

record Told (f : Form) : Type 0 where
  ascii : lies_within (plain_ranges f) 0 127 ≡ true
  of_two : all_below (told_two f) 32 ≡ true
  of_three : all_below (told_three f) 16 ≡ true
  of_four : all_below (told_four f) 8 ≡ true

told : (f : Form) → Told f
unfolding plain_ranges all_below
told Nfc = record { ascii = refl; of_two = refl; of_three = refl; of_four = refl }
told _ = record { ascii = refl; of_two = refl; of_three = refl; of_four = refl }

none_asked : (k : ℕ) → is_asked (240 + k) ≡ false
none_asked k = grind (arith, nat_tests)

module _ (f : Form) where
  lies : (first last c : ℕ) → within f first last ≡ true → first ≤ c → c ≤ last → in_ranges (plain_ranges f) c ≡ true
  lies = in_ranges-lies_within (plain_ranges f)

  -- what is said of the bytes at a place
  abbrev pub look3 : ℕ → ℕ → ℕ → Bool
  look3 lead next last = wants_look f lead && (wants_pair f lead next && wants_after f lead next last)

  -- where a bit of the lead byte's is set, the bits of the sets with it are not none
  asked_by : (sets bits : ℕ) → not (bits == 0) ≡ true → not (bit_or sets bits == 0) ≡ true
  asked_by sets bits others = grind (arith, no_bits sets bits)

  by_two : (k i last : ℕ) → k < 32 → i < 64 → look3 (192 + k) (128 + i) last ≡ false → in_ranges (plain_ranges f) (64 * k + i) ≡ true
  by_two k i last short little plain =
      let c = 64 * k + i in
      grind (arith, lies (64 * k) (64 * k + 63) c, lies c c c, all_below-at (told_two f) 32 k (told f).of_two short, all_below-at (told_second f k) 64 i)

  by_three : (k i j : ℕ) → k < 16 → i < 64 → j < 64 → 2048 ≤ 4096 * k + 64 * i + j → look3 (224 + k) (128 + i) (128 + j) ≡ false → in_ranges (plain_ranges f) (4096 * k + 64 * i + j) ≡ true
  by_three k i j short little small large plain =
      let base = 4096 * k + 64 * i in
      let c = base + j in
      let t = family_of f (224 + k) in
      let hits = byte_sets t.first_high t.first_low (128 + i) in
      grind (
        arith,
        lies (4096 * k) (4096 * k + 4095) c,
        lies base (base + 63) c,
        lies c c c,
        le-ltb base 2048,
        all_below-at (told_three f) 16 k (told f).of_three short,
        all_below-at (told_block f t k) 64 i,
        all_below-at (told_third f t hits base) 64 j,
        asked_by (pair_sets (pairs_of f) (224 + k) (128 + i)) (bit_and (lead_bits f (224 + k)) 13),
      )

  -- after a lead byte of four nothing is asked
  asked_four : (k next last : ℕ) → wants_after f (240 + k) next last ≡ true
  asked_four k next last = ap (λ b. not b || is_in (family_of f (240 + k)) next last) (none_asked k)

  by_four : (k next last c : ℕ) → k < 8 → 262144 * k ≤ c → c ≤ 262144 * k + 262143 → look3 (240 + k) next last ≡ false → in_ranges (plain_ranges f) c ≡ true
  by_four k next last c short low high plain =
      grind (
        arith,
        lies (262144 * k) (262144 * k + 262143) c,
        all_below-at (told_four f) 8 k (told f).of_four short,
        asked_by (pair_sets (pairs_of f) (240 + k) next) (bit_and (lead_bits f (240 + k)) 13),
        asked_four k next last,
      )

  -- a character that stands at the front of these bytes
  pub by_told : (c : ℕ) (more : List ℕ) → c < 1114112 → look_at f (encode_utf8 c ++ more) 0 ≡ false → in_ranges (plain_ranges f) c ≡ true
  by_told c more scalar plain = at (order c 128) (order c 2048) (order c 65536)
    where
      at : (c < 128) ⊎ (128 ≤ c) → (c < 2048) ⊎ (2048 ≤ c) → (c < 65536) ⊎ (65536 ≤ c) → in_ranges (plain_ranges f) c ≡ true
      at (inl small) _ _ = lies 0 127 c (told f).ascii (omega arith) (omega arith)
      at (inr large) (inl small) _ =
          let is : 64 * (c / 64) + c % 64 ≡ c = omega arith in
          rw (← is) (by_two (c / 64) (c % 64) _ (omega arith) (omega arith) (rw (two c large small) at plain))
      at (inr _) (inr large) (inl small) =
          let is : 4096 * (c / 4096) + 64 * (c / 64 % 64) + c % 64 ≡ c = omega arith in
          rw (← is) (by_three (c / 4096) (c / 64 % 64) (c % 64) (omega arith) (omega arith) (omega arith) (omega (arith, is)) (rw (three c large small) at plain))
      at (inr _) (inr _) (inr large) = by_four (c / 262144) _ _ c (omega arith) (omega arith) (omega arith) (rw (four c large) at plain)
