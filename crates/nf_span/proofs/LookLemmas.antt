-- Where bytes tell of a character, and where one begins.
use Rattle.std.proofs.Common.{◌≡◌, ⊎_elim, ℕ, ◌+◌, ◌/◌, ◌<◌, ◌≤◌, Bool, true, false, not, ◌&&◌, ◌||◌, ◌==◌, List, drop, get_or, bit_and, bit_or, cond, refl, sym, ap, ◌∙◌, arith, eqb-true}
use Rattle.std.specs.Int.{bit_at}
use Rattle.std.proofs.lemmas.List.{get_or-drop, length-drop}
use Rattle.std.proofs.lemmas.Nat.{and_le_l, le_or_l, le_or_r}
use Rattle.std.proofs.lemmas.Nat.Bits.{bit_at_above, bit_at_and, bit_at-lt}
use Rattle.std.proofs.str.Laws.{order}
use Rattle.ucd_table.proofs.TrieCheck.{all_below, all_below-at}
use Rattle.nf_forms.specs.declared.form.Form.{Form}
use Rattle.nf_forms.specs.declared.form.Form.TheVariants.{Nfc}
use Rattle.nf_lanes.specs.Lanes.{bits_at}
use Rattle.nf_lanes.specs.Looks.{left_after}
use Rattle.nf_lanes.specs.Sets.{byte_sets, pair_sets}
use Rattle.nf_lanes.specs.declared.sets.Pairs.{Pairs}
use Rattle.nf_lanes.proofs.BitsLemmas.{narrower, none_after}
use Rattle.nf_lanes.proofs.PlacesLemmas.{bit_of, bits_at-below}
use Rattle.nf_span.specs.Leads.{lead_bits, wants_look}
use Rattle.nf_span.specs.Closer.{family_of, is_asked, pairs_of, wants_after, wants_pair, look_at}
use Rattle.nf_span.specs.Window.{AreLooks, IsWindow}
use Rattle.nf_span.proofs.WindowLemmas.{look_at-drop}

-- neither number has a bit
pub no_bits : (x y : ℕ) → not (bit_or x y == 0) ≡ false → (x ≡ 0) × (y ≡ 0)
no_bits x y none = (grind (arith, le_or_l x y), grind (arith, le_or_r x y))

unset : (b : Bool) → ◌≡◌ {A = ℕ} (cond b 1 0) 0 → b ≡ false
unset false _ = refl
unset true e = absurd (omega (arith, e))

is_set : (b : Bool) → ◌≡◌ {A = ℕ} (cond b 1 0) 1 → b ≡ true
is_set true _ = refl
is_set false e = absurd (omega (arith, e))

no_part : (a b : Bool) {c : Bool} → c ≡ false → a && (b && c) ≡ false
no_part a b e = grind (arith, e)

not_after : (a b : Bool) → a ≡ true → b ≡ false → not a || b ≡ false
not_after a b asked none = grind (arith, asked, none)

-- no set has a pair that begins with a byte below C0
abbrev HasNoLead : Pairs → Type 0
HasNoLead t = all_below (λ h. get_or t.first_high h 0 == 0) 12 ≡ true

no_sets : (t : Pairs) → HasNoLead t → (lead next : ℕ) → lead < 192 → pair_sets t lead next ≡ 0
no_sets t rows lead next small =
    let none = all_below-at (λ h. get_or t.first_high h 0 == 0) 12 (lead / 16) rows in
    let first = and_le_l (get_or t.first_high (lead / 16) 0) (get_or t.first_low (bit_and lead 15) 0) in
    grind (arith, none, first, and_le_l (byte_sets t.first_high t.first_low lead) (byte_sets t.next_high t.next_low next))

-- the tables have nothing for a byte that is no lead byte
record NoLead (f : Form) : Type 0 where
  pairs : HasNoLead (pairs_of f)
  leads : all_below (λ byte. lead_bits f byte == 0) 192 ≡ true

no_lead : (f : Form) → NoLead f
unfolding all_below
no_lead Nfc = record { pairs = refl; leads = refl }
no_lead _ = record { pairs = refl; leads = refl }

module _ (f : Form) where
  no_lead_bits : (byte : ℕ) → byte < 192 → lead_bits f byte ≡ 0
  no_lead_bits byte small = eqb-true _ 0 (all_below-at (λ b. lead_bits f b == 0) 192 byte (no_lead f).leads small)

  pub no_look : (byte : ℕ) → byte < 192 → wants_look f byte ≡ false
  no_look byte small = ap (λ n. not (n == 0)) (no_lead_bits byte small)

  -- bytes that want a look begin a character
  pub lead_begins : (byte : ℕ) → wants_look f byte ≡ true → 192 ≤ byte
  lead_begins byte look = grind (arith, no_look byte)

  begins_with : (lead sets mask : ℕ) → (lead < 192 → sets ≡ 0) → not (bit_or sets (bit_and (lead_bits f lead) mask) == 0) ≡ true → 192 ≤ lead
  begins_with lead sets mask none look = grind (arith, no_lead_bits lead, and_le_l (lead_bits f lead) mask)

  module _ (bytes : List ℕ) where
    abbrev pair_at : ℕ → Bool
    pair_at k = wants_pair f (get_or bytes k 0) (get_or bytes (k + 1) 0)

    abbrev after_at : ℕ → Bool
    after_at k = wants_after f (get_or bytes k 0) (get_or bytes (k + 1) 0) (get_or bytes (k + 2) 0)

    pub told_by_lead : (k : ℕ) → wants_look f (get_or bytes k 0) ≡ false → look_at f bytes k ≡ false
    told_by_lead k e = ap (λ b. b && (pair_at k && after_at k)) e

    -- what the bits of a test tell
    module _ (at : ℕ) where
      by_test : (test : ℕ → Bool) → ((k : ℕ) → test k ≡ false → look_at f bytes k ≡ false) → ((k : ℕ) → test k ≡ true → 192 ≤ get_or bytes k 0)
          → AreLooks f bytes at (bits_at test at)
      by_test test told begins window is long =
          let bit : (k : ℕ) → k < 16 → bit_at window.looks k ≡ cond (test (at + k)) 1 0 = λ k. bit_of test at window.looks k (at + k) is refl in
          record {
            plain = λ k inside none. look_at-drop f bytes at k ∙ told (at + k) (unset _ (sym (bit k (omega (arith, inside, long, length-drop at bytes))) ∙ none));
            begins = λ k one.
                let below : window.looks < 65536 = rw is (bits_at-below test at) in
                let few : k < 16 = grind (arith, one, bit_at_above window.looks 16 k below) in
                (omega (arith, few, long, length-drop at bytes), rw (get_or-drop at bytes k 0) (begins (at + k) (is_set _ (sym (bit k few) ∙ one))));
          }

      pub by_lead : AreLooks f bytes at (bits_at (λ k. wants_look f (get_or bytes k 0)) at)
      by_lead = by_test _ told_by_lead (λ k. lead_begins (get_or bytes k 0))

      pub by_pair : AreLooks f bytes at (bits_at pair_at at)
      by_pair = by_test pair_at (λ k none. grind arith) (λ k. begins_with (get_or bytes k 0) _ 13 (no_sets (pairs_of f) (no_lead f).pairs _ (get_or bytes (k + 1) 0)))

      -- what is left of them where the two bytes after a lead byte are asked
      module _ (lead looks left : ℕ) (asked : is_asked lead ≡ true) (are : AreLooks f bytes at looks) (left_is : left ≡ bits_at (left_after (family_of f lead) lead bytes) at) where
        told_after : (k : ℕ) → k < 16 → bit_at left k ≡ 0 → look_at f bytes (at + k) ≡ false
        told_after k few zero =
            let t = family_of f lead in
            let j = at + k in
            let none = none_after t lead bytes j (unset _ (sym (bit_of (left_after t lead bytes) at left k j left_is refl few) ∙ zero)) in
            let is : j + 1 + 1 ≡ j + 2 = omega arith in
            no_part (wants_look f (get_or bytes j 0)) (pair_at j) (rw none.0 (not_after (is_asked lead) _ asked (rw is at none.1)))

        pub by_family : AreLooks f bytes at (bit_and looks left)
        by_family window is long =
            let found : IsWindow f (drop at bytes) (record { looks = looks; after = window.after }) = are _ refl long in
            record {
              plain = λ k inside none. ⊎_elim
                  (λ zero. found.plain k inside (omega (arith, zero)))
                  (λ some. look_at-drop f bytes at k ∙ told_after k (omega (arith, inside, long, length-drop at bytes)) (grind (arith, some, is, none, bit_at_and looks left k, bit_at-lt looks k)))
                  (order (bit_at looks k) 1);
              begins = λ k one. found.begins k (narrower looks left k (rw is at one));
            }
