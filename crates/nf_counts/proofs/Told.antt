-- The table has what the data of Unicode has, shown by one computation.
use Rattle.std.proofs.Common.{◌≡◌, ℕ, ◌+◌, ◌*◌, ◌-◌, ◌/◌, ◌%◌, ◌<◌, ◌≤◌, Bool, true, false, not, cond, ◌&&◌, ◌==◌, nat_lt, nat_le, List, [], ◌∷◌, slice_index, count_by, inl, inr, refl, sym, ap, ◌∙◌, arith, eqb-true, lt-ltb}
use Rattle.std.proofs.lemmas.Bool.{cases_Bool, cases_eq}
use Rattle.std.proofs.lemmas.Bool.Decides.{nat_tests}
use Rattle.ucd_table.specs.Trie.{IsTrie, block_value, trie_value}
use Rattle.ucd_table.proofs.Stepped.{Stepped, map_stepped, zip_stepped, runs_of}
use Rattle.ucd_table.proofs.Facts.{Stepped-always, Stepped-below, always, tree_value, tree_of, tree_value-tree_of}
use Rattle.ucd_table.proofs.TrieCheck.{all_below, all_below-at, trie_ok-IsTrie, trie_value-Stepped, trie_ok}
use Rattle.ucd_table.proofs.Computing.{tables}
use Rattle.ucd_category.specs.GeneralCategory.{general_category, general_category_eq}
use Rattle.ucd_category.specs.declared.GeneralCategory.TheVariants.{Unassigned}
use Rattle.ucd_category.proofs.GeneralCategoryLemmas.{general_category_stepped}
use Rattle.ucd_normal.specs.CanonicalCombiningClass.{canonical_combining_class as ccc}
use Rattle.ucd_normal.specs.declared.forms.Form.TheVariants.{Nfkd}
use Rattle.ucd_normal.specs.Decomposition.{or_itself, compatibility_decomposition}
use Rattle.ucd_normal.proofs.CanonicalCombiningClassLemmas.{canonical_combining_class_stepped}
use Rattle.ucd_normal.proofs.CompositionLemmas.{is_empty}
use Rattle.ucd_normal.proofs.Computing.{ucd_normal}
use Rattle.ucd_normal.proofs.DecompositionLemmas.{compatibility_decomposition_stepped}
use Rattle.unicode_normalization.specs.Decompose.{decompose}
use Rattle.unicode_normalization.specs.Hangul.{is_syllable, decompose_hangul}
use Rattle.unicode_normalization.proofs.DecomposeLemmas.{is_empty-full, decompose-syllable}
use Rattle.unicode_normalization.proofs.HangulLemmas.{is_syllable-true, decompose_hangul-two, decompose_hangul-three}
use Rattle.unicode_normalization.proofs.TableFacts.{table_of-full, class_of_jamo, class_of_syllable, entry_of_syllable}
use Rattle.nf_forms.specs.Properties.{Properties, is_nonstarter}
use Rattle.nf_forms.specs.Runs.{has_starter, lead, trail, longest}
use Rattle.nf_forms.specs.Sound.{is_sound}
use Rattle.nf_forms.specs.Ucd.{is_assigned, ucd}
use Rattle.nf_counts.specs.Counts.{HasValue, IsValued}
use Rattle.nf_counts.specs.declared.rows.TheConstants.{INDEX, TAIL, WORDS}

-- all non-starters of a row stand together at its end, fewer than 4; or no two stand side by side, nor one at its front
abbrev together : Properties → List ℕ → Bool
together p w = nat_lt (trail p w) 4 && (trail p w == longest p w && (trail p w == count_by (is_nonstarter p) w && cond (has_starter p w) 0 (trail p w) == lead p w))

abbrev apart : Properties → List ℕ → Bool
apart p w =
    let k = count_by (is_nonstarter p) w in
    has_starter p w && (1 == longest p w && (0 == lead p w && (nat_lt (trail p w) 2 && (nat_le (trail p w) k && (nat_lt 0 k && nat_lt k 4)))))

-- the value of a row, and of one that is the character alone
abbrev pub row_value : Properties → List ℕ → ℕ
row_value p w = cond (together p w) (cond (has_starter p w) 0 4 + trail p w) (cond (apart p w) (8 + 4 * trail p w + count_by (is_nonstarter p) w) 4)

-- Unicode's data by another look-up of the class, of which alone the counts read
abbrev classes : (ℕ → ℕ) → Properties
classes class = record { class = class; canonical = ucd.canonical; compat = ucd.compat; pair = ucd.pair; assigned = ucd.assigned }

-- by whether the character is assigned; of an unassigned one that is no row of its own nothing is told, by 4
abbrev value : (ℕ → ℕ) → Bool → ℕ → List ℕ → ℕ
value class assigned own w = cond (is_empty w) (cond (own == 0) (cond assigned 0 8) (cond assigned 5 4)) (cond assigned (row_value (classes class) w) 4)

unfoldable pub told : ℕ → ℕ
told c = value ccc (is_assigned c) (ccc c) (compatibility_decomposition c)

unfoldable told_stepped : Stepped told
unfolding told tables ucd_normal is_assigned general_category_stepped
told_stepped =
    let assigned = map_stepped (λ v. not (general_category_eq v Unassigned)) general_category general_category_stepped in
    let class = tree_value canonical_combining_class_stepped.default (tree_of ccc canonical_combining_class_stepped) in
    let rows = zip_stepped (λ (n : ℕ) (w : List ℕ). (n, w)) ccc compatibility_decomposition canonical_combining_class_stepped compatibility_decomposition_stepped in
    let by_tree = zip_stepped (λ (b : Bool) (r : ℕ × List ℕ). value class b r.0 r.1) is_assigned (λ c. (ccc c, compatibility_decomposition c)) assigned rows in
    record {
      default = by_tree.default;
      steps = by_tree.steps;
      gives = λ c. ap (λ class. value class (is_assigned c) (ccc c) (compatibility_decomposition c)) (tree_value-tree_of ccc canonical_combining_class_stepped) ∙ by_tree.gives c;
    }

trie_is : trie_ok 4 4 16 INDEX WORDS TAIL (runs_of (λ c. told c) told_stepped) ≡ true
unfolding tables told_stepped
trie_is = refl

pub is_trie : IsTrie 4 4 INDEX WORDS
is_trie = trie_ok-IsTrie 4 4 16 INDEX WORDS TAIL _ trie_is

pub told-value : (c : ℕ) → c < 1114112 → trie_value 4 4 INDEX WORDS TAIL c ≡ told c
told-value = trie_value-Stepped 4 4 16 INDEX WORDS TAIL (λ c. told c) told_stepped trie_is

-- of each code point something is told
some_stepped : Stepped (λ c. not (told c == 4))
unfolding tables told_stepped
some_stepped = map_stepped (λ v. not (v == 4)) told told_stepped

always_some : always (λ c. not (told c == 4)) some_stepped ≡ true
unfolding some_stepped
always_some = refl

pub told-some : (c : ℕ) → c < 1114112 → (told c == 4) ≡ false
told-some c small = grind (arith, nat_tests, Stepped-always (λ c. not (told c == 4)) some_stepped always_some c)

pub told-ascii : (c : ℕ) → c < 0x80 → told c ≡ 0
unfolding tables told_stepped
told-ascii c low = eqb-true _ _ (Stepped-below told told_stepped (λ _ (v : ℕ). v == 0) 0x80 refl c low)

-- ---- the value of a code point by its block

pub told-block : (b j : ℕ) → b < 3072 → j < 64 → block_value 4 4 WORDS (slice_index INDEX b) j ≡ told (64 * b + j)
unfolding trie_value
told-block b j small little =
    let block : (64 * b + j) / 64 ≡ b = omega arith in
    let place : (64 * b + j) % 64 ≡ j = omega arith in
    rw (block, place, lt-ltb b 3072 small) at (told-value (64 * b + j) (omega arith))

-- ---- what a value tells

-- what the value of a row says is so of it, and it is not that of an unassigned character
module _ (p : Properties) (w : List ℕ) where
  abbrev Says : ℕ → Type 0
  Says v = (v < 16) × ((v == 4) ≡ false → HasValue p w v × ((v == 8) ≡ false))

  value-row : Says (row_value p w)
  value-row = next (together p w) (apart p w) (cond (has_starter p w) 0 4 + trail p w) (8 + 4 * trail p w + count_by (is_nonstarter p) w)
      (λ is. (grind (arith, nat_tests), λ some. (grind (arith, nat_tests), grind (arith, nat_tests))))
      (λ is. (grind (arith, nat_tests), λ some. (grind (arith, nat_tests), grind (arith, nat_tests))))
    where
      next : (b d : Bool) (m n : ℕ) → (b ≡ true → Says m) → (d ≡ true → Says n) → Says (cond b m (cond d n 4))
      next true d m n first second = first refl
      next false true m n first second = second refl
      next false false m n first second = (omega arith, λ some. cc)

-- a value is below 16
pub told-small : (c : ℕ) → told c < 16
unfolding told
told-small c = next (is_assigned c) (is_empty (compatibility_decomposition c)) (ccc c == 0) (value-row (classes ccc) (compatibility_decomposition c)).0
  where
    next : (assigned empty zero : Bool) {n : ℕ} → n < 16 → cond empty (cond zero (cond assigned 0 8) (cond assigned 5 4)) (cond assigned n 4) < 16
    next assigned empty zero few = grind arith

syllable_value : (c : ℕ) → is_syllable c ≡ true → row_value (classes ccc) (decompose_hangul c) ≡ 0
syllable_value c syllable =
    let range = is_syllable-true c syllable in
    let letter : (n : ℕ) → 0x1100 ≤ n → n < 0x1200 → ccc n ≡ 0 = λ n low high. eqb-true (ccc n) 0 (class_of_jamo n low high) in
    let first = letter (0x1100 + (c - 0xAC00) / 588) (omega arith) (omega arith) in
    let second = letter (0x1161 + (c - 0xAC00) % 588 / 28) (omega arith) (omega arith) in
    elim (cases_eq ((c - 0xAC00) % 28) 0) [
      | inl none ↦ rw (decompose_hangul-two c none, first, second)
      | inr some ↦ rw (decompose_hangul-three c some, first, second, letter (0x11A7 + (c - 0xAC00) % 28) (omega arith) (omega arith))
    ]

-- the value of a row, whether it is a mapping's, a syllable's or the character alone
row_told : (c : ℕ) → value ccc true (ccc c) (compatibility_decomposition c) ≡ row_value (classes ccc) (decompose Nfkd c)
unfolding decompose
row_told c =
    elim (cases_Bool (is_syllable c)) [
      | inl syllable ↦
          let range = is_syllable-true c syllable in
          let none : is_empty (compatibility_decomposition c) ≡ true = rw (table_of-full Nfkd c, is_empty-full Nfkd c, entry_of_syllable c range.0 range.1) in
          rw (none, class_of_syllable c range.0 range.1, decompose-syllable Nfkd c syllable) (sym (syllable_value c syllable))
      | inr other ↦ next (compatibility_decomposition c) ∙ rw other
    ]
  where
    next : (w : List ℕ) → value ccc true (ccc c) w ≡ row_value (classes ccc) (or_itself c w)
    next [] = grind (arith, nat_tests)
    next (x ∷ w) = refl

-- an unassigned character is a starter, and its own row
alone : (empty zero : Bool) (m n v : ℕ) → cond empty (cond zero 0 5) m ≡ n → v ≡ cond empty (cond zero 8 4) 4 → (v == 4) ≡ false → (v ≡ 8) × (n ≡ 0)
alone true true m n v row is some = (is, sym row)
alone _ _ m n v row is some = absurd (grind (arith, nat_tests))

-- so a value other than 4 tells of the character
pub told-valued : (c : ℕ) → is_sound ucd c ≡ true → (v : ℕ) → v ≡ told c → (v == 4) ≡ false → IsValued ucd c v
unfolding told ucd
told-valued c sound v is some = next (is_assigned c) refl (compatibility_decomposition c) (row_told c) is
  where
    says : Says ucd (decompose Nfkd c) (row_value (classes ccc) (decompose Nfkd c))
    says = value-row ucd (decompose Nfkd c)

    next : (assigned : Bool) → is_assigned c ≡ assigned → (w : List ℕ) → value ccc true (ccc c) w ≡ row_value (classes ccc) (decompose Nfkd c) → v ≡ value ccc assigned (ccc c) w → IsValued ucd c v
    next true told_so w row is =
        let both = (rw (sym (is ∙ row)) at says).1 some in
        record { sound = sound; assigned = rw both.1 told_so; row = both.0 }
    next false told_so w row is =
        let both = alone (is_empty w) (ccc c == 0) _ _ v row is some in
        let none = ((rw both.1 at says).1 refl).0 in
        record {
          sound = sound;
          assigned = rw (both.0, told_so);
          row = rw both.0 (record { has_starter = none.has_starter; lead = none.lead; trail = none.trail; longest = none.longest; nonstarters = none.nonstarters });
        }

-- U+0300 to U+033F are non-starters
marks_are : all_below (λ j. block_value 4 4 WORDS (slice_index INDEX 12) j == 5) 64 ≡ true
unfolding all_below block_value
marks_are = refl

pub valued-mark : (c : ℕ) → is_sound ucd c ≡ true → c / 64 ≡ 12 → IsValued ucd c 5
valued-mark c sound block =
    let whole : 64 * 12 + c % 64 ≡ c = omega (arith, block) in
    let is : block_value 4 4 WORDS (slice_index INDEX 12) (c % 64) ≡ 5 = eqb-true _ 5 (all_below-at (λ j. block_value 4 4 WORDS (slice_index INDEX 12) j == 5) 64 (c % 64) marks_are (omega arith)) in
    told-valued c sound 5 (sym is ∙ rw whole at (told-block 12 (c % 64) (omega arith) (omega arith))) refl
