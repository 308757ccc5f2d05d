-- The tables have the bits of each code point, shown by one computation; and what each bit tells.
use Rattle.std.proofs.Common.{◌≡◌, ℕ, zero, suc, length, get_or, sym, ap, subst, eqb-true, le_refl, le_of_suc-le-suc, not-suc-le-zero, ◌≤◌, ◌+◌, ◌*◌, ◌/◌, ◌%◌, ◌<◌, Bool, true, false, cond, not, ◌&&◌, ◌||◌, ◌==◌, nat_lt, List, [], ◌∷◌, ltb-true, refl, ◌∙◌, arith, IsTrue}
use Rattle.std.proofs.lemmas.Bool.{and_parts}
use Rattle.std.proofs.lemmas.Bool.Decides.{nat_tests}
use Rattle.ucd_table.specs.Rows.{Range, in_ranges}
use Rattle.ucd_table.specs.Steps.{Step, step_value}
use Rattle.ucd_table.proofs.StepsLemmas.{rises_from, skip, step_value-skip, step_value-here, same_steps, same_steps-true}
use Rattle.ucd_table.proofs.Stepped.{Stepped, of_ranges, zip_stepped, runs_of, step_value-runs_of}
use Rattle.ucd_table.proofs.RangedFacts.{values_ok as all_values, Stepped-at_values}
use Rattle.ucd_table.proofs.Computing.{tables}
use Rattle.ucd_normal.specs.declared.forms.Form.TheVariants.{Nfd, Nfkd, Nfc, Nfkc}
use Rattle.ucd_normal.specs.declared.forms.QuickCheck.{QuickCheck}
use Rattle.ucd_normal.specs.declared.forms.QuickCheck.TheVariants.{Yes}
use Rattle.ucd_normal.specs.CanonicalCombiningClass.{canonical_combining_class}
use Rattle.ucd_normal.specs.QuickCheck.{quick_check, quick_check_number}
use Rattle.ucd_normal.proofs.CanonicalCombiningClassLemmas.{canonical_combining_class_stepped}
use Rattle.ucd_normal.proofs.QuickCheckLemmas.{nfd_stepped, nfkd_stepped, nfc_stepped, nfkc_stepped, quick_check_number-lt, class-lt}
use Rattle.nf_forms.specs.declared.form.Form.{Form}
use Rattle.nf_forms.specs.declared.form.Form.TheVariants.{Nfd as FormNfd, Nfkd as FormNfkd, Nfc as FormNfc, Nfkc as FormNfkc}
use Rattle.nf_facts.specs.Passing.{is_among, halfwidth_marks, vowel_signs, is_yes, passes_check}
use Rattle.nf_facts.specs.KitForm.{kit_form}
use Rattle.nf_facts.specs.Refused.{no_vowel_sign}
use Rattle.nf_entry.specs.Entry.{entry_bits}
use Rattle.nf_entry.specs.declared.rows.TheConstants.{BLOCKS, INDEX}

-- ---- the tables

marks : List Range
marks = (0xF73, 0xF73) ∷ (0xF75, 0xF75) ∷ (0xF81, 0xF81) ∷ (0xFF9E, 0xFF9F) ∷ []

abbrev begins : ℕ → Bool
begins c = is_among halfwidth_marks c || is_among vowel_signs c

in_marks : (c : ℕ) → begins c ≡ in_ranges marks c
unfolding in_ranges marks
in_marks c = grind (arith, nat_tests)

unfoldable begins_stepped : Stepped begins
unfolding marks rises_from
begins_stepped = let s = of_ranges marks refl in record { default = s.default; steps = s.steps; gives = λ c. in_marks c ∙ s.gives c }

unfoldable entry_stepped : Stepped entry_bits
unfolding entry_bits
entry_stepped =
    let number = quick_check_number in
    let apart = zip_stepped (λ v b. number v + 2 * cond b 1 0) (quick_check Nfd) begins nfd_stepped begins_stepped in
    let compat = zip_stepped (λ (n : ℕ) v. n + 4 * number v) _ (quick_check Nfkd) apart nfkd_stepped in
    let composed = zip_stepped (λ v w. number v + 4 * number w) (quick_check Nfc) (quick_check Nfkc) nfc_stepped nfkc_stepped in
    let answers = zip_stepped (λ (n m : ℕ). n + 16 * m) _ _ compat composed in
    zip_stepped (λ (n m : ℕ). n + 256 * m) canonical_combining_class _ canonical_combining_class_stepped answers

-- the first n values are those from c on
unfoldable block_ok : ℕ → List ℕ → ℕ → List (Step ℕ) → Bool
block_ok zero vs c ss = true
block_ok (suc n) [] c ss = false
block_ok (suc n) (v ∷ vs) c ss = let here = skip ss c in v == step_value 0 here c && block_ok n vs (suc c) here

-- and so are those of each block that the index names
unfoldable blocks_ok : List ℕ → ℕ → List (Step ℕ) → Bool
blocks_ok [] c ss = same_steps (skip ss c) ((0x110000, 0) ∷ [])
blocks_ok (k ∷ ks) c ss = let here = skip ss c in nat_lt k (length BLOCKS) && (block_ok 64 (get_or BLOCKS k []) c here && blocks_ok ks (c + 64) here)

tables_are : blocks_ok INDEX 0 (runs_of (λ c. entry_bits c) entry_stepped) ≡ true
unfolding tables entry_stepped begins_stepped marks nfd_stepped nfkd_stepped nfc_stepped nfkc_stepped canonical_combining_class_stepped block_ok blocks_ok
tables_are = refl

block_ok-true : (n : ℕ) (vs : List ℕ) (c : ℕ) (ss : List (Step ℕ)) → block_ok n vs c ss ≡ true → (j : ℕ) → j < n → get_or vs j 0 ≡ step_value 0 ss (c + j)
unfolding block_ok
block_ok-true zero vs c ss ok j few = absurd (not-suc-le-zero few)
block_ok-true (suc n) [] c ss ok j few = cc
block_ok-true (suc n) (v ∷ vs) c ss ok zero few =
    let both = and_parts (v == step_value 0 (skip ss c) c) _ ok in
    let same : c ≡ c + 0 = omega arith in
    eqb-true v _ both.0 ∙ step_value-skip 0 ss c c (le_refl c) ∙ ap (step_value 0 ss) same
block_ok-true (suc n) (v ∷ vs) c ss ok (suc j) few =
    let both = and_parts (v == step_value 0 (skip ss c) c) _ ok in
    let same : suc c + j ≡ c + suc j = omega arith in
    block_ok-true n vs (suc c) (skip ss c) both.1 j (le_of_suc-le-suc few) ∙ step_value-skip 0 ss c (suc c + j) (omega arith) ∙ ap (step_value 0 ss) same

record Has (k c : ℕ) (ss : List (Step ℕ)) : Type 0 where
  some : k < length BLOCKS
  values : (j : ℕ) → j < 64 → get_or (get_or BLOCKS k []) j 0 ≡ step_value 0 ss (c + j)

blocks_ok-true : (ks : List ℕ) (c : ℕ) (ss : List (Step ℕ)) → blocks_ok ks c ss ≡ true → (b : ℕ) → b < length ks → Has (get_or ks b 0) (c + 64 * b) ss
unfolding blocks_ok
blocks_ok-true [] c ss ok b few = absurd (not-suc-le-zero few)
blocks_ok-true (k ∷ ks) c ss ok zero few =
    let parts = and_parts (nat_lt k (length BLOCKS)) _ ok in
    let both = and_parts (block_ok 64 (get_or BLOCKS k []) c (skip ss c)) _ parts.1 in
    let same : c ≡ c + 64 * 0 = omega arith in
    subst (λ x. Has k x ss) same
    (record { some = ltb-true _ _ parts.0; values = λ j small. block_ok-true 64 _ c (skip ss c) both.0 j small ∙ step_value-skip 0 ss c (c + j) (omega arith) })
blocks_ok-true (k ∷ ks) c ss ok (suc b) few =
    let parts = and_parts (nat_lt k (length BLOCKS)) _ ok in
    let both = and_parts (block_ok 64 (get_or BLOCKS k []) c (skip ss c)) _ parts.1 in
    let has = blocks_ok-true ks (c + 64) (skip ss c) both.1 b (le_of_suc-le-suc few) in
    let same : c + 64 + 64 * b ≡ c + 64 * suc b = omega arith in
    subst (λ x. Has (get_or ks b 0) x ss) same
    (record { some = has.some; values = λ j small. has.values j small ∙ step_value-skip 0 ss c (c + 64 + 64 * b + j) (omega arith) })

after_ok-true : (ks : List ℕ) (c : ℕ) (ss : List (Step ℕ)) → blocks_ok ks c ss ≡ true → (x : ℕ) → c + 64 * length ks ≤ x → x < 0x110000 → step_value 0 ss x ≡ 0
unfolding blocks_ok
after_ok-true [] c ss ok x from to =
    sym (step_value-skip 0 ss c x (omega arith)) ∙ ap (λ k. step_value 0 k x) (same_steps-true _ _ ok) ∙ step_value-here 0 (0x110000, 0) [] x to
after_ok-true (k ∷ ks) c ss ok x from to =
    let parts = and_parts (nat_lt k (length BLOCKS)) _ ok in
    let both = and_parts (block_ok 64 (get_or BLOCKS k []) c (skip ss c)) _ parts.1 in
    sym (step_value-skip 0 ss c x (omega arith)) ∙ after_ok-true ks (c + 64) (skip ss c) both.1 x (omega arith) to

-- ---- the bits of a code point

steps_are : (c : ℕ) → c < 0x110000 → step_value 0 (runs_of (λ x. entry_bits x) entry_stepped) c ≡ entry_bits c
steps_are c small = step_value-runs_of (λ x. entry_bits x) entry_stepped c small

pub block_of : (b : ℕ) → b < length INDEX → get_or INDEX b 0 < length BLOCKS
block_of b small = (blocks_ok-true INDEX 0 _ tables_are b small).some

pub bits_of : (c : ℕ) → c < 0x110000 → c / 64 < length INDEX → get_or (get_or BLOCKS (get_or INDEX (c / 64) 0) []) (c % 64) 0 ≡ entry_bits c
bits_of c small within =
    let same : 0 + 64 * (c / 64) + c % 64 ≡ c = omega arith in
    (blocks_ok-true INDEX 0 _ tables_are (c / 64) within).values (c % 64) (omega arith) ∙ ap (step_value 0 _) same ∙ steps_are c small

pub bits_after : (c : ℕ) → c < 0x110000 → length INDEX ≤ c / 64 → 0 ≡ entry_bits c
bits_after c small beyond = sym (after_ok-true INDEX 0 _ tables_are c (omega arith) small) ∙ steps_are c small

-- ---- what the bits tell

nfd-lt : (c : ℕ) → quick_check_number (quick_check Nfd c) < 2
unfolding tables all_values nfd_stepped
nfd-lt c = ltb-true _ _ (Stepped-at_values (quick_check Nfd) nfd_stepped (λ v. nat_lt (quick_check_number v) 2) refl c)

pub record Tells (bits c : ℕ) : Type 0 where
  pub class : bits % 0x100 ≡ canonical_combining_class c
  pub nfd : bits / 0x100 % 2 ≡ quick_check_number (quick_check Nfd c)
  pub mark : bits / 0x200 % 2 ≡ cond (begins c) 1 0
  pub nfkd : bits / 0x400 % 4 ≡ quick_check_number (quick_check Nfkd c)
  pub nfc : bits / 0x1000 % 4 ≡ quick_check_number (quick_check Nfc c)
  pub nfkc : bits / 0x4000 % 4 ≡ quick_check_number (quick_check Nfkc c)

pub tells : (bits c : ℕ) → bits ≡ entry_bits c → Tells bits c
unfolding entry_bits
tells bits c is =
    let number : QuickCheck → ℕ = quick_check_number in
    let class = class-lt c in
    let a = nfd-lt c in
    let b = quick_check_number-lt (quick_check Nfkd c) in
    let d = quick_check_number-lt (quick_check Nfc c) in
    let e = quick_check_number-lt (quick_check Nfkc c) in
    let mark : cond (begins c) 1 0 < 2 = grind arith in
    record { class = omega arith; nfd = omega arith; mark = omega arith; nfkd = omega arith; nfc = omega arith; nfkc = omega arith }

-- no vowel sign passes, so that of what passes the mark alone is left to be asked
pub passes_is : (f : Form) (c : ℕ) → passes_check f c ≡ ((canonical_combining_class c == 0 && is_yes (quick_check (kit_form f) c)) && not (begins c))
passes_is f c = next (quick_check (kit_form f) c) refl
  where
    next : (v : QuickCheck) → quick_check (kit_form f) c ≡ v → passes_check f c ≡ ((canonical_combining_class c == 0 && is_yes (quick_check (kit_form f) c)) && not (begins c))
    next Yes is = let none = no_vowel_sign f c (λ no. cc) in grind (arith, nat_tests)
    next _ is = rw is (grind (arith, nat_tests))

-- where that is so in each form no bit is set
pub none_set : (c : ℕ) → ((f : Form) → IsTrue (passes_check f c)) → 0 ≡ entry_bits c
unfolding entry_bits
none_set c passes =
    let nfc = passes FormNfc in
    let nfd = rw (passes_is FormNfd c) at (passes FormNfd) in
    let nfkc = passes FormNfkc in
    let nfkd = passes FormNfkd in
    grind (arith, nat_tests)
