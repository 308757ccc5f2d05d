-- What is so of each character with a decomposition mapping, by one computation over the tables.
use Rattle.std.proofs.Common.{◌≡◌, ℕ, ◌≤◌, ◌<◌, ◌-◌, ◌%◌, Bool, true, false, not, ◌&&◌, ◌||◌, ◌==◌, List, [], ◌∷◌, flat_map, refl, ◌∙◌, arith, ap₂, ⊎_elim}
use Rattle.nf_facts.proofs.Common.{cases_Bool, cases_eq, nat_tests, list_all, KitNfd, KitNfkd, ccc, decompose, Properties, lead, ucd}
use lib.Utf8.{scalar}
use Rattle.ucd_table.proofs.Stepped.{Stepped}
use Rattle.ucd_table.proofs.Facts.{tree_value, tree_of, tree_value-tree_of}
use Rattle.ucd_table.proofs.GroupsCheck.{same_string}
use Rattle.ucd_table.proofs.RangedFacts.{points_ok, values_ok, Stepped-at_points}
use Rattle.ucd_table.proofs.Computing.{tables}
use Rattle.ucd_normal.specs.declared.forms.Form.{Form}
use Rattle.ucd_normal.specs.Decomposition.{decomposition, expand, or_itself}
use Rattle.ucd_normal.proofs.CanonicalCombiningClassLemmas.{canonical_combining_class_stepped}
use Rattle.ucd_normal.proofs.CompositionLemmas.{is_empty}
use Rattle.ucd_normal.proofs.DecompositionLemmas.{decomposition_stepped}
use Rattle.unicode_normalization.specs.Hangul.{is_syllable}
use Rattle.unicode_normalization.proofs.DecomposeLemmas.{decompose-syllable, decompose-other, decompose-mapped, decompose-final, pick-none}
use Rattle.unicode_normalization.proofs.HangulLemmas.{is_syllable-true, decompose_hangul-two, decompose_hangul-three}
use Rattle.unicode_normalization.proofs.TableFacts.{Tables, by_rows, full, pick, class_of_syllable}
use Rattle.nf_forms.specs.Ordering.{is_ordered}
use Rattle.nf_forms.specs.Sound.{ends_within, marks_agree}
use Rattle.nf_facts.specs.Passing.{is_among, halfwidth_marks, vowel_signs, mapped_marks}

-- ---- the tests, on the two rows of a character

-- Unicode's data by another look-up of the class, of which alone the tests read
abbrev pub classes_of : Tables → Properties
classes_of t = record ucd { class = t.class }

-- the compatibility row of a character that is no Hangul syllable
abbrev pub compat_by : Tables → ℕ → List ℕ
compat_by t x = or_itself x (full t KitNfkd x)

-- a starter, or without a mapping
abbrev pub is_fixed_by : Tables → ℕ → Bool
is_fixed_by t x = t.class x == 0 || is_empty (pick KitNfkd (t.entry x))

-- what is asked of a character with a mapping, and of its two rows: `Agree`, what soundness asks of the two together; `Joined`
-- and `Fixed`, that the compatibility rows of the members of the canonical row make up the compatibility row, its
-- non-starters unchanged; `Begins`, that the compatibility row of a starter begins with one, and `Starts`, that the character
-- is a starter, both with the exceptions
pub data Fact : Type 0 where
  Agree Joined Fixed Begins Starts CanonicalOrdered CompatOrdered OfScalar CanonicalScalars CompatScalars : Fact

abbrev pub holds : Tables → ℕ → List ℕ → List ℕ → Fact → Bool
holds t c canonical compat Agree = ends_within (classes_of t) canonical compat && marks_agree (classes_of t) canonical compat
holds t c canonical compat Joined = same_string (flat_map (compat_by t) canonical) compat
holds t c canonical compat Fixed = list_all (is_fixed_by t) canonical
holds t c canonical compat Begins = not (t.class c == 0) || (is_among vowel_signs c || (is_among halfwidth_marks c || lead (classes_of t) compat == 0))
holds t c canonical compat Starts = t.class c == 0 || is_among mapped_marks c
holds t c canonical compat CanonicalOrdered = is_ordered (classes_of t) canonical
holds t c canonical compat CompatOrdered = is_ordered (classes_of t) compat
holds t c canonical compat OfScalar = scalar c
holds t c canonical compat CanonicalScalars = list_all scalar canonical
holds t c canonical compat CompatScalars = list_all scalar compat

passes_all : (Fact → Bool) → Bool
passes_all p = list_all p (Agree ∷ Joined ∷ Fixed ∷ Begins ∷ Starts ∷ CanonicalOrdered ∷ CompatOrdered ∷ OfScalar ∷ CanonicalScalars ∷ CompatScalars ∷ [])

each : (p : Fact → Bool) → passes_all p ≡ true → (f : Fact) → p f ≡ true
unfolding passes_all
each p all Agree = grind (arith, nat_tests)
each p all _ = grind (arith, nat_tests)

abbrev row_passes : Tables → ℕ → Bool
row_passes t c = passes_all (holds t c (or_itself c (full t KitNfd c)) (full t KitNfkd c))

-- ---- the computation

abbrev by_tree : {V : Type 0} (f : ℕ → V) → Stepped f → ℕ → V
by_tree f s = tree_value s.default (tree_of f s)

-- the class and the decomposition, which alone are read, by trees
abbrev by_trees : Tables
by_trees = record by_rows { class = by_tree ccc canonical_combining_class_stepped; entry = by_tree decomposition decomposition_stepped }

computed : (c : ℕ) → is_empty (pick KitNfkd (decomposition c)) ≡ false → row_passes by_rows c ≡ true
unfolding tables points_ok values_ok expand canonical_combining_class_stepped decomposition_stepped passes_all
computed c some =
    ap₂ (λ class entry. row_passes (record by_rows { class = class; entry = entry }) c)
    (tree_value-tree_of ccc canonical_combining_class_stepped) (tree_value-tree_of decomposition decomposition_stepped)
    ∙ Stepped-at_points decomposition decomposition_stepped (λ e. is_empty (pick KitNfkd e)) (λ x _. row_passes by_trees x) refl c some

abbrev pub IsMapped : ℕ → Type 0
IsMapped c = (f : Fact) → holds by_rows c (decompose KitNfd c) (decompose KitNfkd c) f ≡ true

pub mapped : (c : ℕ) → is_syllable c ≡ false → is_empty (pick KitNfkd (decomposition c)) ≡ false → IsMapped c
mapped c other some =
    each (holds by_rows c (decompose KitNfd c) (decompose KitNfkd c)) (rw (decompose-other KitNfd c other, decompose-mapped KitNfkd c other some) (computed c some))

-- ---- every character is a Hangul syllable, or decomposes no further, or has a mapping

pub class-syllable : (c : ℕ) → is_syllable c ≡ true → ccc c ≡ 0
class-syllable c syllable = grind (arith, nat_tests, class_of_syllable c)

pub by_kind : (c : ℕ) (Q : Type 0) → (is_syllable c ≡ true → Q) → (((form : Form) → decompose form c ≡ c ∷ []) → Q) → (IsMapped c → Q) → Q
by_kind c Q syllable own with_mapping =
    ⊎_elim syllable
    (λ other. ⊎_elim (λ none. own (λ form. decompose-final form c (grind (arith, nat_tests, pick-none form c none)))) (λ some. with_mapping (mapped c other some))
    (cases_Bool (is_empty (pick KitNfkd (decomposition c))))) (cases_Bool (is_syllable c))

-- its two rows are one, or it has a mapping
pub by_mapping : (c : ℕ) (Q : Type 0) → (decompose KitNfd c ≡ decompose KitNfkd c → Q) → (IsMapped c → Q) → Q
by_mapping c Q same = by_kind c Q (λ syllable. same (rw (decompose-syllable KitNfd c syllable, decompose-syllable KitNfkd c syllable))) (λ own. same (rw (own KitNfd, own KitNfkd)))

-- its row in a form is made of conjoining Hangul letters, or is the character itself, or comes of a mapping
pub by_row : (form : Form) (c : ℕ) (Q : List ℕ → Type 0) → Q [] → ((x : ℕ) (w : List ℕ) → 0x1100 ≤ x → x < 0x1200 → Q w → Q (x ∷ w)) → Q (c ∷ [])
    → (IsMapped c → Q (decompose form c)) → Q (decompose form c)
by_row form c Q none letter itself =
    by_kind c _
    (λ syllable.
    let range = is_syllable-true c syllable in
    rw (decompose-syllable form c syllable)
    (⊎_elim (λ two. rw (decompose_hangul-two c two) (search arith)) (λ three. rw (decompose_hangul-three c three) (search arith)) (cases_eq ((c - 0xAC00) % 28) 0)))
    (λ own. rw (own form) itself)
