-- The rows of Unicode's data are sound, full and in canonical order, and the canonical row of a character lies within its
-- compatibility row. Hangul letters, what passes the quick check of NFKD, and all but a few non-starters are their own rows.
use Rattle.std.proofs.Common.{◌≡◌, ℕ, ◌≤◌, ◌<◌, Bool, true, false, List, [], ◌∷◌, flat_map, refl, ◌∙◌, arith, IsTrue}
use Rattle.nf_facts.proofs.Common.{KitForm, or_right, nat_tests, list_all, All, KitNfd, KitNfkd, Yes, ccc, quick_check, decompose, is_nonstarter, unicode_normalization, ucd}
use Rattle.std.proofs.lemmas.List.Sums.{AllPass-from_list_all, list_all-from_AllPass}
use Rattle.ucd_table.proofs.GroupsCheck.{same_string-true}
use Rattle.unicode_normalization.proofs.ComposeLemmas.{flat_map-final}
use Rattle.unicode_normalization.proofs.DecomposeLemmas.{decompose-other, decompose-final, is_final-parts, is_final-canonical, IsFull-decompose}
use Rattle.unicode_normalization.proofs.FormsLemmas.{is_final-Nfkd}
use Rattle.unicode_normalization.proofs.TableFacts.{by_rows, class_of_jamo, is_final}
use Rattle.nf_forms.specs.Span.{IsMark}
use Rattle.nf_forms.specs.Forms.{IsOwnRow}
use Rattle.nf_forms.specs.Ordering.{is_ordered}
use Rattle.nf_forms.specs.Sound.{joiner_is_plain, is_sound}
use Rattle.nf_forms.specs.Laws.Ordering.{is_ordered-starter}
use Rattle.nf_facts.specs.Passing.{is_among, mapped_marks}
use Rattle.nf_facts.proofs.Mapped.{Agree, Joined, Fixed, Starts, IsMapped, class-syllable, compat_by, is_fixed_by, by_kind, by_mapping, by_row}

-- ---- each character is sound

joiner-plain : joiner_is_plain ucd ≡ true
unfolding ucd unicode_normalization
joiner-plain = refl

pub is_sound-ucd : (c : ℕ) → is_sound ucd c ≡ true
unfolding ucd
is_sound-ucd c =
    let canonical = IsFull-decompose KitNfd c in
    let compat = IsFull-decompose KitNfkd c in
    by_mapping c _ (λ same. grind (arith, nat_tests, joiner-plain)) (λ mapped. grind (arith, nat_tests, mapped Agree, joiner-plain))

-- ---- each member of a row is its own row

pub full : (form : KitForm) (c : ℕ) → All (λ x. decompose form x ≡ x ∷ []) (decompose form c)
full form c k d within = decompose-final form _ (AllPass-from_list_all (is_final form) _ (IsFull-decompose form c).final k d within)

-- ---- the compatibility rows of the members of the canonical row make up the compatibility row

flat_map-compat : (w : List ℕ) → list_all (is_final KitNfd) w ≡ true → flat_map (decompose KitNfkd) w ≡ flat_map (compat_by by_rows) w
flat_map-compat [] all = refl
flat_map-compat (x ∷ w) all = grind (arith, nat_tests, decompose-other KitNfkd x, flat_map-compat w)

pub compat-joined : (c : ℕ) → flat_map ucd.compat (ucd.canonical c) ≡ ucd.compat c
unfolding ucd
compat-joined c =
    by_mapping c _
    (λ same. rw same (flat_map-final (decompose KitNfkd) (is_final KitNfkd) (decompose-final KitNfkd) _ (IsFull-decompose KitNfkd c).final))
    (λ mapped. flat_map-compat _ (IsFull-decompose KitNfd c).final ∙ same_string-true _ _ (mapped Joined))

-- ---- each non-starter of the canonical row is its own compatibility row

-- a starter, or without a mapping
abbrev pub is_fixed : ℕ → Bool
is_fixed = is_fixed_by by_rows

pub canonical-fixed : (c : ℕ) → list_all is_fixed (decompose KitNfd c) ≡ true
canonical-fixed c =
    by_mapping c _
    (λ same. rw same (list_all-from_AllPass is_fixed _ (λ k d within.
    or_right _ _ (is_final-parts KitNfkd _ (AllPass-from_list_all (is_final KitNfkd) _ (IsFull-decompose KitNfkd c).final k d within)).0)))
    (λ mapped. mapped Fixed)

pub compat-fixed : (x : ℕ) → is_fixed x ≡ true → is_nonstarter ucd x ≡ true → decompose KitNfkd x ≡ x ∷ []
unfolding ucd
compat-fixed x fixed mark = decompose-final KitNfkd x (grind (arith, nat_tests, class-syllable x))

pub canonical-marks : (c : ℕ) → All (λ x. IsTrue (is_nonstarter ucd x) → ucd.compat x ≡ x ∷ []) (ucd.canonical c)
unfolding ucd
canonical-marks c k d within = compat-fixed _ (AllPass-from_list_all is_fixed _ (canonical-fixed c) k d within)

-- ---- what is its own row

pub class-letter : (x : ℕ) → 0x1100 ≤ x → x < 0x1200 → ccc x ≡ 0
class-letter x low high = grind (arith, nat_tests, class_of_jamo x)

pub own_row-final : (c : ℕ) → is_final KitNfkd c ≡ true → IsOwnRow ucd c
unfolding ucd
own_row-final c final = record { canonical = decompose-final KitNfd c (is_final-canonical KitNfkd c final); compat = decompose-final KitNfkd c final }

pub own_row-passing : (c : ℕ) → quick_check KitNfkd c ≡ Yes → IsOwnRow ucd c
own_row-passing c is = own_row-final c (is_final-Nfkd c is)

pub mark-ucd : (c : ℕ) → 0 < ccc c → is_among mapped_marks c ≡ false → IsMark ucd c (ccc c)
unfolding ucd
mark-ucd c above plain =
    by_kind c _
    (λ syllable. absurd (omega (arith, class-syllable c syllable)))
    (λ own. record { class = refl; above = above; canonical = own KitNfd; compat = own KitNfkd })
    (λ mapped. absurd (grind (arith, nat_tests, mapped Starts)))

-- ---- each row is in canonical order

pub ordered : (form : KitForm) (c : ℕ) → (IsMapped c → is_ordered ucd (decompose form c) ≡ true) → is_ordered ucd (decompose form c) ≡ true
unfolding ucd
ordered form c =
    by_row form c (λ w. is_ordered ucd w ≡ true) refl
    (λ x w low high rest. is_ordered-starter ucd [] x w (rw (class-letter x low high)) refl rest) refl
