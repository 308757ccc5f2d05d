-- A Hangul syllable that is written with letters: what it becomes, and that it is closed.
use Rattle.std.proofs.Common.{append-nil, append_assoc, ◌≡◌, ℕ, ◌≤◌, ◌<◌, true, List, [], ◌∷◌, ◌++◌, Some, refl, ap, ◌∙◌, arith, eq-eqb, encode_utf8, encode_utf8_all}
use Rattle.nf_boundary.proofs.Common.{HasForm, canonical_combining_class, compose_hangul, IsLv, IsLvt, compose_hangul-lv, compose_hangul-lvt, Form, composes, composite, IsOwnRow, ucd, is_starter, row-own, decomposed-push, arranged, finished, stream_safe-short, longest-le-length, Nfkd, IsSoundText, Seen, IsAtBoundary, Closes}
use Rattle.unicode_normalization.specs.Compose.{primary_composite}
use Rattle.nf_forms.specs.Forms.{normal_form}
use Rattle.nf_boundary.specs.Hangul.{Composes, Spells}
use Rattle.nf_forms.specs.Laws.Compose.{composite-starter}
use Rattle.nf_boundary.proofs.StarterLemmas.{arranged-composed, arranged-one}
use Rattle.nf_boundary.proofs.LetterLemmas.{class_of, split_more, split_seen}

pair-hangul : (a b d : ℕ) → compose_hangul a b ≡ Some d → ucd.pair a b ≡ Some d
unfolding ucd primary_composite
pair-hangul a b d both = rw both

-- the letters are starters and their own rows, and a pair of them is a primary composite
module _ (starter : (c : ℕ) → 0x1100 ≤ c → c < 0x1200 → canonical_combining_class c ≡ 0) (own : (c : ℕ) → 0x1100 ≤ c → c < 0x1200 → IsOwnRow ucd c)
    (primary : (a b : ℕ) → composite ucd a b ≡ ucd.pair a b) where
  is_letter : (c : ℕ) → 0x1100 ≤ c → c < 0x1200 → is_starter ucd c ≡ true
  is_letter c low high = eq-eqb _ 0 (class_of c ∙ starter c low high)

  one : (c : ℕ) → 0x1100 ≤ c → c < 0x1200 → Composes (c ∷ []) c
  one c low high = record {
    rows = λ f. rw append-nil (row-own ucd f c (own c low high));
    composed = arranged-one ucd c (is_letter c low high);
  }

  -- a letter more
  more : (cs : List ℕ) (first : ℕ) → Composes cs first → is_starter ucd first ≡ true → (c d : ℕ) → 0x1100 ≤ c → c < 0x1200 → compose_hangul first c ≡ Some d → Composes (cs ++ c ∷ []) d
  more cs first here starts c d low high both =
      let pair = primary first c ∙ pair-hangul first c d both in
      record {
        rows = λ f. rw (here.rows f, row-own ucd f c (own c low high)) at (decomposed-push ucd f cs c);
        composed = arranged-composed ucd cs first here.composed starts c (is_letter c low high) d pair [] ∙ arranged-one ucd d (composite-starter ucd first c d pair);
      }

  module _ (l v lv : ℕ) (two : IsLv l v lv) where
    open_syllable : Composes (l ∷ v ∷ []) lv
    open_syllable = more (l ∷ []) l (one l (omega arith) (omega arith)) (is_letter l (omega arith) (omega arith)) v lv (omega arith) (omega arith) (compose_hangul-lv l v lv two)

    pub spells_two : (text rest : List ℕ) → text ≡ encode_utf8 v ++ rest → Spells l text rest lv
    spells_two text rest e = record { front = v ∷ []; few = omega arith; split = rw append-nil e; made = open_syllable }

    pub spells_three : (t lvt : ℕ) → IsLvt lv t lvt → (text middle rest : List ℕ) → text ≡ encode_utf8 v ++ middle → middle ≡ encode_utf8 t ++ rest → Spells l text rest lvt
    spells_three t lvt three text middle rest e g =
        let starts = composite-starter ucd l v lv (primary l v ∙ pair-hangul l v lv (compose_hangul-lv l v lv two)) in
        record { front = v ∷ t ∷ []; few = omega arith; split = rw (e, g, append-nil, append_assoc); made = more _ _ open_syllable starts t lvt (omega arith) (omega arith) (compose_hangul-lvt lv t lvt three) }

-- where a boundary comes after it, it is closed
pub closes_syllable : (f : Form) (first : Seen) → IsAtBoundary f first → composes f ≡ true → ((x : List ℕ) → IsSoundText ucd x)
    → (rest : List ℕ) (syllable : ℕ) → Spells first.character first.after.now rest syllable → (next : Seen) → next.text.now ≡ rest → IsAtBoundary f next
    → (old new : List ℕ) → new ≡ old ++ encode_utf8_all (syllable ∷ []) → Closes f first.text.now next old new
closes_syllable f first at composing sound rest syllable letters next is after old new formed =
    let split = split_more first.text.now first.after.now rest (first.character ∷ []) letters.front (split_seen first at.sees first.after.now refl) letters.split in
    let cs = first.character ∷ letters.front in
    let made = letters.made in
    let short = stream_safe-short ucd cs (rw (made.rows Nfkd) (omega (arith, letters.few, longest-le-length ucd cs))) in
    let form : normal_form f ucd cs ≡ syllable ∷ [] = ap (λ w. finished f ucd w) (made.rows f) ∙ ap (λ b. arranged b ucd cs) composing ∙ made.composed in
    let closed : HasForm ucd f cs (syllable ∷ []) = record { begins = grind arith; sound = sound cs; safe = short; form = form } in
    grind (arith, closed)
