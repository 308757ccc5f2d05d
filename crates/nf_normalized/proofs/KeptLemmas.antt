-- How many characters can stand after what is settled of a form.
use Rattle.nf_normalized.proofs.Common.{◌≡◌, nat_tests, inl, inr, leb, list_all, ℕ, ◌*◌, ◌<◌, ◌≤◌, Bool, true, false, List, [], ◌∷◌, ◌++◌, length, refl, arith, IsTrue, cases_Bool, or_parts, length-append, unicode_normalization, canonical_combining_class, is_starter, has_starter, back, Form, Nfd, Nfkc, Nfkd, row_of, decomposed, normal_form, stream_safe, safe_form, is_sound, ucd, IsMark, row-mark, by_last, front-append-back, back-at, back-none, last_starter, IsSound-from_test, IsSoundText, stream_safe-push, decomposed-append, is_among, mapped_marks, after, settled, is_usable, LittleIsHeldBack}
use Rattle.nf_forms.specs.Laws.Starters.{length-order}

-- what a test finds of each of some characters it finds of one among them
among : (test : ℕ → Bool) (cs : List ℕ) (c : ℕ) → list_all test cs ≡ true → is_among cs c ≡ true → test c ≡ true
among test [] c all is = cc
among test (d ∷ cs) c all is = grind (arith, nat_tests, among test cs c)

-- ---- rows

module _ (sound : (c : ℕ) → IsTrue (is_sound ucd c)) (f : Form) where
  pub some_of : (c : ℕ) → 1 ≤ length (row_of f ucd c)
  some_of c = grind (arith, IsSound-from_test ucd c (sound c))

  few_of : (c : ℕ) → length (row_of f ucd c) ≤ 18
  few_of c = grind (arith, IsSound-from_test ucd c (sound c))

  pub length-decomposed : (x : List ℕ) → length x ≤ length (decomposed f ucd x)
  length-decomposed [] = omega arith
  length-decomposed (c ∷ x) = grind (arith, some_of c, length-decomposed x, length-append)

  -- the process only adds
  length-stream_safe : (x : List ℕ) → length (decomposed f ucd x) ≤ length (decomposed f ucd (stream_safe ucd x))
  length-stream_safe = by_last (λ x. length (decomposed f ucd x) ≤ length (decomposed f ucd (stream_safe ucd x))) (omega arith)
      (λ x c before. grind (arith, before, stream_safe-push, decomposed-append, length-append))

  -- ---- forms keep the length of what is decomposed

  module _ (twice : (f g : Form) (x : List ℕ) → normal_form g ucd (normal_form f ucd x) ≡ normal_form (after g f) ucd x) where
    pub length-form_of : (y : List ℕ) → length (decomposed f ucd (normal_form f ucd y)) ≡ length (decomposed f ucd y)
    length-form_of y = grind (arith, twice f Nfd y, twice f Nfkd y, length-order)

    -- ---- what is not settled

    module _ (is_mark : (c : ℕ) → 0 < canonical_combining_class c → is_among mapped_marks c ≡ false → IsMark ucd c (canonical_combining_class c)) where
      mapped : (f : Form) → list_all (λ c. leb (length (row_of f ucd c)) 2) mapped_marks ≡ true
      unfolding ucd unicode_normalization
      mapped Nfkc = refl
      mapped _ = refl

      short_of : (c : ℕ) → is_starter ucd c ≡ false → length (row_of f ucd c) ≤ 2
      unfolding ucd
      short_of c mark =
          grind (arith, nat_tests, cases_Bool (is_among mapped_marks c), among (λ c. leb (length (row_of f ucd c)) 2) mapped_marks c (mapped f), row-mark ucd f c (canonical_combining_class c), is_mark c)

      marks_short : (m : List ℕ) → has_starter ucd m ≡ false → length (decomposed f ucd m) ≤ 2 * length m
      marks_short [] none = omega arith
      marks_short (c ∷ m) none = grind (arith, or_parts, short_of c, marks_short m, length-append)

      back_short : (w : List ℕ) → length (back ucd w) ≤ 31 → length (decomposed f ucd (back ucd w)) ≤ 78
      back_short w few = elim (cases_Bool (has_starter ucd w)) [
        | inl some ↦ let r = last_starter ucd w some in grind (arith, r, back-at ucd r.before, few, length-append, few_of r.starter, marks_short r.marks)
        | inr none ↦ grind (arith, few, back-none ucd w none, marks_short w none)
      ]

      module _ (texts : (x : List ℕ) → IsSoundText ucd x) (held_back : LittleIsHeldBack) where
        pub kept_short : (x u : List ℕ) → x ≡ settled f ucd x ++ u → length u ≤ 78
        unfolding settled is_usable safe_form
        kept_short x u split =
            let form = safe_form f ucd x in
            let few : length (back ucd form) ≤ 31 = grind (arith, held_back f ucd x (texts (stream_safe ucd x)), front-append-back ucd form, length-append) in
            grind (arith, back_short form few, length-decomposed u, length-stream_safe x, length-form_of (stream_safe ucd x), split, decomposed-append, length-append, front-append-back ucd form)
