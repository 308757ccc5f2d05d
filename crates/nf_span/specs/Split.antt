-- A text in two before its last starter that counts as no mark.
use Rattle.std.specs.Prelude.{◌≡◌, ◌⊎◌, ℕ, Bool, true, false, not, ◌||◌, ◌==◌, List, [], ◌∷◌, ◌++◌, chars, IsUtf8}
use Rattle.std.specs.List.{list_all}
use Rattle.ucd_normal.specs.CanonicalCombiningClass.{canonical_combining_class}
use Rattle.nf_facts.specs.Passing.{is_among, halfwidth_marks, vowel_signs}

-- a non-starter, or a starter of which NFKD has non-starters alone
abbrev pub counts_as_mark : ℕ → Bool
counts_as_mark c = not (canonical_combining_class c == 0) || (is_among halfwidth_marks c || is_among vowel_signs c)

-- a character that is neither, and such after it
pub record StarterAndMarks (x : List ℕ) : Type 0 where
  pub first : ℕ
  pub marks : List ℕ
  pub text : x ≡ first ∷ marks
  pub other : counts_as_mark first ≡ false
  pub are_marks : list_all counts_as_mark marks ≡ true

-- where the text has none, all of it is the second part
pub record SplitsAtStarter (whole front back : List ℕ) : Type 0 where
  pub text : whole ≡ front ++ back
  pub characters : chars whole ≡ chars front ++ chars back
  pub back_utf8 : IsUtf8 back
  pub end : StarterAndMarks (chars back) ⊎ ((front ≡ []) × (list_all counts_as_mark (chars back) ≡ true))

-- after this front of the text there are such characters alone
pub record MarksAfter (whole front : List ℕ) : Type 0 where
  pub marks : List ℕ
  pub split : whole ≡ front ++ marks
  pub front_utf8 : IsUtf8 front
  pub marks_utf8 : IsUtf8 marks
  pub are_marks : list_all counts_as_mark (chars marks) ≡ true
