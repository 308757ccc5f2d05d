-- A piece of text from one boundary to the next, character by character.
use Rattle.std.proofs.Common.{add-one, ◌≡◌, ◌≢◌, ℕ, ◌+◌, ◌<◌, false, List, [], ◌∷◌, ◌++◌, length, take, get_or, sym, ap, ◌∙◌, arith, eq-eqb, encode_utf8_all}
use Rattle.nf_boundary.proofs.Common.{nat_tests, ucd, Sees, IsAtBoundary, Closes, Form, row_of, decomposed, finished, No, Seen, take_more, canonical_combining_class, has_starter, IsSoundText, kit_form, Becomes, Leaves, Fills, quick_check, IsMark, IsOwnRow, row-own, Mark, marks_push, stream_safe-short, decomposed-push}
use Rattle.nf_boundary.specs.declared.piece.Piece.{Piece}
use Rattle.nf_boundary.proofs.LetterLemmas.{class_of, begins_more, split_more, split_seen}
use Rattle.nf_boundary.proofs.BecomesLemmas.{becomes_one, leaves_more}

-- a row read member by member
pub take_next : (row : List ℕ) (i c : ℕ) → i < length row → c ≡ get_or row i c → take (i + 1) row ≡ take i row ++ c ∷ []
take_next row i c within is = rw is (take_more row i c within)

-- after its first member
pub take_after : (row : List ℕ) (s : ℕ) (others : List ℕ) → row ≡ s ∷ others → (i c : ℕ) → i < length others → c ≡ get_or others i c → take (i + 1 + 1) row ≡ take (i + 1) row ++ c ∷ []
take_after row s others is i c within read = rw is (take_next (s ∷ others) (i + 1) c (omega arith) (rw add-one read))

module _ (f : Form) (first : Seen) (at : IsAtBoundary f first) where
  -- a first that is its own row
  pub becomes_own : IsOwnRow ucd first.character → (marks : List Mark) → marks ≡ [] → (before : List ℕ) → Becomes f (row_of f ucd first.character) first.character marks before before
  becomes_own own marks alone before = becomes_one f _ marks _ before (row-own ucd f _ own) (eq-eqb _ 0 (class_of first.character ∙ at.class)) alone

  -- the first member of its row
  pub becomes_row : (row : List ℕ) (starter : ℕ) (others : List ℕ) → row ≡ row_of f ucd first.character → row ≡ starter ∷ others → (marks : List Mark) → marks ≡ [] → (before : List ℕ)
      → Becomes f (take 1 (row_of f ucd first.character)) starter marks before before
  becomes_row row starter others is members marks alone before = becomes_one f starter marks _ before (ap (take 1) (sym is ∙ members)) (grind arith) alone

  module _ (seen : Seen) (piece : Piece) (before now : List ℕ) (here : Fills f first seen piece before now) where
    -- one more
    pub fills_more : (piece' : Piece) (now' : List ℕ) → ((w before : List ℕ) → Becomes f w piece.starter piece.run.items before now → Becomes f (w ++ row_of f ucd seen.character) piece'.starter piece'.run.items before now')
        → ((cs : List ℕ) → Leaves cs piece.room → Leaves (cs ++ seen.character ∷ []) piece'.room)
        → (next : Seen) → next.text.now ≡ seen.after.now → Sees next → Fills f first next piece' before now'
    fills_more piece' now' becomes leaves next is sees =
        let split = split_more first.text.now seen.text.now next.text.now here.front (seen.character ∷ []) here.split (split_seen seen here.sees next.text.now is) in
        grind (arith, begins_more f here.front (seen.character ∷ []) here.begins, decomposed-push ucd f here.front seen.character, becomes (decomposed f ucd here.front) before here.becomes, leaves here.front here.leaves)

    -- and then a boundary
    pub fills_segments : ((x : List ℕ) → IsSoundText ucd x) → (after : Seen) → after ≡ seen → IsAtBoundary f after
        → (new : List ℕ) → ((w before : List ℕ) → Becomes f w piece.starter piece.run.items before now → new ≡ before ++ encode_utf8_all (finished f ucd w)) → Closes f first.text.now after before new
    fills_segments sound after same at_after new closed = grind (arith, sound here.front, stream_safe-short ucd here.front here.leaves.longest, closed (decomposed f ucd here.front) before here.becomes)

-- ---- a non-starter more, or a character whose row is of non-starters

pub leaves_mark : (f : Form) (c : ℕ) → ((c : ℕ) → 0 < canonical_combining_class c → quick_check (kit_form f) c ≢ No → IsMark ucd c (canonical_combining_class c)) → canonical_combining_class c ≢ 0
    → quick_check (kit_form f) c ≢ No → (cs : List ℕ) (room room' : ℕ) → room' + 1 ≡ room → Leaves cs room → Leaves (cs ++ c ∷ []) room'
leaves_mark f c marks some may cs room room' less here = grind (arith, nat_tests, marks c, class_of c, leaves_more cs c room room')

-- the members of a row that were held, and one more
pub marks_next : (row : List ℕ) (i c : ℕ) → i < length row → c ≡ get_or row i c → canonical_combining_class c ≢ 0 → has_starter ucd (take i row) ≡ false → has_starter ucd (take (i + 1) row) ≡ false
marks_next row i c within is some none = grind (arith, nat_tests, take_next row i c within is, marks_push ucd (take i row) c none, class_of c)
