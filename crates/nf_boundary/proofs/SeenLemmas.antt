-- A character as one look-up sees it: what stands after it, and when a text may be cut before it.
use Rattle.std.proofs.Common.{◌≡◌, ◌<◌, ◌||◌, ℕ, false, List, ◌∷◌, ◌++◌, length, ap, arith, length-append, chars, IsTrue}
use Rattle.nf_boundary.proofs.Common.{ucd, Sees, IsAtBoundary, Form, composes, Yes, Seen, chars_past_char, chars-append, IsUtf8, length-encode, len_utf8_bounds, canonical_combining_class, lead, or_parts, nat_tests, kit_form, quick_check, is_sound, HasBoundaryBefore, IsBoundary, IsOwnBoundary, is_among, halfwidth_marks, vowel_signs, passes_check, resets_count-lead, own_boundary-boundary, boundary-decomposing}
use Rattle.nf_entry.specs.Entry.{IsOfFirst}
use Rattle.nf_entry.specs.declared.entry.Entry.{Entry}
use Rattle.unicode_normalization.proofs.FormsLemmas.{is_yes-true}

-- of what passes the quick check says yes
pub passes_yes : (f : Form) (c : ℕ) → IsTrue (passes_check f c) → quick_check (kit_form f) c ≡ Yes
passes_yes f c passes = is_yes-true _ (grind arith)

module _ (seen : Seen) (here : Sees seen) where
  pub chars-seen : chars seen.text.now ≡ seen.character ∷ chars seen.after.now
  chars-seen = chars_past_char _ _ _ here.text_utf8 here.text

  -- what stands after it is shorter
  pub shorter : (next : Seen) → next.text.now ≡ seen.after.now → length next.text.now < length seen.text.now
  shorter next is =
      omega (arith, ap length is, ap length here.text, length-append {A = ℕ}, length-encode, (len_utf8_bounds seen.character).0)

pub passing : (f : Form) (c : ℕ) → canonical_combining_class c ≡ 0 → quick_check (kit_form f) c ≡ Yes → is_among halfwidth_marks c ≡ false → IsTrue (passes_check f c)
passing f c class is other = grind (arith, nat_tests)

module _ (f : Form) (seen : Seen) (here : Sees seen) where
  module _ (sound : (c : ℕ) → IsTrue (is_sound ucd c)) (class : canonical_combining_class seen.character ≡ 0) (plain : (is_among halfwidth_marks seen.character || is_among vowel_signs seen.character) ≡ false) where
    at : IsBoundary ucd f seen.character → IsAtBoundary f seen
    at boundary = record { sees = here; boundary = boundary; sound = sound seen.character; class = class }

    -- in a form that composes
    pub boundary_composing : ((c : ℕ) → IsTrue (passes_check f c) → IsOwnBoundary ucd f c) → quick_check (kit_form f) seen.character ≡ Yes → IsAtBoundary f seen
    boundary_composing own_boundary is = at (own_boundary-boundary ucd f seen.character (own_boundary seen.character (passing f seen.character class is (or_parts _ _ plain).0)))

    module _ (begins : (c : ℕ) → canonical_combining_class c ≡ 0 → is_among vowel_signs c ≡ false → is_among halfwidth_marks c ≡ false → lead ucd (ucd.compat c) ≡ 0) where
      -- where it is changed, by its decomposition
      pub boundary_row : HasBoundaryBefore ucd f seen.character → IsAtBoundary f seen
      boundary_row boundary_before = grind (arith, sound seen.character, begins seen.character, resets_count-lead ucd f seen.character)

      -- in one that does not
      pub boundary_apart : composes f ≡ false → IsAtBoundary f seen
      boundary_apart apart = at (boundary-decomposing ucd f apart seen.character (sound seen.character) (grind (arith, begins seen.character)))

-- a text begins as its front does
pub first_of_front : (front rest : List ℕ) (entry : Entry) → IsUtf8 front → IsOfFirst front entry → IsOfFirst (front ++ rest) entry
first_of_front front rest entry u here = record { first = here.first; others = here.others ++ chars rest; begins = rw (chars-append front rest u, here.begins); is_entry = here.is_entry }
