-- What a piece gives, from what stands at its front, its text, and what stands after that.
use Rattle.nf_utf8.proofs.Common.{◌≡◌, ℕ, suc, ◌+◌, ◌^◌, ◌<◌, ◌≤◌, inl, List, [], ◌∷◌, ◌++◌, length, take, drop, Option, Some, None, IsUtf8, chars, refl, sym, ap, ◌∙◌, arith, nat_tests, append_assoc, append-nil, length-append, length-take-le, take-append-drop, append_cancel_left, take-append-add, IsUtf8-nil, IsUtf8-append, IsUtf8-encode, chars-nil, chars-append, encodes-chars, End, Begun, BadFront, BeginsText, IsWhole, IsCut, IsBad, text_len, text_of, rest_of, ending_of, StandsAfter, IsSubpart, IsFront, Completes, CanEnd, EndsBy, first_text, first_bytes, IsFirst, EndsPiece, Takes, end_holding, bytes_after_piece, Counts}
use Rattle.nf_utf8.specs.declared.chunk.End.TheVariants.{Whole, Cut, Bad}
use Rattle.nf_utf8.specs.declared.front.Front.{Front}
use Rattle.nf_utf8.specs.declared.front.Front.TheVariants.{Char}
use Rattle.nf_utf8.proofs.Texts.{BeginsText-append}
use Rattle.nf_utf8.proofs.TextLen.{text_len-after, text_len-no_char, no_char-text_len}
use Rattle.nf_utf8.proofs.ReadingLemmas.{text_on, len_on, rest_on, ending_on, begins_on, text_of-after, rest_of-after, ending_of-after}
use Rattle.nf_utf8.proofs.Sequences.{BeginsText-subpart, subpart_no_char}
use Rattle.nf_utf8.proofs.StandingLemmas.{text_of-none, rest_of-none, chars_of_one, stands_new, held_len, ending_of-standing, ill_formed_at}

-- ---- the end of a piece

-- what the end says of all the bytes, where `from` stand before the piece
abbrev pub EndsAll : List ℕ → List ℕ → End → Type 0
EndsAll from all Whole = ending_of all ≡ IsWhole
EndsAll from all Cut = ending_of all ≡ IsCut (length all) (text_len all)
EndsAll from all (Bad at back) = (ending_of all ≡ IsBad (length from + at) (text_len all)) × (text_len all + back ≡ length from + at) × (length from + at < length all)

pub ends_holding : (from bytes held : List ℕ) → StandsAfter held bytes → EndsAll from bytes (end_holding held)
ends_holding from bytes [] s = ending_of-standing s
ends_holding from bytes (a ∷ held) s = grind (arith, nat_tests, ending_of-standing s, held_len s)

pub ends_piece : (bytes piece : List ℕ) (end : End) → EndsAll bytes (bytes ++ piece) end → EndsPiece bytes piece end
ends_piece bytes piece Whole e = e
ends_piece bytes piece Cut e = rw length-append at e
ends_piece bytes piece (Bad at back) e = grind (arith, length-append bytes piece)

-- ---- a piece in three: the first character, the text, and what is after it

-- `part` and `rest` stand after the text, and the part up to `skipped` of the piece
pub record Joined (held piece : List ℕ) (first : Option ℕ) (text subpart rest : List ℕ) (skipped : ℕ) : Type 0 where
  pub leads : IsUtf8 (first_bytes first) × (chars (first_bytes first) ≡ first_text first)
  pub utf8 : IsUtf8 text
  pub begun : IsFirst held first text
  pub joins : held ++ piece ≡ first_bytes first ++ text ++ (subpart ++ rest)
  pub sum : length (first_bytes first) + length text + length subpart ≡ length held + skipped

abbrev pub Taken : List ℕ → List ℕ → Option ℕ → List ℕ → End → List ℕ → Type 0
Taken bytes piece first text end left = Takes bytes piece first text end × StandsAfter left (bytes_after_piece bytes piece end)

after_holding : (bytes piece held : List ℕ) → bytes_after_piece bytes piece (end_holding held) ≡ bytes ++ piece
after_holding bytes piece [] = refl
after_holding bytes piece (a ∷ held) = refl

subpart_size : (subpart : List ℕ) → IsSubpart subpart → length subpart ≤ 3
subpart_size (a ∷ b ∷ c ∷ d ∷ rest) h = absurd h
subpart_size _ h = omega arith

module _ {held piece : List ℕ} {first : Option ℕ} {text subpart rest : List ℕ} {skipped : ℕ} (j : Joined held piece first text subpart rest skipped) where
  abbrev lead : List ℕ
  lead = first_bytes first ++ text

  utf8 : IsUtf8 lead
  utf8 = IsUtf8-append (first_bytes first) text j.leads.0 j.utf8

  abbrev tail : List ℕ
  tail = subpart ++ rest

  module _ {bytes : List ℕ} (s : StandsAfter held bytes) where
    module _ (none : text_len tail ≡ 0) where
      taken_rest : rest_of (bytes ++ piece) ≡ tail
      taken_rest = rw (rest_on bytes piece s.rest, j.joins, rest_of-after lead tail utf8) (rest_of-none tail none)

      taken_len : text_len (bytes ++ piece) ≡ text_len bytes + length (first_bytes first) + length text
      taken_len = rw (len_on bytes piece s.rest, j.joins, text_len-after lead tail utf8) (omega (arith, none, length-append (first_bytes first) text))

      takes : (end : End) → EndsPiece bytes piece end → Takes bytes piece first text end
      takes end e = record {
        spelled = rw (
          text_on bytes piece s.rest,
          j.joins,
          text_of-after lead tail utf8,
          text_of-none tail none,
          append-nil,
          chars-append (first_bytes first) text j.leads.0,
          j.leads.1,
        ) (sym (append_assoc (text_of bytes) (first_text first) (chars text)));
        well_formed = j.utf8;
        begun = rw s.rest j.begun;
        ends = e;
        placed = rw (s.rest, taken_rest) j.joins;
        len = taken_len;
      }

      taken_subpart : IsSubpart tail → Taken bytes piece first text (end_holding tail) tail
      taken_subpart p =
          let all : BeginsText (held ++ piece) = rw j.joins (BeginsText-append lead tail utf8 (BeginsText-subpart tail p)) in
          let stands : StandsAfter tail (bytes ++ piece) = record { rest = taken_rest; begins = begins_on bytes piece s.rest all } in
          (takes _ (ends_piece bytes piece _ (ends_holding bytes (bytes ++ piece) tail stands)), rw (after_holding bytes piece tail) stands)

      taken_bad : (at : ℕ) → at < length rest → ending_of tail ≡ IsBad (length subpart + at) 0 → Taken bytes piece first text (Bad (skipped + at) (length subpart + at)) []
      taken_bad at inside bad =
          let ending = rw (j.joins, ending_of-after lead tail utf8, bad) at (ending_on bytes piece s.rest) in
          let sizes = simp length-append at (ap length j.joins) in
          (takes _ (grind (arith, ending, sizes, taken_len, held_len s, j.sum, length-append (first_bytes first) text)), stands_new)

    pub taken : (front : Front) (end : End) (left : List ℕ) → IsFront subpart rest front → EndsBy front skipped end left → Taken bytes piece first text end left
    taken (Char c len) end left is by = absurd by
    taken (Begun carry) end left is by = rw (by.0, by.1, is.1) (taken_subpart (text_len-no_char tail (subpart_no_char tail is.0)) is.0)
    taken (BadFront at back) end left is by =
        let next : suc (length subpart + at) ≡ length subpart + (at + 1) = omega arith in
        let bad = ill_formed_at tail (length subpart + at) (omega (arith, is.0, length-append subpart rest)) (rw take-append-add is.1) (λ b. is.2 (rw (next, take-append-add) at b)) in
        rw (by.0, by.1, is.3) (taken_bad bad.0 at is.0 bad.1)

  -- ---- how many bytes there are of each

  pub counts : (front : Front) (end : End) (left : List ℕ) → IsFront subpart rest front → EndsBy front skipped end left → Counts held piece first text end left
  counts (Char c len) end left is by = absurd by
  counts (Begun carry) end [] is by = let sizes = simp length-append at (ap length (rw (← is.1, ← by.1) at j.joins)) in rw (by.0, ← by.1) (omega arith, refl)
  counts (Begun carry) end (a ∷ left) is by = let sizes = simp length-append at (ap length (rw (← is.1, ← by.1) at j.joins)) in rw (by.0, ← by.1) (omega arith, omega arith)
  counts (BadFront at back) end left is by =
      let sizes = simp length-append at (ap length j.joins) in
      let front = length-append subpart (take at rest) in
      rw by.0 (grind (arith, sizes, front, j.sum, length-take-le at rest, subpart_size (subpart ++ take at rest) is.1))

-- ---- the piece from `from` on, after the first character

completed : (held piece text : List ℕ) (first : Option ℕ) (from : ℕ) → Completes held piece first from
    → (held ++ take from piece ≡ first_bytes first) × IsFirst held first text × (IsUtf8 (first_bytes first) × (chars (first_bytes first) ≡ first_text first))
completed held piece text None from h = (rw (h.0, h.1), inl h.0, (IsUtf8-nil, chars-nil))
completed held piece text (Some c) from h = (h.1.2, h.0, (IsUtf8-encode c h.1.1, chars_of_one c h.1.1))

pub joined_from : {held piece : List ℕ} {first : Option ℕ} {text after : List ℕ} (from : ℕ) → Completes held piece first from → from ≤ length piece → drop from piece ≡ text ++ after
    → IsUtf8 text → Joined held piece first text [] after (from + length text)
joined_from {held} {piece} {first} {text} from h within split u =
    let done = completed held piece text first from h in
    record {
      leads = done.2;
      utf8 = u;
      begun = done.1;
      joins = rw (← done.0, append_assoc, append_assoc, ← split, take-append-drop);
      sum = omega (arith, length-append held (take from piece), length-take-le from piece within, ap length done.0);
    }

pub can_end : (after : List ℕ) (front : Front) (skipped : ℕ) → IsFront [] after front → text_len after ≡ 0 → skipped + length after < 2 ^ 64 → CanEnd front skipped
can_end after (Char c len) skipped is none few =
    no_char-text_len after none c (drop len after) is.1 (sym (take-append-drop len after) ∙ ap (λ l. l ++ drop len after) is.2)
can_end after (Begun carry) skipped is none few = rw is.1 is.0
can_end after (BadFront at back) skipped is none few = omega (arith, is.0)

-- ---- one answer alone fits

same_text : (x y : List ℕ) → IsUtf8 x → IsUtf8 y → chars x ≡ chars y → x ≡ y
same_text x y u v e = cc (encodes-chars x u, encodes-chars y v)

module _ (bytes piece : List ℕ) where
  same_front : (f g : Option ℕ) (x y : List ℕ) → IsFirst (rest_of bytes) f x → IsFirst (rest_of bytes) g y → IsUtf8 x → IsUtf8 y
      → first_text f ++ chars x ≡ first_text g ++ chars y → (f ≡ g) × (x ≡ y)
  same_front None None x y p q u v e = (refl, same_text x y u v e)
  same_front None (Some d) x y p q u v e = absurd (grind (arith, chars-nil))
  same_front (Some c) None x y p q u v e = absurd (grind (arith, chars-nil))
  same_front (Some c) (Some d) x y p q u v e = (cc, same_text x y u v (cc))

  pub same_end : (a b : End) → EndsPiece bytes piece a → EndsPiece bytes piece b → a ≡ b
  same_end Whole Whole p q = refl
  same_end Cut Cut p q = refl
  same_end _ _ p q = grind arith

pub takes_same : {bytes piece : List ℕ} {f g : Option ℕ} {x y : List ℕ} {a b : End} → Takes bytes piece f x a → Takes bytes piece g y b → (f ≡ g) × (x ≡ y) × (a ≡ b)
takes_same {bytes} {piece} {a = a} {b = b} p q =
    let spelled = append_cancel_left (text_of bytes) _ _ (rw append_assoc at (sym p.spelled) ∙ rw append_assoc at q.spelled) in
    let front = same_front bytes piece _ _ _ _ p.begun q.begun p.well_formed q.well_formed spelled in
    (front.0, front.1, same_end bytes piece a b p.ends q.ends)
