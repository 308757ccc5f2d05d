-- A text closed piece by piece: its span, a piece more, and the front that comes of it.
use Rattle.std.proofs.Common.{◌≡◌, ◌≢◌, ◌⊎◌, inl, inr, ℕ, ◌<◌, ◌-◌, List, [], ◌∷◌, ◌++◌, length, take, refl, sym, ap, ◌∙◌, arith, append_assoc, append-nil, length-append, take_at, IsCharBoundary}
use Rattle.nf_boundary.proofs.Common.{chars-nil, chars-append, chars_from_encodes, encodes-chars, length-le-encodes, IsUtf8-take, IsCharBoundary-at_seam, Form, IsSpan, HasForm, ucd, IsSoundText, HasForm-span, Seen, IsAtBoundary, Closes, Reaches, chars, encode_utf8_all, IsUtf8}
use Rattle.nf_forms.specs.Laws.Segments.{HasForm-append}
use Rattle.nf_boundary.specs.Front.{IsFirstSegments}
use Rattle.nf_boundary.specs.Stands.{Stands}
use Rattle.nf_boundary.proofs.LetterLemmas.{appended, split_more}
use Rattle.nf_boundary.proofs.SeenLemmas.{chars-seen}

-- ---- a text cut at a seam

module _ (text a b : List ℕ) (n : ℕ) (e : text ≡ a ++ b) (same : length a ≡ n) where
  pub seam : IsUtf8 b → IsCharBoundary text n
  seam u = rw same at (IsCharBoundary-at_seam text a b e u)

  pub take-seam : take n text ≡ a
  take-seam = rw e (take_at a b n same)

module _ (f : Form) where
  -- ---- a span

  own_span : (cs : List ℕ) (class count : ℕ) → IsSpan ucd f cs class count → ((x : List ℕ) → IsSoundText ucd x) → (cs ≡ []) ⊎ HasForm ucd f cs cs
  own_span [] class count span sound = inl refl
  own_span (c ∷ cs) class count span sound = inr (HasForm-span ucd f c cs class count span (sound (c ∷ cs)))

  -- up to where it ends
  pub stands_end : (whole span rest : List ℕ) (class count : ℕ) → whole ≡ span ++ rest → IsSpan ucd f (chars span) class count → IsUtf8 span → ((x : List ℕ) → IsSoundText ucd x)
      → (next : Seen) → next.text.now ≡ rest → IsAtBoundary f next → Stands f whole next
  stands_end whole span rest class count text is_span u sound next is after = grind (arith, encodes-chars span u, own_span (chars span) class count is_span sound)

  module _ (whole : List ℕ) (next : Seen) (here : Stands f whole next) where
    long : length (encode_utf8_all here.front) ≡ length whole - length next.text.now
    long = omega (arith, ap length here.split, length-append {A = ℕ})

    -- where to cut
    pub stands-seam : IsUtf8 next.text.now → IsCharBoundary whole (length whole - length next.text.now)
    stands-seam u = seam _ _ _ _ here.split long u

    before : take (length whole - length next.text.now) whole ≡ encode_utf8_all here.front
    before = take-seam _ _ _ _ here.split long

    -- what stands before it, and nothing more as yet
    pub reaches_own : (same formed : List ℕ) → same ≡ take (length whole - length next.text.now) whole → IsUtf8 same → formed ≡ [] → Reaches f whole same formed next
    reaches_own same formed is u none = grind (arith, before, append-nil, chars_from_encodes here.front same u (sym (is ∙ before)))

    -- what stands before it, put as it is
    pub closes_run : (run : List ℕ) → run ≡ take (length whole - length next.text.now) whole → length run ≢ 0 → (old new : List ℕ) → new ≡ old ++ run → Closes f whole next old new
    closes_run run is some old new grown = grind (arith, before)

  -- ---- a piece more

  pub closes_shorter : (text : List ℕ) (next : Seen) (old new : List ℕ) → Closes f text next old new → length next.text.now < length text
  closes_shorter text next old new here = omega (arith, ap length here.split, length-append {A = ℕ}, length-le-encodes, ap length here.form.begins.text)

  module _ (whole same formed : List ℕ) (next : Seen) (here : Reaches f whole same formed next) where
    pub reaches_more : (next' : Seen) (formed' : List ℕ) → Closes f next.text.now next' formed formed' → Reaches f whole same formed' next'
    reaches_more next' formed' more =
        let split = split_more whole next.text.now next'.text.now here.front more.piece here.split more.split in
        let put = appended [] here.more more.more formed formed' here.put more.formed in
        let form = λ (h : HasForm ucd f here.front (chars same ++ here.more)). HasForm-append ucd f here.front more.piece (chars same ++ here.more) more.more h more.form in
        grind (arith, split, put, form, chars-nil, append_assoc)

    -- where it is not empty, it is segments
    pub first_segments : IsUtf8 whole → length next.text.now ≢ length whole → IsFirstSegments ucd f whole same formed next.text.now
    first_segments whole_utf8 some =
        let before = encode_utf8_all here.front in
        let sees = here.after.sees in
        let u = rw (take-seam whole before _ _ here.split refl) at (IsUtf8-take whole (length before) whole_utf8 (IsCharBoundary-at_seam _ _ _ here.split sees.text_utf8)) in
        grind (arith, chars-append before next.text.now u, chars_from_encodes here.front before u refl, chars-seen next sees)
