-- A line feed ends every character that was begun: of whole lines nothing is left to be read.
use Rattle.nf_lines.proofs.Common.{◌≡◌, ℕ, ◌+◌, ◌≤◌, Bool, true, false, None, List, [], ◌∷◌, ◌++◌, length, take, drop, encode_utf8_all, refl, sym, ap, arith, append_assoc, append-nil, length-append, encodes-append, Ending, Whole, Bad, Cut, text_of, ending_of, line_feed, bad_under, IsLeft, EndsInLineFeed}
use Rattle.std.proofs.str.Laws.{scalars-append}
use Rattle.std.proofs.lemmas.List.{drop-append-le}
use Rattle.std.proofs.Math.Seq.{get_or-append_seam}
use Rattle.std.proofs.Common.{take_at, take_all, IsUtf8, subst}
use Rattle.std.proofs.Math.Utf8.{encode}
use Rattle.std.proofs.lemmas.Bool.Decides.{nat_tests}
use Rattle.std.proofs.lemmas.Str.{IsCharBoundary-before_ascii, IsUtf8-take, chars-encodes}
use Rattle.nf_utf8.specs.Text.{BeginsText}
use Rattle.nf_utf8.specs.Replaced.{replacement, subpart_end}
use Rattle.nf_utf8.specs.Laws.{ReadsLongestText}
use Rattle.nf_utf8.specs.Reads.{EndsAs}
use Rattle.nf_utf8.specs.Reading.{begun_len}
use Rattle.nf_utf8.proofs.PushesLemmas.{begins_whole, begins_cut}
use Rattle.nf_utf8.proofs.ReadingLemmas.{ill_formed}
use Rattle.nf_utf8.proofs.ReplacedLemmas.{by_subparts}
use Rattle.nf_utf8.proofs.LeftLemmas.{IsLeft-text, IsLeft-join, IsLeft-bad}

pub line_encodes : encode_utf8_all (line_feed ∷ []) ≡ line_feed ∷ []
unfolding encode
line_encodes = refl

-- where bytes with a line feed at their end begin a text, those before it are a text
front_utf8 : (front : List ℕ) → BeginsText (front ++ line_feed ∷ []) → IsUtf8 front
front_utf8 front b =
    let bytes : List ℕ = front ++ line_feed ∷ b.0 in
    rw (take_at front (line_feed ∷ b.0) (length front) refl) at (IsUtf8-take bytes (length front) (rw append_assoc at b.1)
    (IsCharBoundary-before_ascii bytes (length front) (omega (arith, length-append front (line_feed ∷ b.0))) (omega (arith, get_or-append_seam front line_feed b.0 0))))

-- bytes no byte of which is bad begin a text
begins : (bytes : List ℕ) (e : Ending) → ending_of bytes ≡ e → begun_len bytes ≡ length bytes → BeginsText bytes
begins bytes Whole e all = begins_whole bytes e
begins bytes (Cut at start) e all = begins_cut bytes at start e
begins bytes (Bad at start) e all = absurd (omega (arith, (ill_formed bytes at start e).0, all))

-- ---- whole lines

-- they give a text that ends in a line feed, and the rest is read as if it stood alone
pub record ReadsLines (r : Bool) (lines : List ℕ) : Type 0 where
  pub before : List ℕ
  pub left : IsLeft r lines (before ++ line_feed ∷ []) (length lines) []

module _ (longest : ReadsLongestText) where
  lines_begun : (r : Bool) (lines : List ℕ) → EndsInLineFeed lines → BeginsText lines → ReadsLines r lines
  lines_begun r lines is b =
      let text = front_utf8 is.0 (subst BeginsText is.1 b) in
      let whole : encode_utf8_all (text.0 ++ line_feed ∷ []) ≡ lines = rw (encodes-append, text.1.1, line_encodes) (sym is.1) in
      let x : List ℕ = text.0 ++ line_feed ∷ [] in
      let scalars = scalars-append text.0 (line_feed ∷ []) text.1.0 refl in
      let left = rw (append-nil (encode_utf8_all x), chars-encodes x scalars) at (IsLeft-text (encode_utf8_all x) (x, (scalars, refl)) r []) in
      rw (← whole) (record { before = text.0; left = left })

  -- a line feed after a text is no bad byte
  line_good : (lines : List ℕ) (at : ℕ) → EndsInLineFeed lines → ending_of lines ≡ Bad at at → ¬ (at + 1 ≡ length lines)
  line_good lines at is e last =
      let text : List ℕ = text_of lines in
      let reads = longest.reads lines in
      let bad = subst (EndsAs lines text) e reads.end in
      let len : length is.0 ≡ at = omega (arith, last, ap length is.1, length-append is.0 (line_feed ∷ [])) in
      let front : encode_utf8_all text ≡ is.0 = cc (take_at (encode_utf8_all text) reads.front.spelled.0 at (sym bad.1), reads.front.spelled.1, is.1, take_at is.0 (line_feed ∷ []) at len) in
      let whole : encode_utf8_all (text ++ line_feed ∷ []) ≡ take (at + 1) lines ++ [] = rw (encodes-append, front, line_encodes, append-nil, take_all (at + 1) lines (omega arith)) (sym is.1) in
      bad.0.here ([], (text ++ line_feed ∷ [], (scalars-append text (line_feed ∷ []) reads.front.scalars refl, whole)))

  -- what a bad byte leaves of them ends in the line feed
  lines_after : (lines : List ℕ) (at start : ℕ) → EndsInLineFeed lines → ending_of lines ≡ Bad at start → EndsInLineFeed (drop (subpart_end at start) lines)
  lines_after lines at start is e =
      let good : at ≡ start → ¬ (at + 1 ≡ length lines) = λ same. line_good lines at is (rw (← same) at e) in
      let within : subpart_end at start ≤ length is.0 = grind (arith, nat_tests, ill_formed lines at start e, ap length is.1, length-append is.0 (line_feed ∷ [])) in
      (drop (subpart_end at start) is.0, rw is.1 (drop-append-le (subpart_end at start) is.0 (line_feed ∷ []) within))

  module _ (base : ℕ) where
    -- where they have no bad byte, or those are replaced
    abbrev AreRead : Bool → List ℕ → Type 0
    AreRead r lines = EndsInLineFeed lines → bad_under r base lines ≡ None → ReadsLines r lines

    after_bad : (r : Bool) (lines : List ℕ) (at start : ℕ) → ending_of lines ≡ Bad at start → AreRead r (drop (subpart_end at start) lines) → AreRead r lines
    after_bad false lines at start e on is good = let absurd_is = rw e at good in cc
    after_bad true lines at start e on is good =
        let rest = on (lines_after lines at start is e) refl in
        let own : List ℕ = text_of lines ++ replacement ∷ [] in
        let all = IsLeft-join (IsLeft-bad e) rest.left in
        let len : subpart_end at start + length (drop (subpart_end at start) lines) ≡ length lines = omega (arith, all.len) in
        record {
          before = own ++ rest.before;
          left = rw (append_assoc own, ← len) all;
        }

    pub reads_lines : (r : Bool) (lines : List ℕ) → AreRead r lines
    reads_lines r = by_subparts (AreRead r) (λ lines all is good. lines_begun r lines is (begins lines (ending_of lines) refl all)) (after_bad r)
