-- A span goes on after a piece of the text.
use Rattle.std.proofs.Common.{◌≡◌, ℕ, ◌+◌, ◌-◌, List, [], ◌∷◌, ◌++◌, length, drop, refl, sym, ap, subst, ◌∙◌, arith, append_assoc, append-nil, length-append}
use Rattle.std.proofs.Math.Seq.{drop-append_seam}
use Rattle.std.proofs.str.Classes.{width_is}
use Rattle.std.specs.Prelude.{chars, encode_utf8, IsUtf8}
use Rattle.std.proofs.lemmas.Str.{chars-append, chars_from_encodes, chars_past_char, IsUtf8-append, IsUtf8-encode}
use Rattle.std.specs.Char.{IsScalar}
use Rattle.nf_forms.specs.Properties.{Properties}
use Rattle.nf_forms.specs.declared.form.Form.{Form}
use Rattle.nf_forms.specs.Span.{GoesOn, IsSpanFrom}
use Rattle.nf_forms.specs.Ucd.{ucd}
use Rattle.nf_entry.specs.Entry.{IsEntry, IsOfFirst}
use Rattle.nf_entry.specs.declared.entry.Entry.{Entry}
use Rattle.nf_span.specs.declared.scan.Scan.{Scan}
use Rattle.nf_span.specs.Scan.{Reaches, IsAfterCharacter}
use Rattle.nf_span.specs.Window.{IsWindow}
use Rattle.nf_span.specs.declared.window.Window.{Window}

module _ (p : Properties) (f : Form) where
  pub span_from-append : (k n : ℕ) (xs : List ℕ) (class count : ℕ) → IsSpanFrom p f k n xs class count → (ys : List ℕ) (class' count' : ℕ) → IsSpanFrom p f class count ys class' count'
      → IsSpanFrom p f k n (xs ++ ys) class' count'
  span_from-append k n [] class count span ys class' count' more = rw (span.0, span.1) more
  span_from-append k n (c ∷ cs) class count span ys class' count' more =
      (span.0, span.1, span.2, span_from-append span.0 span.1 cs class count span.3 ys class' count' more)

module _ {f : Form} {text : List ℕ} {scan next : Scan} (here : Reaches f text scan) (rest_utf8 : IsUtf8 next.rest.now) where
  pub reaches_past_piece : (piece : List ℕ) → IsUtf8 piece → scan.rest.now ≡ piece ++ next.rest.now
      → IsSpanFrom ucd f scan.marks.class scan.marks.count (chars piece) next.marks.class next.marks.count → Reaches f text next
  reaches_past_piece piece u e span = record {
    front = here.front ++ piece;
    split = here.split ∙ ap (λ t. here.front ++ t) e ∙ sym (append_assoc here.front piece next.rest.now);
    front_utf8 = IsUtf8-append here.front piece here.front_utf8 u;
    rest_utf8 = rest_utf8;
    span = rw (chars-append here.front piece here.front_utf8) (span_from-append ucd f 0 30 (chars here.front) _ _ here.span (chars piece) _ _ span);
  }

  pub reaches_past_char : (c : ℕ) → IsScalar c → scan.rest.now ≡ encode_utf8 c ++ next.rest.now
      → GoesOn ucd f scan.marks.class scan.marks.count c next.marks.class next.marks.count → Reaches f text next
  reaches_past_char c scalar e goes =
      let u = IsUtf8-encode c scalar in
      let alone : chars (encode_utf8 c) ≡ c ∷ [] = sym (chars_from_encodes (c ∷ []) _ u (append-nil _)) in
      reaches_past_piece (encode_utf8 c) u e (rw alone (next.marks.class, next.marks.count, goes, (refl, refl)))

-- what is known of the character that a text begins with
pub of_first : (text after : List ℕ) (c : ℕ) (entry : Entry) → IsUtf8 text → text ≡ encode_utf8 c ++ after → IsEntry c entry → IsOfFirst text entry
of_first text after c entry u e known = record { first = c; others = chars after; begins = chars_past_char text after c u e; is_entry = known }

-- one character stands before the rest
pub after_character : (text rest : List ℕ) (c : ℕ) → text ≡ encode_utf8 c ++ rest → IsAfterCharacter text rest
after_character text rest c e =
    let width = width_is c in
    let both : length text ≡ length (encode_utf8 c) + length rest = ap length e ∙ length-append (encode_utf8 c) rest in
    let long : length text - length rest ≡ length (encode_utf8 c) = omega (arith, both) in
    record { shorter = omega (arith, both, width); few = omega (arith, both, width); after = rw (long, e) (sym (drop-append_seam (encode_utf8 c) rest)) }

-- what is left of a window then
pub left_after : {f : Form} {text rest : List ℕ} → IsAfterCharacter text rest → (left : Window) → IsWindow f (drop (length text - length rest) text) left → IsWindow f rest left
left_after {f} here left window = subst (λ t. IsWindow f t left) (sym here.after) window
