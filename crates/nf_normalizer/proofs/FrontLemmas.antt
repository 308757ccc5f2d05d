-- What is taken of a text at once, and a character at a boundary after any text.
use Rattle.nf_normalizer.proofs.Common.{◌≡◌, ℕ, ◌+◌, ◌<◌, ◌≤◌, true, false, Bool, List, [], ◌∷◌, ◌++◌, length, take, drop, Result, Ok, Err, IfOk, inl, inr, refl, sym, ap, ◌∙◌, arith, append-nil, append_assoc, encode_utf8, encode_utf8_all, IsUtf8, IsAscii, chars, length-append, take-append-drop, chars-nil, chars-append, chars-IsAscii, encodes-append, encodes-chars, IsUtf8-from_ascii, chars_past_char, length-encode, len_utf8_bounds, Properties, Form, Nfc, front, stream_safe, safe_form, IsSoundText, stream_safe-push, Normalizer, settled, is_usable, Start, Holds, HasTaken, TakesChar, settled_text, Stands, one_if, Leaves, Passes, StepsTo, Refuses, Takes}
use Rattle.std.proofs.lemmas.Bool.Decides.{nat_tests}
use Rattle.nf_forms.specs.Order.{by_class}
use Rattle.nf_forms.specs.Segments.{BeginsAtBoundary}
use Rattle.nf_forms.specs.Laws.Segments.{stream_safe-segments, sound-segments, safe_form-segments}
use Rattle.nf_boundary.specs.Front.{IsFirstSegments}
use Rattle.nf_normalizer.specs.declared.front.Unsound.{Unsound}
use Rattle.nf_normalizer.specs.declared.front.Front.{Front}
use Rattle.nf_normalizer.specs.Laws.Boundary.{usable-alone, usable_both, joins-after, safe_form-after, settled_text-after, HasTaken-after}
use Rattle.nf_normalizer.proofs.PushingLemmas.{Holds-more}

-- ---- fronts of a text

-- ASCII bytes spell themselves
pub ascii_front : (text : List ℕ) (n : ℕ) → IsAscii (take n text) → chars text ≡ take n text ++ chars (drop n text)
ascii_front text n ascii = rw (take-append-drop, chars-IsAscii (take n text) ascii) at (chars-append (take n text) (drop n text) (IsUtf8-from_ascii (take n text) ascii))

-- segments are past
pub leaves-segments : {p : Properties} {f : Form} {text same formed rest : List ℕ} → IsFirstSegments p f text same formed rest → Leaves text rest 0
leaves-segments {text = text} {rest = rest} segments = record {
  front = chars segments.front;
  some = omega (arith, ap length segments.form.begins.text);
  few = omega arith;
  is_front = segments.characters;
  shorter = next segments.front (ap length segments.text) segments.form.begins.text;
}
  where
    next : (b : List ℕ) → length text ≡ length (b ++ rest) → chars b ≡ segments.form.begins.first ∷ segments.form.begins.rest → length rest < length text
    next [] is begins = let none = chars-nil in cc
    next (c ∷ b) is begins = omega (arith, is, length-append (c ∷ b) rest)

-- a character more is past, and was taken or refused
module _ {text : List ℕ} (c : ℕ) (rest : List ℕ) (utf8 : IsUtf8 text) (is : text ≡ encode_utf8 c ++ rest) where
  pub leaves-one : (joined : Bool) → Leaves text rest (one_if joined)
  leaves-one joined = record {
    few = grind (arith, nat_tests);
    front = c ∷ [];
    some = omega arith;
    is_front = chars_past_char text rest c utf8 is;
    shorter = omega (arith, ap length is, length-append (encode_utf8 c) rest, length-encode c, (len_utf8_bounds c).0);
  }

  module _ {f : Form} {p : Properties} {start : Start} {room x : List ℕ} where
    pub takes-one : {normalizer : Normalizer} (joined : Bool) → TakesChar f p normalizer start room x c (Ok joined) → StepsTo f p normalizer start (room ++ []) x text rest (one_if joined)
    takes-one joined taken = record {
      front = c ∷ [];
      is_front = chars_past_char text rest c utf8 is;
      stands = inl (record { taken = taken.0; holds = rw append-nil taken.1 });
      joins = grind (arith, nat_tests, taken.2, ap length (stream_safe-push p x c), length-append {A = ℕ});
    }

    pub refuses-one : is_usable p x ≡ true → (is_usable p (x ++ c ∷ []) ≡ false) × Holds start room (settled_text f p x) → Refuses f p start room x text
    refuses-one usable refused = record { first = c; rest = chars rest; is_first = chars_past_char text rest c utf8 is; usable = usable; unusable = refused.0; holds = refused.1 }

-- segments were taken
pub takes-segments : {p : Properties} {f : Form} (x : List ℕ) {text same formed rest : List ℕ} {new : Normalizer} {start : Start} {room : List ℕ} → is_usable p x ≡ true → IsFirstSegments p f text same formed rest → IsUtf8 same
    → HasTaken f p new [] → Holds start room (encode_utf8_all (safe_form f p x)) → StepsTo f p new start (room ++ (same ++ formed)) x text rest 0
unfolding is_usable
takes-segments {p} {f} x {same = same} {formed} usable segments utf8 anew holds =
    let sound : IsSoundText p (stream_safe p x) = usable in
    let formed_is : List ℕ = chars same ++ segments.more in
    record {
      front = chars segments.front;
      is_front = segments.characters;
      stands = inr (record {
        anew = anew;
        usable = sound-segments p f x (chars segments.front) formed_is sound segments.form;
        boundary = segments.next;
        holds = rw (safe_form-segments p f x (chars segments.front) formed_is sound segments.form, encodes-append, encodes-append, encodes-chars same utf8, ← segments.put) (Holds-more (same ++ formed) refl holds);
      });
      joins = omega (arith, simp length-append at (ap length (stream_safe-segments p f x (chars segments.front) formed_is sound segments.form)));
    }

-- ---- at a boundary, where the normalizer is as a new one

-- the form of no text
settled_text-none : (f : Form) (p : Properties) → settled_text f p [] ≡ []
unfolding settled safe_form by_class
settled_text-none Nfc p = refl
settled_text-none _ p = refl

-- the text w was given or stands in the room, and what is told next stands after it
abbrev past : Start → List ℕ → Start
past start w = record start { ahead = start.ahead ++ w }

Holds-past : {start : Start} {room w : List ℕ} (none : List ℕ) → none ≡ [] → Holds start room w → Holds (past start w) room none
Holds-past none is holds = record { text = rw (is, append-nil) holds.text }

Holds-whole : {start : Start} {room a : List ℕ} (w : List ℕ) → Holds (past start w) room a → Holds start room (w ++ a)
Holds-whole w holds = record { text = rw (← append_assoc) holds.text }

-- what was taken begins where the text does
front_is : (front rest : List ℕ) {c : ℕ} {more : List ℕ} → 0 < length front → front ++ rest ≡ c ∷ more → (tail : List ℕ) × (front ≡ c ∷ tail)
front_is [] rest some first = absurd (omega arith)
front_is (d ∷ tail) rest some first = (tail, cc)

module _ (p : Properties) (f : Form) (new : Normalizer) (start : Start) (after x text : List ℕ) where
  module _ (usable : is_usable p x ≡ true) (boundary : BeginsAtBoundary p f (chars text)) where
    abbrev there : Start
    there = past start (encode_utf8_all (safe_form f p x))

    module _ (more next : List ℕ) (is : chars text ≡ (boundary.first ∷ more) ++ next) where
      stands-after : (out : List ℕ) → Stands f p new there out (boundary.first ∷ more) next → Stands f p new start out (x ++ boundary.first ∷ more) next
      stands-after out (inl inside) = inl (record {
        taken = HasTaken-after p f x usable (chars text) more next boundary is new inside.taken;
        holds = rw (settled_text-after p f x usable (chars text) more next boundary is) at (Holds-whole (encode_utf8_all (safe_form f p x)) inside.holds);
      })
      stands-after out (inr between) = inr (record {
        anew = between.anew;
        usable = usable_both p f x usable (chars text) more next boundary is between.usable;
        boundary = between.boundary;
        holds = rw (safe_form-after p f x usable (chars text) more next boundary is) at (Holds-whole (encode_utf8_all (safe_form f p x)) between.holds);
      })

    steps-after : (out rest : List ℕ) (n : ℕ) → Leaves text rest n → StepsTo f p new there out [] text rest n → StepsTo f p new start out x text rest n
    steps-after out rest n leaves steps =
        let some : 0 < length steps.front = omega (arith, leaves.some, simp length-append at (ap length (sym leaves.is_front ∙ steps.is_front))) in
        let begins = front_is steps.front (chars rest) some (sym steps.is_front ∙ boundary.text) in
        let is = rw begins.1 at steps.is_front in
        record {
          front = boundary.first ∷ begins.0;
          is_front = is;
          stands = stands-after begins.0 (chars rest) is out (rw begins.1 at steps.stands);
          joins = joins-after p f x usable (chars text) begins.0 (chars rest) boundary is n (rw begins.1 at steps.joins);
        }

    refused : Refuses f p there after [] text → Refuses f p start after x text
    refused refuses = cc (usable-alone p f boundary.first boundary.boundary boundary.sound)

  -- what is done to a text after all that was taken is done wherever the normalizer stands
  pub steps-on : (formed : List ℕ) {old : Normalizer} {before : List ℕ} (r : Result Front Unsound) → IfOk r (Passes text)
      → ((f : Form) (x : List ℕ) (start : Start) → HasTaken f p old x → Holds start before (settled_text f p x) → Takes f p new start after formed x text r)
      → Stands f p old start before x (chars text) → Takes f p new start after formed x text r
  steps-on formed r passes takes (inl inside) = takes f x start inside.taken inside.holds
  steps-on formed r passes takes (inr between) = next r passes
      (takes f [] (past start (encode_utf8_all (safe_form f p x))) between.anew (Holds-past (settled_text f p []) (settled_text-none f p) between.holds))
    where
      next : (r : Result Front Unsound) → IfOk r (Passes text) → Takes f p new (past start (encode_utf8_all (safe_form f p x))) after formed [] text r → Takes f p new start after formed x text r
      next (Ok front) passes takes = steps-after between.usable between.boundary (after ++ (front.same.now ++ formed)) front.rest.now (one_if front.joined) passes takes
      next (Err stop) passes takes = refused between.usable between.boundary takes

-- ---- one front after another

pub StepsTo-more : {f : Form} {p : Properties} {old new : Normalizer} {start : Start} {room out x text rest after : List ℕ} {m n k : ℕ} → m + n ≡ k → (first : StepsTo f p old start room x text rest m) → StepsTo f p new start out (x ++ first.front) rest after n
    → StepsTo f p new start out x text after k
StepsTo-more {x = x} sum first next = record {
  front = first.front ++ next.front;
  is_front = rw (first.is_front, next.is_front, append_assoc);
  stands = rw (← append_assoc x first.front next.front) next.stands;
  joins = rw (← append_assoc x first.front next.front) (omega (arith, first.joins, next.joins, sum, length-append first.front next.front));
}

pub leaves-all : {text rest : List ℕ} {n : ℕ} (front : List ℕ) → IsUtf8 text → IsUtf8 rest → chars text ≡ front ++ chars rest → n ≤ length front → length rest < length text → Leaves text rest n
leaves-all [] utf8 after is few shorter = absurd (omega (arith, shorter, ap length (rw (is, encodes-chars _ after) at (encodes-chars _ utf8))))
leaves-all (c ∷ front) utf8 after is few shorter = record { front = c ∷ front; some = omega arith; few = few; is_front = is; shorter = shorter }
