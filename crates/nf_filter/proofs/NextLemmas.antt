-- The next text of a piece, taken or refused.
use Rattle.nf_filter.proofs.Common.{◌≡◌, ℕ, ◌+◌, ◌-◌, Bool, true, false, List, [], ◌∷◌, ◌++◌, length, map, take, drop, take_at, Some, Ok, Err, ⊎_elim, refl, sym, ap, ◌∙◌, arith, append_assoc, append-nil, Result, encode_utf8_all, chars, length-append, length-drop, nil_from_length, Properties, Form, text_of, ending_of, bad_byte, replaced, replaced_len, Fault, Write, Counted, Policy, Reading, Start, BlockState, bad_under, fault_in, TakesAllowed, TakesAfter, IsLeft, IsSubpart, ReadsNext, HasRead, HasReadTo, ReadsTo, RefusesBytes, text_under, len_under, decoded_of, IsPlacedAt}
use Rattle.std.proofs.Math.Nat.{zero-add}
use Rattle.std.proofs.lemmas.List.{take-map}
use Rattle.nf_filter.specs.Kinds.{ill_formed, IsAmong}
use Rattle.nf_utf8.specs.Replaced.{source_in}
use Rattle.nf_utf8.proofs.LeftLemmas.{IsLeft-join}
use Rattle.nf_utf8.proofs.SourceLemmas.{source-none, source-chars}
use Rattle.nf_filter.proofs.WritesLemmas.{WritesTo-written}
use Rattle.nf_filter.proofs.FilterLemmas.{err_is}
use Rattle.nf_filter.proofs.PolicyLemmas.{first_fault-none, taken-all}
use Rattle.nf_filter.proofs.PieceLemmas.{place_in, left-text, left-place, left-bad, text_under-first, len_under-first}
use Rattle.nf_filter.proofs.AllowingLemmas.{TakesAllowed-settled, refused-more}

-- ---- where a character of a text stands in the bytes

-- as many bytes gave what stands before it
abbrev IsSource : Bool → List ℕ → List ℕ → List ℕ → Type 0
IsSource r bytes rest front = len_under r bytes front ≡ source_in (decoded_of rest) (length (encode_utf8_all front))

by_none : (r : Bool) (bytes rest front : List ℕ) → front ≡ [] → IsSource r bytes rest front
unfolding replaced_len
by_none false bytes rest front none = rw none (sym (source-none (decoded_of rest)))
by_none true bytes rest front none = rw none (sym (source-none (decoded_of rest)))

source_of : (rest front z : List ℕ) → replaced rest ≡ front ++ z → IsSource true rest rest front
unfolding replaced replaced_len
source_of rest front z is =
    let own : map (λ decoded. decoded.char) (take (length front) (decoded_of rest)) ≡ front = sym (take-map _ (length front) (decoded_of rest)) ∙ ap (take (length front)) is ∙ take_at front z (length front) refl in
    sym (rw own at (source-chars (decoded_of rest) (length front)))

by_text : (r : Bool) (rest text front more : List ℕ) {n : ℕ} {left : List ℕ} → text ≡ front ++ more → IsLeft r rest text n left → IsSource r rest rest front
by_text true rest text front more is here = source_of rest front _ (rw (is, append_assoc front more _) at (left-text here))
by_text false rest text front more {left = left} is here =
    let text_is : text_of rest ≡ front ++ (more ++ text_of left) = rw (is, append_assoc front more _) at (left-text here) in
    sym (len_under-first true rest front _ text_is) ∙ source_of rest front _ (rw (text_is, append_assoc front _ _) at (text_under-first true rest).text)

-- ---- how many bytes were read

module _ {replace : Bool} {held rest text : List ℕ} {len : ℕ} {after : List ℕ} (next : ReadsNext replace held rest text len after) where
  pub next-size : next.n + length after ≡ length held + len
  next-size = omega (arith, next.left.len, length-append held rest, length-append after (drop len rest), length-drop len rest, next.within)

  -- more was read
  pub next-reads : {base : ℕ} {reading now : Reading} {bytes x : List ℕ} → reading.decoder ≡ held → now.decoder ≡ after → now.offset ≡ reading.offset + len → IsSubpart now.decoder
      → (read : HasRead replace base reading bytes rest x) → HasRead replace base now bytes (drop len rest) (x ++ chars text)
  next-reads is now_is offset begun read = record {
    n = read.n + next.n;
    left = IsLeft-join read.left (rw (is, now_is) next.left);
    begun = begun;
    offset = rw now_is (omega (arith, offset, read.offset, ap length is, next-size));
  }

  -- where a character of the text stands in the bytes
  pub next-place : (front : List ℕ) (first : ℕ) (more : List ℕ) → chars text ≡ front ++ first ∷ more
      → len_under replace (held ++ rest) front ≡ source_in (decoded_of rest) (length (encode_utf8_all front))
  next-place front first more is = ⊎_elim (λ none. rw none (by_text replace rest (chars text) front (first ∷ more) is (rw none at next.left)))
      (λ few. by_none replace (held ++ rest) rest front (nil_from_length front (omega (arith, few, ap length is, length-append front (first ∷ more))))) next.alone

-- ---- a text that was taken, or not

-- a fault of the bytes is none of the sink
pub no_write : (fault : Fault) → IsAmong (ill_formed ∷ []) fault → ¬ (fault ≡ Write)
no_write Write among e = absurd among
no_write fault among e = grind arith

module _ {policy : Policy} {f : Form} {p : Properties} {base : ℕ} {bytes rest : List ℕ} {counted : Counted} {reading : Reading} {start : Start} {old : BlockState}
    (both : ReadsTo policy f p counted start old base reading bytes rest) where
  abbrev to : HasReadTo policy f p counted base reading bytes rest
  to = both.0

  -- a bad byte that is not replaced
  pub bad-refused : {fault : Fault} → policy.replace ≡ false → text_of (reading.decoder ++ rest) ≡ [] → Some fault ≡ bad_byte (reading.offset - length reading.decoder) (ending_of (reading.decoder ++ rest))
      → ¬ (fault ≡ Write) → RefusesBytes policy f p start old base bytes fault
  unfolding fault_in
  bad-refused strict none told not =
      let whole : text_under policy.replace bytes ≡ to.before = left-text to.read.left ∙ rw strict (rw none (append-nil to.before)) in
      let here : reading.offset - length reading.decoder ≡ base + to.read.n = omega (arith, to.read.offset) in
      record {
        writes = WritesTo-written (λ e. not (err_is e)) (rw (whole, taken-all p policy.assigned to.before to.taken.machine.usable to.allowed) both.1);
        is = λ _. rw whole (told ∙ sym (first_fault-none p policy.assigned _ to.before _ to.taken.machine.usable to.allowed ∙ left-bad to.read.left base ∙ rw (strict, here) refl));
      }

  module _ {text : List ℕ} {len : ℕ} {after : List ℕ} (next : ReadsNext policy.replace reading.decoder rest text len after) {begin : ℕ} (begins : begin ≡ reading.offset - length reading.decoder)
      {now : BlockState} {last : Counted} {r : Result (Unit {0}) Fault} (takes : TakesAfter policy.assigned p counted old last now begin rest (chars text) r) where
    -- where its characters stand
    placed : IsPlacedAt (place_in policy.replace base bytes) begin rest 0 to.before (chars text)
    placed front c more is =
        let stands = next-place next front c more is in
        rw (begins, zero-add) (omega (arith, left-place to.read.left front, stands, to.read.offset))

    text-takes : TakesAllowed policy.assigned f p last start now (place_in policy.replace base bytes) (to.before ++ chars text) r
    text-takes = takes f (place_in policy.replace base bytes) to.before start to.taken to.allowed placed both.1

    -- all of it was
    pub next-taken : r ≡ Ok tt → (reached : Reading) → reached.decoder ≡ after → reached.offset ≡ reading.offset + len → IsSubpart reached.decoder → ReadsTo policy f p last start now base reached bytes (drop len rest)
    next-taken ok reached decoder offset begun =
        let all = rw ok at text-takes in
        (record { before = to.before ++ chars text; read = next-reads next refl decoder offset begun to.read; taken = all.taken.0; allowed = all.taken.1 }, TakesAllowed-settled all)

    -- or a character of it was refused, whatever follows
    pub next-refused : {fault : Fault} → r ≡ Err fault → RefusesBytes policy f p start now base bytes fault
    unfolding fault_in
    next-refused refused =
        let whole : text_under policy.replace bytes ≡ (to.before ++ chars text) ++ text_under policy.replace (after ++ drop len rest) = left-text (IsLeft-join to.read.left next.left) in
        let longer = refused-more (text_under policy.replace (after ++ drop len rest)) (bad_under policy.replace base bytes) (rw refused at text-takes) in
        record { writes = rw whole longer.0; is = λ not. rw whole (longer.1 (λ e. not (err_is e))) }
