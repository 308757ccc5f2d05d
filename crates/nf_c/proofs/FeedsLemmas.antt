-- Fronts of a piece that are fed in turn.
use Rattle.std.proofs.Common.{take-take, ◌≡◌, ℕ, ◌+◌, ◌-◌, ◌≤◌, ◌<◌, true, false, List, [], ◌++◌, length, take, drop, Option, Some, None, refl, sym, ap, ◌∙◌, arith, append_assoc, append-nil, slice_range, Result, Err, IfSome}
use Rattle.nf_c.proofs.Common.{result_err, ucd, Form, Fault, Spent, TooLong, Write, Row, FilterState, Policy, SinkState, settled_utf8, base_of, FilterStandsAfter}
use Rattle.nf_c.proofs.Common.{State, StandsAfter, Fed, Room, room_state, ends, IsOfFeeding, FeedsFront, is_spent, StandAfter}
use Rattle.std.proofs.lemmas.List.{length-append, length-take, length-drop, length-take-le, take-append-le}
use borrow.Rule.Slice.PartMut.{put_mid, post_of}
use Rattle.std.proofs.Math.Seq.{take-add, take-length, take-append-add}
use Rattle.nf_filter.specs.Writes.{Puts, BreaksOff}
use Rattle.nf_filter.specs.Feeds.{Feeds}
use Rattle.nf_filter.specs.Faults.{IsOfFeeding as IsOfFilter}

-- a front of a slice after what stands before it
slice_seam : (xs : List ℕ) (a b k : ℕ) → k ≤ length (slice_range xs a b) → take a xs ++ take k (slice_range xs a b) ≡ take (a + k) xs
slice_seam xs a b k within = ap (λ l. take a xs ++ l) (take-take k (b - a) (drop a xs) (omega (arith, within, length-take (b - a) (drop a xs)))) ∙ sym (take-add a k xs)

-- what stands at the front of a list of which the rest, from w on, was overwritten
module _ (xs ys : List ℕ) (w : ℕ) (within : w ≤ length xs) (whole : length ys ≡ length xs - w) where
  pub take_put : (v : ℕ) → v ≤ length ys → take (w + v) (put_mid w (length xs - w) xs ys) ≡ take w xs ++ take v ys
  take_put v fits = ap (λ n. take (n + v) (put_mid w (length xs - w) xs ys)) (sym (length-take-le w xs within))
      ∙ take-append-add (take w xs) (ys ++ post_of w (length xs - w) xs) v ∙ ap (λ l. take w xs ++ l) (take-append-le v ys (post_of w (length xs - w) xs) fits)

  pub length_put : length (put_mid w (length xs - w) xs ys) ≡ length xs
  length_put = simp (length-append, length-take, length-drop) (omega (arith, whole))

-- what does not end the text is a full output, or too long an input
pub of_staying : (fault : Fault) → ends (Some fault) ≡ false → IsOfFeeding fault
of_staying TooLong e = tt
of_staying Write e = tt
of_staying fault e = cc

-- a fault that ends the text is none that does not
pub not_other : {fault other : Fault} → ends (Some fault) ≡ true → ends (Some other) ≡ false → ¬ (◌≡◌ {A = Result (Unit {0}) Fault} (Err fault) (Err other))
not_other over goes e = cc

-- a filter that is not spent refuses for these reasons, where no character is unsound
pub of_feeding : (fault : Fault) → IsOfFilter fault → ¬ (fault ≡ Spent) → ((at : ℕ) → ¬ (fault ≡ Row at)) → IsOfFeeding fault
of_feeding Spent among unspent sound = absurd (unspent refl)
of_feeding (Row at) among unspent sound = absurd (sound at refl)
of_feeding fault among unspent sound = among

-- what was put into a room that had nothing
pub puts_is : {old new : SinkState} {before after l : List ℕ} {lender : ℕ} → old ≡ record { taken = Some []; is_failed = false; lender = lender } → new.taken ≡ Some l → Puts old new before after → after ≡ before ++ l
puts_is {before = before} was is puts = puts.after ∙ ap (λ l. before ++ l) (sym (rw (was, is) at puts.given))

-- it failed because it is full
pub too_little : (room : Room) {old : SinkState} {output before after : List ℕ} {lender : ℕ} → old ≡ record { taken = Some []; is_failed = false; lender = lender } → output ≡ room.bytes.now → BreaksOff old (room_state room) before after
    → length before + length output < length after
too_little room {before = before} was is breaks =
    let out : take room.written room.bytes.now ≡ breaks.out = rw was at breaks.given in
    omega (arith, breaks.more, ap length breaks.after, length-append (before ++ breaks.out) breaks.rest, length-append before breaks.out, ap length out, length-take room.written room.bytes.now, room.full breaks.failed, ap length is)

-- the state alone
pub StandsAfter-of : {policy : Policy} {f : Form} {state : State} {filter : FilterState} {bytes : List ℕ} → StandAfter policy f state filter bytes → StandsAfter policy f state bytes
StandsAfter-of {filter = filter} stand = record { can = stand.can; filter = filter; saved = stand.saved; stands = stand.stands }

module _ {policy : Policy} {f : Form} {bytes piece output : List ℕ} {was now : FilterState} where
  -- nothing was fed
  pub FeedsFront-none : {fault : Option Fault} → ends fault ≡ false → IfSome fault IsOfFeeding → base_of now ≡ base_of was → FilterStandsAfter policy f ucd now bytes
      → FeedsFront policy f bytes piece output was now (record { read = 0; written = 0; fault = fault })
  FeedsFront-none goes among base stands = record {
    read = omega arith;
    written = omega arith;
    settles = simp append-nil;
    base = base;
    stands = λ _. rw (append-nil bytes) stands;
    fault = λ e. cc;
    spent = λ e. cc;
    among = among;
  }

  -- all of it was, through a room over the output, and there may be a fault in it
  pub FeedsFront-all : {old new : SinkState} {space : List ℕ} {n lender : ℕ} {result : Result (Unit {0}) Fault} → old ≡ record { taken = Some []; is_failed = false; lender = lender } → output ≡ space → new.taken ≡ Some (take n space) → n ≤ length space
      → Feeds policy f ucd (base_of was) bytes piece old new result → ¬ (result ≡ Err Write) → base_of now ≡ base_of was → (ends (result_err result) ≡ false → FilterStandsAfter policy f ucd now (bytes ++ piece))
      → (ends (result_err result) ≡ true → is_spent now ≡ true) → IfSome (result_err result) IsOfFeeding → FeedsFront policy f bytes piece output was now (record { read = length piece; written = n; fault = result_err result })
  FeedsFront-all empty is taken within feeds not base stands spent among = record {
    read = omega arith;
    written = rw is within;
    settles = rw (take-length piece, is) (puts_is empty taken (feeds.written not));
    base = base;
    stands = rw (take-length piece) stands;
    fault = λ _. rw (take-length piece) (feeds.answer not);
    spent = spent;
    among = among;
  }

  -- where the text goes on, it was fed as with no fault
  pub FeedsFront-goes : {fed : Fed} {read written : ℕ} → ends fed.fault ≡ false → fed.read ≡ read → fed.written ≡ written
      → FeedsFront policy f bytes piece output was now fed → FeedsFront policy f bytes piece output was now (record { read = read; written = written; fault = None })
  FeedsFront-goes goes same_read same_written front = rw (← same_read, ← same_written) (record {
    read = front.read;
    written = front.written;
    settles = front.settles;
    base = front.base;
    stands = λ _. front.stands goes;
    fault = λ e. cc;
    spent = λ e. cc;
    among = tt;
  })

-- one front, and then one of the next slice of the input, into the rest of the output
module _ {policy : Policy} {f : Form} {bytes input before part : List ℕ} {was between now : FilterState} {read written : ℕ} {fed : Fed} (n : ℕ)
    (first : FeedsFront policy f bytes input before was between (record { read = read; written = written; fault = None })) (fits : read + n ≤ length input) (rest : length part ≡ length before - written)
    (second : FeedsFront policy f (bytes ++ take read input) (slice_range input read (read + n)) part between now fed) where
  abbrev after : List ℕ
  after = put_mid written (length before - written) before part

  kept : length after ≡ length before
  kept = length_put before part written first.written rest

  same : (bytes ++ take read input) ++ take fed.read (slice_range input read (read + n)) ≡ bytes ++ take (read + fed.read) input
  same = append_assoc bytes (take read input) (take fed.read (slice_range input read (read + n))) ∙ ap (λ l. bytes ++ l) (slice_seam input read (read + n) fed.read second.read)

  pub FeedsFront-next : FeedsFront policy f bytes input after was now (record { read = read + fed.read; written = written + fed.written; fault = fed.fault })
  FeedsFront-next = record {
    read = omega (arith, second.read, length-take (read + n - read) (drop read input), fits);
    written = omega (arith, first.written, second.written, kept, rest);
    settles = rw (← same, second.settles, first.settles, append_assoc, take_put before part written first.written rest fed.written second.written);
    base = second.base ∙ first.base;
    stands = rw (← same) second.stands;
    fault = rw (← same, ← first.base) second.fault;
    spent = second.spent;
    among = second.among;
  }

  -- of a slice of one byte, that finds no room
  pub full_next : length (settled_utf8 policy f ucd (bytes ++ take read input)) + length part < length (settled_utf8 policy f ucd ((bytes ++ take read input) ++ slice_range input read (read + n)))
      → n ≡ 1 → fed.read ≡ 0 → length (settled_utf8 policy f ucd bytes) + length after < length (settled_utf8 policy f ucd (bytes ++ take (read + fed.read + 1) input))
  full_next full one none = omega (arith, kept, full, ap length first.settles, length-append (settled_utf8 policy f ucd bytes) (take written before), length-take written before, first.written, rest, ap (λ l. length (settled_utf8 policy f ucd l)) all)
    where
      all : (bytes ++ take read input) ++ slice_range input read (read + n) ≡ bytes ++ take (read + fed.read + 1) input
      all = append_assoc bytes (take read input) (slice_range input read (read + n)) ∙ ap (λ l. bytes ++ l) (sym (take-add read (read + n - read) input) ∙ ap (λ k. take k input) (omega (arith, one, none)))
