-- A piece more.
use Rattle.nf_lines.proofs.Common.{◌≡◌, ℕ, ◌+◌, ◌≤◌, ◌==◌, List, [], ◌++◌, length, take, None, Result, Ok, Err, ◌⊎◌, inl, inr, ⊎_elim, refl, sym, ap, ◌∙◌, arith, append_assoc, append-nil, length-append, length-take, or_from, OnOk, result_err, line_feed, Form, Fault, TooLong, Write, State, Policy, Tally, SinkState, settled_utf8-none, settled_utf8, fault_in, base_of, offset_of, StandsAfter, final_utf8, Finishes, StandsAfter-offset, ucd, EndsInLineFeed, HasNoLineFeed, IsCutAt, end_fault, StandAlone, Lines, bytes_of, TakesLines}
use Rattle.std.proofs.lemmas.List.Folds.{list_any-append}
use Rattle.nf_filter.specs.Writes.{Puts, BreaksOff}
use Rattle.nf_filter.specs.Feeds.{Feeds}
use Rattle.nf_filter.proofs.WritesLemmas.{Puts-more, BreaksOff-more}
use Rattle.nf_lines.specs.Alone.{LinesStandAlone}
use Rattle.nf_lines.specs.Drives.{FeedsLines, lines_utf8}
use Rattle.nf_lines.proofs.AloneLemmas.{end_nothing, final-none}

-- where there are whole lines, the last of them ends
pub cut_after : {bytes : List ℕ} {n : ℕ} → ¬ (n ≡ 0) → IsCutAt bytes n → EndsInLineFeed (take n bytes)
cut_after {bytes} {n} some cut = ⊎_elim (λ none. absurd (some (omega (arith, ap length none, length-take n bytes, cut.within)))) (λ is. is) cut.lines

-- a piece more in which no line ends
none_more : (rest piece : List ℕ) → HasNoLineFeed rest → HasNoLineFeed piece → HasNoLineFeed (rest ++ piece)
none_more rest piece none more = rw (list_any-append (λ b. b == line_feed) rest piece) (or_from _ _ none more)

-- a call more, which writes on after a front of which it knows nothing
pub Puts-on : {old mid new : SinkState} {a b : List ℕ} (lines : List ℕ) → Puts old mid [] (lines ++ a) → Puts mid new a b → Puts old new [] (lines ++ b)
Puts-on lines first second = rw (second.after, ← append_assoc) (Puts-more second.out first second.given second.stands second.idle)

pub BreaksOff-on : {old mid new : SinkState} {a b : List ℕ} (lines : List ℕ) → Puts old mid [] (lines ++ a) → BreaksOff mid new a b → BreaksOff old new [] (lines ++ b)
BreaksOff-on lines first second = rw (second.after, ← append_assoc, ← append_assoc) (BreaksOff-more second.out second.rest first second.given second.failed second.more)

pub long_or_not : (r : Result (Unit {0}) Fault) → (r ≡ Err TooLong) ⊎ (¬ (r ≡ Err TooLong))
long_or_not (Err TooLong) = inl refl
long_or_not _ = inr (λ e. cc)

-- the answer without its tally
abbrev pub untold : Result Tally Fault → Result (Unit {0}) Fault
untold (Ok tally) = Ok tt
untold (Err fault) = Err fault

pub untold_err : (r : Result Tally Fault) → result_err (untold r) ≡ result_err r
untold_err (Ok tally) = refl
untold_err (Err fault) = refl

pub told : (r : Result Tally Fault) (fault : Fault) → untold r ≡ Err fault → r ≡ Err fault
told (Ok tally) fault e = cc
told (Err other) fault e = cc

-- what a call that feeds a piece says, wherever the filter stands
abbrev FeedsPiece : State → List ℕ → SinkState → SinkState → Result (Unit {0}) Fault → Type 0
FeedsPiece state piece old new r = (policy : Policy) (f : Form) (bytes : List ℕ) → StandsAfter policy f ucd state bytes → ¬ (r ≡ Err TooLong) → Feeds policy f ucd (base_of state) bytes piece old new r

abbrev GoesOnAfter : State → State → List ℕ → Result (Unit {0}) Fault → Type 0
GoesOnAfter state after piece r = (policy : Policy) (f : Form) (bytes : List ℕ) → StandsAfter policy f ucd state bytes → OnOk r (StandsAfter policy f ucd after (bytes ++ piece))

module _ (alone : LinesStandAlone) {policy : Policy} {f : Form} {state : State} {l : Lines} {first old : SinkState} where
  -- what stands after whole lines, or none
  pub join : {r : Result (Unit {0}) Fault} → TakesLines policy f ucd state l first old r → (rest : List ℕ) → StandAlone policy f ucd 0 l.whole rest
  join takes rest = ⊎_elim
      (λ none. rw none (record { whole = end_nothing policy ucd 0; fault = refl; end = refl; final = λ _. rw final-none; settled = inl (rw final-none) }))
      (λ lines. alone policy f 0 l.whole rest lines takes.no_fault) takes.whole

  module _ (has : TakesLines policy f ucd state l first old (Ok tt)) where
    abbrev lines : List ℕ
    lines = final_utf8 policy f ucd l.whole

    so_far : Puts first old [] (lines_utf8 policy f ucd l)
    so_far = has.written (λ e. cc)

    pub begins_at : base_of state ≡ 0 + length l.whole
    begins_at = omega (arith, (has.stands refl).1)

    -- a piece was fed, and `after` was not
    pub fed_lines : {next : State} {piece : List ℕ} {new : SinkState} {r : Result (Unit {0}) Fault} → FeedsPiece state piece old new r → GoesOnAfter state next piece r → base_of next ≡ base_of state
        → (r ≡ Err TooLong → new ≡ old) → {most : ℕ} {all : List ℕ} (after : List ℕ) → bytes_of l ++ (piece ++ after) ≡ all → length (piece ++ after) ≤ most → (r ≡ Ok tt → (after ≡ []) × HasNoLineFeed piece)
        → FeedsLines policy f ucd next most all first new r
    fed_lines {piece = piece} {r = r} feeds stands base kept after is few none = elim (long_or_not r) [
      | inl over ↦ (
        l,
        piece ++ after,
        is,
        few,
        λ e. cc,
        record {
          whole = has.whole;
          no_fault = has.no_fault;
          broken_off = λ e. cc;
          written = λ _. rw (kept over) so_far;
          answer = λ _ short. absurd (short over);
          too_long = λ _. ((has.stands refl).0, sym (has.answer (λ e. cc) (λ e. cc)));
          stands = λ e. cc;
        },
      )
      | inr short ↦ let fed = rw begins_at at (feeds policy f l.rest (has.stands refl).2 short) in (
        record { whole = l.whole; rest = l.rest ++ piece },
        after,
        rw (← is) (simp append_assoc),
        omega (arith, few, length-append piece after),
        λ e. (none e).0,
        record {
          whole = has.whole;
          no_fault = has.no_fault;
          broken_off = λ e. BreaksOff-on lines so_far (fed.broken_off e);
          written = λ unbroken. Puts-on lines so_far (fed.written unbroken);
          answer = λ unbroken _. rw (join has (l.rest ++ piece)).fault (fed.answer unbroken);
          too_long = λ over. absurd (short over);
          stands = λ e. (none_more l.rest piece (has.stands refl).0 (none e).1, base ∙ (has.stands refl).1, rw e at (stands policy f l.rest (has.stands refl).2));
        },
      )
    ]

    -- a piece was fed that ends in a line feed: then the filter was finished, and a new one begun
    module _ {mid : State} {piece : List ℕ} {new : SinkState} (line : EndsInLineFeed piece) (feeds : FeedsPiece state piece old new (Ok tt)) (stands : GoesOnAfter state mid piece (Ok tt)) (base : base_of mid ≡ base_of state) where
      fed : Feeds policy f ucd (0 + length l.whole) l.rest piece old new (Ok tt)
      fed = rw begins_at at (feeds policy f l.rest (has.stands refl).2 (λ e. cc))

      abbrev ended : Lines
      ended = record { whole = l.whole ++ (l.rest ++ piece); rest = [] }

      abbrev joined : StandAlone policy f ucd 0 l.whole (l.rest ++ piece)
      joined = join has (l.rest ++ piece)

      good : fault_in policy ucd 0 ended.whole ≡ None
      good = rw joined.fault (sym (fed.answer (λ e. cc)))

      whole : EndsInLineFeed ended.whole
      whole = ((l.whole ++ l.rest) ++ line.0, rw line.1 (simp append_assoc))

      end : end_fault policy ucd (0 + length l.whole) (l.rest ++ piece) ≡ None
      end = rw joined.end at (alone policy f 0 ended.whole [] whole good).whole

      ended_utf8 : lines ++ final_utf8 policy f ucd (l.rest ++ piece) ≡ lines_utf8 policy f ucd ended
      ended_utf8 = rw (settled_utf8-none, append-nil, joined.final end)

      put : Puts first new [] (lines ++ settled_utf8 policy f ucd (l.rest ++ piece))
      put = Puts-on lines so_far (fed.written (λ e. cc))

      pub ended_lines : {fresh : State} {last : SinkState} (r : Result Tally Fault) → ((policy : Policy) (f : Form) (bytes : List ℕ) → StandsAfter policy f ucd mid bytes → Finishes policy f ucd (base_of mid) bytes new last r)
          → (untold r ≡ Ok tt → (base_of fresh ≡ offset_of state + length piece) × StandsAfter policy f ucd fresh [])
          → (next : Lines) × ((more all : List ℕ) → piece ++ more ≡ all → bytes_of next ++ more ≡ bytes_of l ++ all) × TakesLines policy f ucd fresh next first last (untold r)
      ended_lines {fresh} r finish begun = let finishes = rw (base ∙ begins_at) at (finish policy f (l.rest ++ piece) (stands policy f l.rest (has.stands refl).2)) in (
        ended,
        λ more all is. rw (← is) (simp (append_assoc, append-nil)),
        record {
          whole = inr whole;
          no_fault = good;
          broken_off = λ e. rw (← ended_utf8) (BreaksOff-on lines put (finishes.broken_off (told r Write e)));
          written = λ kept. rw (← ended_utf8) (Puts-on lines put (finishes.written (λ e. kept (ap untold e))));
          answer = λ kept _. rw (untold_err, finishes.answer (λ e. kept (ap untold e)), append-nil, good) end;
          too_long = λ _. (refl, rw append-nil good);
          stands = λ e. (refl, omega (arith, (begun e).0, StandsAfter-offset (has.stands refl).2, (has.stands refl).1, length-append l.whole (l.rest ++ piece), length-append l.rest piece), (begun e).1);
        },
      )
