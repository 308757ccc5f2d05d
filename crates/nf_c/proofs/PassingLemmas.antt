-- Plain ASCII after one such character that is pending alone: where it leaves a filter and its state, and what a call tells.
use Rattle.std.proofs.Common.{◌≡◌, ℕ, ◌+◌, ◌-◌, ◌<◌, ◌≤◌, ◌^◌, Bool, true, false, List, [], ◌∷◌, ◌++◌, length, map, take, get_or, Option, Some, None, if◌then◌else◌, inr}
use Rattle.std.proofs.Common.{refl, sym, ap, ◌∙◌, subst, arith, rules, append_assoc, append-nil, length-append, IsAscii, IfSome, take-take, get_or-take}
use Rattle.std.specs.List.{list_all}
use Rattle.std.proofs.lemmas.Bool.{and_from, ne_eqb, false≢true}
use Rattle.std.proofs.lemmas.Bool.Decides.{nat_tests}
use Rattle.std.proofs.lemmas.List.{nil_from_length, length-take-le}
use Rattle.std.proofs.lemmas.Str.{encode_ascii, chars-IsAscii, IsUtf8-from_ascii, IsAscii-take}
use Rattle.std.proofs.lemmas.Str.Ascii.{All-from_ascii}
use Rattle.nf_c.proofs.Common.{ucd, Form, Fault, TooLong, Write, FilterState, Policy, Saved, base_of, FilterStandsAfter, settled_utf8, Moved, State}
use Rattle.nf_c.proofs.Common.{ends, IsOfFeeding, ended, read_before, mark_at, StandsAfter, allowed, CanPass, Feeds, starter_at, unpacked, IsStarter, HoldsAscii}
use Rattle.nf_forms.specs.Properties.{Properties}
use Rattle.nf_forms.specs.Front.{back}
use Rattle.nf_forms.specs.Forms.{decomposed, finished}
use Rattle.nf_forms.specs.StreamSafe.{stream_safe}
use Rattle.nf_row.specs.Ascii.{IsPlainAscii, AreAscii}
use Rattle.nf_row.specs.Laws.Ascii.{ascii-head, ascii-tail}
use Rattle.nf_utf8.specs.Subpart.{IsSubpart}
use Rattle.nf_utf8.specs.Ending.{moved}
use Rattle.nf_pending.specs.declared.pending.Pending.{Pending}
use Rattle.nf_pending.proofs.Standing.{back_alone, stands_unmarked}
use Rattle.nf_normalizer.specs.Normalizer.{settled_text}
use Rattle.nf_normalizer.proofs.AsciiLemmas.{joins-run, settled_text-run, HasTaken-run}
use Rattle.nf_filter.specs.declared.counted.Counted.{Counted}
use Rattle.nf_filter.specs.declared.reading.Reading.{Reading}
use Rattle.nf_filter.specs.Counted.{HasTaken}
use Rattle.nf_utf8.specs.Left.{IsLeft}
use Rattle.nf_filter.specs.Feeding.{HasReadTo}
use Rattle.nf_filter.specs.Saved.{saved_of}
use Rattle.nf_filter.proofs.FedLemmas.{read-settled, read-no_fault}
use Rattle.nf_utf8.proofs.LeftLemmas.{IsLeft-text, IsLeft-more, IsLeft-join}
use Rattle.nf_filter.proofs.PolicyLemmas.{allowed-append}
use Rattle.nf_filter.specs.Laws.Undecided.{take_while-all}
use Rattle.nf_filter.proofs.SavedLemmas.{IsRestorable-stands}

-- where ASCII is assigned, it is allowed
all_assigned : (p : Properties) → IsPlainAscii p → (cs : List ℕ) → AreAscii cs → list_all p.assigned cs ≡ true
all_assigned p plain [] all = refl
all_assigned p plain (c ∷ cs) all = and_from _ _ (plain.unchanged c (ascii-head c cs all)).assigned (all_assigned p plain cs (ascii-tail c cs all))

allowed-ascii : (p : Properties) → IsPlainAscii p → (a : Bool) (t : List ℕ) → IsAscii t → allowed a p t ≡ t
allowed-ascii p plain false t ascii = refl
allowed-ascii p plain true t ascii = take_while-all p.assigned t (all_assigned p plain t (All-from_ascii t ascii))

starter_low : (a : ℕ) → a < 0x80 → starter_at a ≡ Some a
starter_low a below = ap (λ (b : Bool). if b then None else Some a) (ne_eqb a 0xFFFFFFFF (λ (e : a ≡ 0xFFFFFFFF). omega arith))

module _ (plain : IsPlainAscii ucd) {policy : Policy} {f : Form} {old : State} {bytes : List ℕ} (holds : HoldsAscii old) (stand : StandsAfter policy f old bytes)
    (t : List ℕ) (n : ℕ) (len : length t ≡ n) (some : 0 < n) (ascii : IsAscii t) (fits : old.offset + n < 2 ^ 64) where
  abbrev filter : FilterState
  filter = stand.filter

  abbrev read : HasReadTo policy f ucd filter.counted (base_of filter) filter.reading bytes []
  read = stand.stands.reading

  abbrev x : List ℕ
  x = read.before

  abbrev last : ℕ
  last = get_or t (n - 1) 0

  none : filter.reading.decoder ≡ []
  none = ap (λ (s : Saved). s.held.items) stand.saved ∙ ap (λ k. take k old.held) holds.held

  marks : length filter.counted.normalizer.pending.marks.items ≡ 0
  marks = ap (λ (s : Saved). length s.marks.items) stand.saved ∙ ap (λ k. length (map mark_at (take k old.marks))) holds.marks

  alone : back ucd (finished f ucd (decomposed f ucd (stream_safe ucd x))) ≡ old.starter ∷ []
  alone = subst (λ o. IfSome o (λ a. back ucd (finished f ucd (decomposed f ucd (stream_safe ucd x))) ≡ a ∷ [])) (ap (λ (s : Saved). s.starter) stand.saved ∙ starter_low old.starter holds.starter)
      (back_alone f ucd filter.counted.normalizer.pending _ read.taken.machine.pending marks)

  -- the filter after it
  abbrev pending : Pending
  pending = record filter.counted.normalizer.pending { starter = Some last }

  abbrev counted : Counted
  counted = record filter.counted { normalizer = record filter.counted.normalizer { counter = 0; pending = pending }; chars = filter.counted.chars + n }

  abbrev reading : Reading
  reading = record { decoder = filter.reading.decoder; offset = filter.reading.offset + n; offset_fits = omega (arith, ap (λ (s : Saved). s.offset) stand.saved) }

  abbrev after : FilterState
  after = record filter {
    reading = reading;
    counted = counted;
    base_within = omega (arith, filter.base_within);
    ready = λ unspent.
        let ready = filter.ready unspent in
        record { held = omega (arith, ready.held); end = (record { machine = record { run = omega (arith, marks); bound = omega arith }; put = omega (arith, ready.end.0.put) }, omega (arith, ready.end.1, ready.held)) };
  }

  taken : HasTaken f ucd counted (x ++ t)
  taken = record {
    machine = HasTaken-run ucd plain f x t n len some ascii read.taken.machine.usable old.starter alone holds.starter filter.counted.normalizer 0 pending last read.taken.machine refl refl
        (λ w v s ends leaves. stands_unmarked f ucd pending v leaves s.composes (sym ends) (nil_from_length filter.counted.normalizer.pending.marks.items marks));
    chars = omega (arith, read.taken.chars, length-append x t, len);
    put = omega (arith, read.taken.put, length-append x t, joins-run ucd plain f x t n len some ascii read.taken.machine.usable);
  }

  -- it reads as its characters
  left : IsLeft policy.replace (bytes ++ t) (x ++ t) (read.read.n + length t) []
  left =
      let own = subst (λ cs. IsLeft policy.replace (t ++ []) cs (length t) []) (chars-IsAscii t ascii) (IsLeft-text t (IsUtf8-from_ascii t ascii) policy.replace []) in
      IsLeft-join (IsLeft-more t (subst (λ d. IsLeft policy.replace bytes x read.read.n (d ++ [])) none read.read.left)) (subst (λ l. IsLeft policy.replace l t (length t) []) (append-nil t) own)

  reads : HasReadTo policy f ucd counted (base_of filter) reading (bytes ++ t) []
  reads = record {
    before = x ++ t;
    read = record {
      n = read.read.n + length t;
      left = subst (λ d. IsLeft policy.replace (bytes ++ t) (x ++ t) (read.read.n + length t) (d ++ [])) (sym none) left;
      begun = read.read.begun;
      offset = omega (arith, read.read.offset, len);
    };
    taken = taken;
    allowed = allowed-append ucd policy.assigned x t read.allowed ∙ ap (λ l. x ++ l) (allowed-ascii ucd plain policy.assigned t ascii);
  }

  after-stands : FilterStandsAfter policy f ucd after (bytes ++ t)
  after-stands = record {
    unspent = stand.stands.unspent;
    policy_is = stand.stands.policy_is;
    reading = reads;
    no_fault = read-no_fault reads;
  }

  -- the state after it
  abbrev passed : State
  passed = record old { starter = last; offset = old.offset + n; chars = old.chars + n }

  low : last < 0x80
  low = ascii (n - 1)

  saved : saved_of after ≡ unpacked passed
  saved = ap (λ (s : Saved). record s { offset = s.offset + n; chars = s.chars + n; count = 0; starter = Some last }) stand.saved ∙ cc (holds.count, starter_low last low)

  starter : IsStarter last
  starter = inr (grind (arith, nat_tests, low))

  passed-stands : StandsAfter policy f passed (bytes ++ t)
  passed-stands = record {
    can = (
      search (rules, holds.can.0, starter),
      rw (← saved) (IsRestorable-stands {state = after} after-stands (subst IsSubpart (sym none) tt) (omega arith)),
    );
    filter = after;
    saved = saved;
    stands = after-stands;
  }

  -- for it goes out all but the last
  passed-settles : settled_utf8 policy f ucd (bytes ++ t) ≡ settled_utf8 policy f ucd bytes ++ (old.starter ∷ take (n - 1) t)
  unfolding reads
  passed-settles =
      sym (read-settled reads)
      ∙ sym (settled_text-run ucd plain f x t n len some ascii read.taken.machine.usable old.starter alone holds.starter)
      ∙ ap (λ l. (settled_text f ucd x ++ (l ++ [])) ++ take (n - 1) t) (encode_ascii old.starter holds.starter)
      ∙ append_assoc (settled_text f ucd x) (old.starter ∷ []) (take (n - 1) t)
      ∙ ap (λ l. l ++ (old.starter ∷ take (n - 1) t)) (read-settled read)

module _ (plain : IsPlainAscii ucd) {policy : Policy} {f : Form} {old : State} {bytes input : List ℕ} {space len : ℕ}
    (can : CanPass old input space len) (stand : StandsAfter policy f old bytes) (some : 0 < len) (fits : old.offset + length input ≤ 2 ^ 64 - 1) where
  settles_to : (n : ℕ) → 0 < n → n ≤ length input → IsAscii (take n input) → settled_utf8 policy f ucd (bytes ++ take n input) ≡ settled_utf8 policy f ucd bytes ++ (old.starter ∷ take (n - 1) input)
  settles_to n more within ascii = passed-settles plain can.holds stand (take n input) n (length-take-le n input within) more ascii (omega (arith, fits, within))
      ∙ ap (λ l. settled_utf8 policy f ucd bytes ++ (old.starter ∷ l)) (take-take (n - 1) n input (omega arith))

  -- what a call tells that let a front of its input pass
  pub pass-feeds : {new : State} {output : List ℕ} → new ≡ record old { starter = get_or input (len - 1) 0; offset = old.offset + len; chars = old.chars + len } → take len output ≡ old.starter ∷ take (len - 1) input → length output ≡ space
      → (fault : Option Fault) {moved : Moved} → moved ≡ ended fault (read_before fault old.offset (length input) len) len → ends fault ≡ false → IfSome fault IsOfFeeding → ¬ (fault ≡ Some TooLong)
      → (fault ≡ None → len ≡ length input) → (fault ≡ Some Write → len < length input) → Feeds policy f bytes input old new output moved
  pass-feeds is out room fault moved goes among not_long all less = record {
    fault = fault;
    seen = len;
    written = len;
    is = moved;
    among = among;
    seen_within = can.within;
    written_within = omega (arith, can.room, room);
    settles = settles_to len some can.within can.ascii ∙ ap (λ l. settled_utf8 policy f ucd bytes ++ l) (sym out);
    all = all;
    full = λ e.
        let more = can.more (less e) in
        let longer = settles_to (len + 1) (omega arith) (omega (arith, less e)) more.1 in
        omega (arith, ap length longer, length-append (settled_utf8 policy f ucd bytes) (old.starter ∷ take (len + 1 - 1) input), length-take-le (len + 1 - 1) input (omega (arith, less e)), more.0, room);
    stands = λ _. rw (is, ← get_or-take len input (len - 1) 0 (omega (arith, some))) (passed-stands plain can.holds stand (take len input) len (length-take-le len input can.within) some can.ascii (omega (arith, fits, can.within)));
    told = λ e. absurd (false≢true (sym goes ∙ e));
    spent = λ e. absurd (false≢true (sym goes ∙ e));
    too_long = (λ e. absurd (not_long e), λ long. absurd (omega (arith, fits, long)));
    nothing = λ e. absurd (not_long e);
  }

-- a front of ASCII
pub ascii_front : (xs : List ℕ) (k seen : ℕ) → seen ≤ k → IsAscii (take k (take seen xs)) → (n : ℕ) → n ≤ seen → IsAscii (take n xs)
ascii_front xs k seen all ascii n few = subst IsAscii (take-take n k (take seen xs) (omega arith) ∙ take-take n seen xs few) (IsAscii-take (take k (take seen xs)) n ascii)
