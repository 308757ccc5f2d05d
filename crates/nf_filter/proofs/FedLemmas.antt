-- A piece that was read: what it comes to by the bytes; and where a filter stands that has taken them, or nothing.
use Rattle.nf_filter.proofs.Common.{cases_Bool, ⊎_elim, ◌≡◌, ℕ, suc, ◌+◌, ◌==◌, true, cond, MatchResult, List, [], ◌∷◌, ◌++◌, length, None, Ok, Err, refl, sym, ap, ◌∙◌, arith, append-nil, OnOk, Result, if◌then◌else◌, result_err, Properties, Form, text_of, replacement, replaced_whole, Fault, Write, Counted, Policy, Reading, Start, BlockState, Written, WritesTo, bad_under, fault_in, HasReadTo, ReadsTo, RefusesBytes, settled_text, len_under, text_under, whole_under, settled_utf8, false, State, base_of, offset_of, is_spent, StandsAfter, text_under-none, HasTaken, is_usable-none}
use Rattle.nf_filter.proofs.WritesLemmas.{WritesTo-written}
use Rattle.nf_filter.proofs.PolicyLemmas.{first_fault-none, taken-all, allowed-none}
use Rattle.nf_filter.proofs.PieceLemmas.{place_in, left-place, left-whole, len_under-first, begun-text, begun-all}
use Rattle.nf_filter.proofs.ReadingLemmas.{ending_of-none, new-read, left_is, read-text, read-good, read-more}

module _ {policy : Policy} {f : Form} {p : Properties} {base : ℕ} {counted : Counted} {reading : Reading} {bytes : List ℕ} (read : HasReadTo policy f p counted base reading bytes []) where
  pub read-settled : settled_text f p read.before ≡ settled_utf8 policy f p bytes
  unfolding settled_utf8
  read-settled = rw (read-text read.read, taken-all p policy.assigned read.before read.taken.machine.usable read.allowed)

  pub read-no_fault : fault_in policy p base bytes ≡ None
  unfolding fault_in
  read-no_fault =
      first_fault-none p policy.assigned (place_in policy.replace base bytes) (text_under policy.replace bytes) (bad_under policy.replace base bytes) (rw (read-text read.read) read.taken.machine.usable) (rw (read-text read.read) read.allowed)
      ∙ read-good read.read

  -- a piece more is to be read
  pub reads-more : (piece : List ℕ) {start : Start} {now : BlockState} → Written start now (settled_utf8 policy f p bytes) → ReadsTo policy f p counted start now base reading (bytes ++ piece) piece
  reads-more piece written = (record { before = read.before; read = read-more read.read piece; taken = read.taken; allowed = read.allowed }, rw read-settled written)

  -- where the bytes of a begun character begin
  pub read-place : len_under policy.replace bytes read.before ≡ read.read.n
  read-place =
      let none = len_under-first policy.replace reading.decoder [] (text_of reading.decoder) refl in
      omega (arith, rw append-nil at (left-place (left_is read.read) []), none)

  -- the text where nothing follows
  pub whole_is : policy.replace ≡ true → whole_under policy.replace bytes ≡ read.before ++ (if length reading.decoder == 0 then [] else replacement ∷ [])
  unfolding replaced_whole
  whole_is replaces = rw replaces (rw (replaces, begun-text reading.decoder read.read.begun true, begun-all reading.decoder read.read.begun) at (left-whole (left_is read.read)))

-- how much is left of a piece, with the bytes that the decoder holds: nothing where all was read
abbrev pub left_of : ℕ → ℕ → ℕ
left_of rest held = cond (rest == 0) 0 (suc (rest + held))

-- all of a piece was read, or it was refused
module _ (policy : Policy) (f : Form) (p : Properties) (base : ℕ) (counted : Counted) (now : BlockState) (reading : Reading) where
  pub rest-is : (start : Start) (bytes : List ℕ) (r : Result (Unit {0}) Fault) → MatchResult r (λ _. ReadsTo policy f p counted start now base reading bytes []) (RefusesBytes policy f p start now base bytes)
      → WritesTo start now (settled_utf8 policy f p bytes) r × (¬ (r ≡ Err Write) → result_err r ≡ fault_in policy p base bytes) × OnOk r (HasReadTo policy f p counted base reading bytes [])
  unfolding settled_utf8
  rest-is start bytes (Ok u) reads = (WritesTo-written (λ e. cc) (rw (read-settled reads.0) at reads.1), λ _. sym (read-no_fault reads.0), reads.0)
  rest-is start bytes (Err fault) reads = (reads.writes, λ not. reads.is (λ e. not (ap Err e)), tt)

-- a new filter
pub StandsAfter-none : {policy : Policy} {f : Form} {p : Properties} (state : State) → is_spent state ≡ false → state.policy ≡ policy → offset_of state ≡ base_of state → state.reading.decoder ≡ []
    → HasTaken f p state.counted [] → StandsAfter policy f p state []
unfolding fault_in
StandsAfter-none {policy} {p = p} state unspent is offset none taken = record {
  unspent = unspent;
  policy_is = is;
  reading = record {
    before = [];
    read = new-read policy.replace (base_of state) state.reading offset none;
    taken = taken;
    allowed = allowed-none p policy.assigned;
  };
  no_fault = rw (text_under-none policy.replace) (first_fault-none p policy.assigned _ [] (bad_under policy.replace (base_of state) []) (is_usable-none p) (allowed-none p policy.assigned) ∙ ⊎_elim (λ e. rw e) (λ e. rw e (rw ending_of-none)) (cases_Bool policy.replace));
}

-- what was taken is the text of the bytes, and what the decoder holds gave nothing of it
module _ {policy : Policy} {f : Form} {p : Properties} {state : State} {bytes : List ℕ} (stands : StandsAfter policy f p state bytes) where
  pub taken-text : text_under policy.replace bytes ≡ stands.reading.before
  taken-text = read-text stands.reading.read

  pub taken-len : len_under policy.replace bytes (text_under policy.replace bytes) ≡ stands.reading.read.n
  taken-len = rw taken-text (omega (arith, read-place stands.reading))
