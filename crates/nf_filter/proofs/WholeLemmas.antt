-- What feeding all bytes at once, and finishing, come to.
use Rattle.nf_filter.proofs.Common.{◌≡◌, ℕ, Bool, true, false, List, [], Option, Some, None, Result, Ok, Err, refl, sym, ap, ◌∙◌, IfErr, if◌then◌else◌, encode_utf8_all, Properties, Form, back, safe_form, front-append-back, Ending, Whole, CutEnd, text_of, ending_of, Fault, Write, Row, Tally, SinkState, Puts, BreaksOff, as_is, settled, is_usable, usable, settled_utf8, answer_at_end, bad_byte, fault_in, tally_of, end_of, whole_or, final_utf8, Finishes, Feeds, IsFormOf, IsOfWhole, fault_or, whole_answer, whole_utf8, Converts, settled_utf8-none, AreSound, RefusesNone, Extends, Extends-none, Extends-encodes, usable-all, is_some, ◌+◌, len_under, arith, nat_tests}
use Rattle.nf_utf8.specs.Reads.{Reads}
use Rattle.nf_filter.proofs.WritesLemmas.{Puts-join, BreaksOff-join, BreaksOff-extends}
use Rattle.nf_filter.proofs.FilterLemmas.{err_is, failed_if}
use Rattle.nf_filter.proofs.SoundnessLemmas.{not_in_end, not_a_fault}
use Rattle.nf_filter.proofs.PolicyLemmas.{taken, taken_whole}

pub settled-whole : (f : Form) (p : Properties) (x : List ℕ) → Extends (settled f p x) (safe_form f p x)
unfolding settled
settled-whole f p x = record { more = back p (safe_form f p x); text = sym (front-append-back p (safe_form f p x)) }

module _ (p : Properties) (bytes : List ℕ) where
  answer-faults : IfErr (whole_answer p bytes) IsOfWhole
  unfolding whole_answer end_of fault_in
  answer-faults = next (is_usable p (text_of bytes)) (ending_of bytes) _ (tally_of false p bytes)
    where
      next : (b : Bool) (e : Ending) (at : ℕ) (tally : Tally) → IfErr (fault_or (if b then bad_byte 0 e else Some (Row at)) (answer_at_end 0 tally e)) IsOfWhole
      next true Whole at tally = tt
      next _ e at tally = tt

  answer-sound : AreSound p → RefusesNone (whole_answer p bytes)
  unfolding whole_answer
  answer-sound sound at = next (fault_in as_is p 0 bytes) refl
    where
      next : (o : Option Fault) → fault_in as_is p 0 bytes ≡ o → ¬ (fault_or o (end_of as_is p 0 bytes) ≡ Err (Row at))
      next None told e = not_in_end p sound 0 at as_is bytes e
      next (Some fault) told e = not_a_fault p sound 0 at as_is bytes (told ∙ ap Some (err_is e))

module _ (p : Properties) where
  pub ending_whole : (bytes : List ℕ) (tally : Tally) → Ok tally ≡ end_of as_is p 0 bytes → fault_in as_is p 0 bytes ≡ None → ending_of bytes ≡ Whole
  unfolding end_of fault_in
  ending_whole bytes tally answer none = next (ending_of bytes) (is_usable p (text_of bytes)) _ (sym answer) none
    where
      next : (e : Ending) (usable : Bool) (at : ℕ) → answer_at_end 0 (tally_of false p bytes) e ≡ Ok tally → (if usable then bad_byte 0 e else Some (Row at)) ≡ None → e ≡ Whole
      next Whole usable at answer none = refl
      next _ usable at answer none = grind (arith, nat_tests)

module _ (f : Form) (p : Properties) (bytes : List ℕ) where
  whole_is : (o : Option Fault) → o ≡ fault_in as_is p 0 bytes → ((if is_some o then settled_utf8 as_is f p bytes else final_utf8 as_is f p bytes) ≡ whole_utf8 f p bytes) × (fault_or o (end_of as_is p 0 bytes) ≡ whole_answer p bytes)
  unfolding whole_utf8 whole_answer
  whole_is o told = (rw (← told) refl, rw (← told) refl)

  pub final_is : ending_of bytes ≡ Whole → final_utf8 as_is f p bytes ≡ encode_utf8_all (safe_form f p (text_of bytes))
  unfolding final_utf8
  final_is end = rw end

  pub without : None ≡ fault_in as_is p 0 bytes → final_utf8 as_is f p bytes ≡ whole_utf8 f p bytes
  without told = (whole_is None told).0

  abbrev now : List ℕ
  now = encode_utf8_all (settled f p (usable p (text_of bytes)))

  abbrev all : List ℕ
  all = encode_utf8_all (safe_form f p (text_of bytes))

  whole-extends : Extends (settled_utf8 as_is f p bytes) (whole_utf8 f p bytes)
  unfolding whole_utf8 final_utf8 settled_utf8 fault_in
  whole-extends = next (fault_in as_is p 0 bytes) refl (ending_of bytes)
    where
      next : (o : Option Fault) → fault_in as_is p 0 bytes ≡ o → (e : Ending) → Extends now (if is_some o then now else whole_or e now all)
      next (Some fault) told e = Extends-none now
      next None told (CutEnd at start) = Extends-none now
      next None told _ = Extends-encodes (rw (usable-all p (text_of bytes) (taken_whole p false (text_of bytes) (taken p false (λ front. 0 + len_under false bytes front) (text_of bytes) _ told)).0) (settled-whole f p (text_of bytes)))

module _ {f : Form} {p : Properties} {bytes : List ℕ} {old new : SinkState} where
  Converts-of : {r : Result Tally Fault} → (r ≡ Err Write → BreaksOff old new [] (whole_utf8 f p bytes)) → (¬ (r ≡ Err Write) → Puts old new [] (whole_utf8 f p bytes) × (r ≡ whole_answer p bytes)) → Converts f p bytes old new r
  Converts-of {r} breaks puts = record { write = failed_if r breaks (λ not. (puts not).0); broken_off = breaks; written = λ not. (puts not).0; answer = λ not. (puts not).1 }

  -- feeding was refused
  pub Converts-refused : {fault : Fault} → Feeds as_is f p 0 [] bytes old new (Err fault) → Converts f p bytes old new (Err fault)
  Converts-refused {fault} feeds = Converts-of
      (λ e. BreaksOff-extends (whole-extends f p bytes) (rw (settled_utf8-none as_is f p) at (feeds.broken_off (ap Err (err_is e)))))
      (λ not.
      let is = whole_is f p bytes (Some fault) (feeds.answer (λ e. not (ap Err (err_is e)))) in
      (rw (settled_utf8-none as_is f p, is.0) at (feeds.written (λ e. not (ap Err (err_is e)))), is.1))

  -- or was not
  pub Converts-finished : {mid : SinkState} {r : Result Tally Fault} → Feeds as_is f p 0 [] bytes old mid (Ok tt) → Finishes as_is f p 0 bytes mid new r → Converts f p bytes old new r
  Converts-finished feeds finishes =
      let is = whole_is f p bytes None (feeds.answer (λ w. cc)) in
      let fed = rw (settled_utf8-none as_is f p) at (feeds.written (λ w. cc)) in
      Converts-of (λ e. rw is.0 at (BreaksOff-join fed (finishes.broken_off e))) (λ not. (rw is.0 at (Puts-join fed (finishes.written not)), finishes.answer not ∙ is.1))

  -- the faults that may be answered
  pub Converts-faults : (r : Result Tally Fault) → Converts f p bytes old new r → IfErr r IsOfWhole
  Converts-faults (Err Write) converts = tt
  Converts-faults _ converts = rw (← converts.answer (λ e. cc)) at (answer-faults p bytes)

  pub Converts-sound : {r : Result Tally Fault} → AreSound p → Converts f p bytes old new r → RefusesNone r
  Converts-sound sound converts at is = answer-sound p bytes sound at (sym (converts.answer (λ w. cc (sym w ∙ is))) ∙ is)

  -- where all was taken
  pub Converts-all : {tally : Tally} → Converts f p bytes old new (Ok tally) → Puts old new [] (final_utf8 as_is f p bytes) × (Ok tally ≡ end_of as_is p 0 bytes) × (fault_in as_is p 0 bytes ≡ None)
  unfolding whole_utf8 whole_answer
  Converts-all {tally} converts = next (fault_in as_is p 0 bytes) (converts.written (λ e. cc)) (converts.answer (λ e. cc))
    where
      next : (o : Option Fault) → Puts old new [] (if is_some o then settled_utf8 as_is f p bytes else final_utf8 as_is f p bytes) → Ok tally ≡ fault_or o (end_of as_is p 0 bytes)
          → Puts old new [] (final_utf8 as_is f p bytes) × (Ok tally ≡ end_of as_is p 0 bytes) × (o ≡ None)
      next None puts answer = (puts, answer, refl)
      next (Some fault) puts answer = cc

  -- what a sink that was empty has then
  pub IsFormOf-from : {out : List ℕ} {tally : Tally} → old.taken ≡ Some [] → new.taken ≡ Some out → Reads bytes (text_of bytes) (ending_of bytes) → Converts f p bytes old new (Ok tally) → IsFormOf f p bytes out
  IsFormOf-from {out} {tally} is_old is_new reads converts =
      let all = Converts-all converts in
      let end = ending_whole p bytes tally all.1 all.2 in
      (text_of bytes, reads.front.scalars, rw end at reads.end, simp (is_old, is_new) at all.0.given ∙ sym all.0.after ∙ final_is f p bytes end)
