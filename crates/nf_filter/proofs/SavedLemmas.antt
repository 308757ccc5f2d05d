-- Each filter that is spent or stands after bytes has a state of which one can be made.
use Rattle.nf_filter.proofs.Common.{◌≡◌, ℕ, ◌≤◌, Bool, true, false, inr, List, [], ◌∷◌, length, map, Option, Some, None, IfSome, refl, sym, ap, ◌∙◌, arith, length-append, eqb-true, nat_tests, length-map, nil_from_length, length-le-encodes, take-length, list_all, is_some, Properties, Form, Nfc, Nfd, row_of, decomposed, composes, is_sound, max_run, stream_safe, back-starter, IsSound, IsSound-from_test, text_of, decoded_text, decoded_of, replaced, replaced_len, bytes_in, State, Policy, StandsAfter, len_under, text_under, saved_of, are_marks, IsCounted, IsRestorable, is_usable, has_starter, trail, trail-marks}
use Rattle.std.specs.Option.{option_to_list}
use Rattle.nf_forms.specs.Order.{by_class}
use Rattle.nf_forms.specs.Ordering.{is_ordered}
use Rattle.nf_forms.specs.Laws.Order.{order-marks, has_starter-by_class}
use Rattle.nf_forms.specs.Laws.Ordering.{ordering}
use Rattle.nf_boundary.specs.Mark.{mark_of}
use Rattle.nf_utf8.specs.Subpart.{IsSubpart}
use Rattle.nf_pending.specs.StandsAfter.{StandsAfter as PendingStandsAfter}
use Rattle.nf_pending.specs.Laws.Standing.{run_len-trail}
use Rattle.nf_pending.proofs.Standing.{starter_held}
use Rattle.nf_utf8.proofs.ReplacedLemmas.{bytes_in-own, bytes_in-append, subpart_end_is, by_subparts, decoded_of-all, decoded_of-ill_formed}
use Rattle.nf_filter.proofs.FedLemmas.{taken-text, taken-len}

-- bytes give no more characters than they are
own_some : (x : List ℕ) → length (decoded_text x) ≤ bytes_in (decoded_text x)
own_some x = grind (arith, length-map, bytes_in-own x, length-le-encodes x)

decoded_some : (bytes : List ℕ) → length (decoded_of bytes) ≤ bytes_in (decoded_of bytes)
decoded_some = by_subparts (λ bytes. length (decoded_of bytes) ≤ bytes_in (decoded_of bytes)) (λ bytes all. rw (decoded_of-all bytes all) (own_some (text_of bytes)))
    (λ bytes at start bad few. rw (decoded_of-ill_formed bytes at start bad) (grind (arith, length-append, bytes_in-append, own_some (text_of bytes), subpart_end_is bytes at start bad)))

chars_few : (replace : Bool) (bytes : List ℕ) → length (text_under replace bytes) ≤ len_under replace bytes (text_under replace bytes)
unfolding replaced replaced_len
chars_few false bytes = length-le-encodes (text_of bytes)
chars_few true bytes = grind (arith, length-map, take-length, decoded_some bytes)

module _ (p : Properties) where
  row_some : (f : Form) (c : ℕ) → IsSound p c → 1 ≤ length (row_of f p c)
  row_some Nfc c sound = sound.canonical_some
  row_some Nfd c sound = sound.canonical_some
  row_some _ c sound = sound.compat_some

  -- nor a decomposition less than the text
  rows_some : (f : Form) (x : List ℕ) → list_all (is_sound p) x ≡ true → length x ≤ length (decomposed f p x)
  rows_some f [] sound = omega arith
  rows_some f (c ∷ x) sound = grind (arith, nat_tests, row_some f c, IsSound-from_test p c, rows_some f x, length-append)

  -- marks in order
  marks_from : (least a : ℕ) (m : List ℕ) → is_ordered p (a ∷ m) ≡ true → has_starter p (a ∷ m) ≡ false → least ≤ p.class a → are_marks p least (map (mark_of p) (a ∷ m)) ≡ true
  marks_from least a [] ordered marks more = grind (arith, nat_tests)
  marks_from least a (b ∷ m) ordered marks more = grind (arith, nat_tests, marks_from (p.class a) b m)

  marks_of_run : (m : List ℕ) → is_ordered p m ≡ true → has_starter p m ≡ false → are_marks p 1 (map (mark_of p) m) ≡ true
  marks_of_run [] ordered marks = refl
  marks_of_run (a ∷ m) ordered marks = marks_from 1 a m ordered marks (grind (arith, nat_tests))

none : (o : Option ℕ) → false ≡ is_some o → o ≡ None
none None e = refl
none (Some c) e = cc

-- one that stands after bytes
module _ {policy : Policy} {f : Form} {p : Properties} {state : State} {bytes : List ℕ} (stands : StandsAfter policy f p state bytes) where
  abbrev text : List ℕ
  text = stands.reading.before

  abbrev decomposition : List ℕ
  decomposition = decomposed f p (stream_safe p text)

  abbrev run : ℕ
  run = length state.counted.normalizer.pending.marks.items

  pending : PendingStandsAfter f p state.counted.normalizer.pending decomposition
  pending = stands.reading.taken.machine.pending

  counted_by : (g : Form) → run ≤ state.counted.normalizer.counter → run ≡ trail p (decomposed g p (stream_safe p text)) → IsCounted g run state.counted.normalizer.counter
  counted_by Nfc few same = few
  counted_by Nfd few same = few
  counted_by _ few same = same ∙ sym stands.reading.taken.machine.count

  starter : (o : Option ℕ) → state.counted.normalizer.pending.starter ≡ o → IfSome o (λ c. p.class c ≡ 0)
  starter None e = tt
  starter (Some c) e = eqb-true (p.class c) 0 (back-starter p (composes f) pending.head pending.ends c (sym pending.starter ∙ ap option_to_list e))

  pub IsRestorable-stands : IsSubpart state.reading.decoder → state.counted.normalizer.counter ≤ max_run → IsRestorable p (saved_of state)
  unfolding is_usable
  IsRestorable-stands part count =
      let taken = stands.reading.taken in
      let ready = (state.ready stands.unspent).end.0 in
      let run_is = run_len-trail f p _ decomposition pending in
      let starts = starter_held f p state.counted.normalizer.pending decomposition pending in
      record {
        held = part;
        count = count;
        base = state.base_within;
        fits = inr (
          record {
            held = omega arith;
            chars = omega (arith, chars_few policy.replace bytes, taken-len stands, ap length (taken-text stands));
            put = ready.put;
            counted = rw taken.machine.form (counted_by f ready.machine.run run_is);
            new = λ e. let new = nil_from_length text (sym taken.chars ∙ e) in (rw new at taken.machine.count, none state.counted.normalizer.pending.starter (rw new at starts));
            unstarted = λ e. omega (arith, trail-marks p decomposition (starts ∙ ap is_some e), rows_some p f (stream_safe p text) taken.machine.usable);
          },
          record {
            starter = starter state.counted.normalizer.pending.starter refl;
            marks = rw pending.held (marks_of_run p (by_class p pending.run) (rw (order-marks p pending.run pending.marks) at (ordering p pending.run).ordered) (has_starter-by_class p pending.run));
          },
        );
      }
