-- A step of a normalizer, what of it went to the sink, and a text of which only assigned characters may be taken.
use Rattle.nf_filter.proofs.Common.{◌≡◌, ℕ, ◌<◌, Bool, false, List, ◌++◌, length, Some, None, Ok, Err, sym, arith, Result, Properties, Form, Fault, WriteFault, Unassigned, Counted, Start, BlockState, Written, first_fault, taken_utf8, TakesAllowed, TakesAsIs, HasTaken, IsPlacedAt, settled_text, allowed, Standing, Option, WritesTo, nat_tests, ⊎_elim, [], ◌∷◌, inl, inr, refl, ap, ◌∙◌, append_assoc, encode_utf8_all, IsUtf8, chars, encodes-chars, safe_form, Given, Extends, Extends-join, Broken}
use Rattle.nf_filter.proofs.WritesLemmas.{WritesTo-written, Broken-extends}
use Rattle.nf_filter.proofs.PolicyLemmas.{allowed-append, first_fault-none, first_fault-stays, taken-all, taken_utf8-grows, first_fault-is, taken_utf8-extends}
use Rattle.nf_filter.proofs.TakingLemmas.{placed-within}
use Rattle.nf_filter.proofs.FeedingLemmas.{fed_by}
use Rattle.nf_normalizer.specs.declared.normalizer.Normalizer.{Normalizer}
use Rattle.nf_normalizer.specs.Front.{Stands}
use Rattle.nf_normalizer.specs.Laws.Boundary.{usable-alone, usable_both, settled_text-after}

pub first-left : (rest : List ℕ) → IsUtf8 rest → 0 < length rest → (c : ℕ) × (more : List ℕ) × (chars rest ≡ c ∷ more)
first-left rest utf8 some = next (chars rest) (encodes-chars rest utf8)
  where
    next : (cs : List ℕ) → encode_utf8_all cs ≡ rest → (c : ℕ) × (more : List ℕ) × (cs ≡ c ∷ more)
    next [] e = absurd (omega (arith, ap length e))
    next (c ∷ cs) e = (c, cs, refl)

-- what is told next, told of all that was given and is kept
abbrev pub apart : Start → Start
apart start = record start { ahead = [] }

abbrev pub given_to : Start → List ℕ → Given
given_to start given = record { given = given; ahead = start.ahead }

module _ {f : Form} {p : Properties} {start : Start} where
  -- the sink failed in it
  pub stands-failed : {n : Normalizer} {new : Counted} {given out x next w : List ℕ} {place : List ℕ → ℕ} (now : BlockState) → Stands f p n (given_to start given) out x next → w ≡ given ++ out → Broken (apart start) now w
      → TakesAllowed false f p new start now place (x ++ next) (Err WriteFault)
  stands-failed {x = x} {next = next} now stands is broken = record {
    writes = record {
      broken = λ _. ⊎_elim
          (λ inside. Broken-extends start (taken_utf8-extends p f x next inside.taken.usable) (rw (is ∙ sym inside.holds.text) at broken))
          (λ between.
          let first = between.boundary.first in
          let rest = between.boundary.rest in
          let one : next ≡ (first ∷ []) ++ rest = between.boundary.text in
          let usable = usable_both p f x between.usable next [] rest between.boundary one (usable-alone p f first between.boundary.boundary between.boundary.sound) in
          let grows : Extends (encode_utf8_all (safe_form f p x)) (settled_text f p (x ++ first ∷ [])) = record { more = settled_text f p (first ∷ []); text = sym (settled_text-after p f x between.usable next [] rest between.boundary one) } in
          let due : Extends (encode_utf8_all (safe_form f p x)) (taken_utf8 false f p (x ++ next)) = rw (one, ← append_assoc x (first ∷ []) rest) (Extends-join grows (taken_utf8-extends p f (x ++ first ∷ []) rest usable)) in
          Broken-extends start due (rw (is ∙ sym between.holds.text) at broken))
          stands;
      written = λ no. absurd (no refl);
    };
    fault = λ no. absurd (no refl);
    taken = tt;
  }

  -- or more was given, and the rest is kept
  pub stands-moved : {n : Normalizer} {given out x next w : List ℕ} {now : BlockState} → Stands f p n (given_to start given) out x next → w ≡ given ++ out → (written : Written (apart start) now w)
      → Stands f p n (given_to start written.given) now.kept x next
  stands-moved (inl inside) is written = inl (record { taken = inside.taken; holds = record { text = inside.holds.text ∙ sym is ∙ written.text } })
  stands-moved (inr between) is written = inr (record { anew = between.anew; usable = between.usable; boundary = between.boundary; holds = record { text = between.holds.text ∙ sym is ∙ written.text } })

  -- what was taken stands so
  pub Standing-taken : {counted : Counted} {now : BlockState} {x : List ℕ} (next : List ℕ) → HasTaken f p counted x → Written start now (settled_text f p x) → Standing f p counted start now x next
  Standing-taken next taken written = record {
    given = written.given;
    puts = written.puts;
    stands = inl (record { taken = taken.machine; holds = record { text = written.text } });
    put = taken.put;
  }

  module _ {counted : Counted} {old : BlockState} {x next : List ℕ} (standing : Standing f p counted start old x next) where
    -- all that was given, and what the room holds after it
    pub given_and : (room : List ℕ) → Written (apart start) (record { sink = old.sink; kept = room }) (standing.given ++ room)
    given_and room = record { given = standing.given; puts = standing.puts; text = refl }

    -- room was made
    pub Standing-moved : {now : BlockState} → ((start : Start) (w : List ℕ) → Written start old w → Written start now w) → Standing f p counted start now x next
    Standing-moved writes =
        let written = writes (apart start) (standing.given ++ old.kept) (given_and old.kept) in
        record { given = written.given; puts = written.puts; stands = stands-moved standing.stands refl written; put = standing.put }

-- so y is taken, which is what may be taken of a text
pub allowed-part : (a : Bool) (begin : ℕ) (bytes : List ℕ) (rest : List ℕ) {p : Properties} {old new : Counted} {before now : BlockState} {text y : List ℕ} {r : Result (Unit {0}) Fault}
    → text ≡ y ++ rest → y ≡ allowed a p text → TakesAsIs p old before new now begin bytes y r
    → (f : Form) (place : List ℕ → ℕ) (x : List ℕ) (start : Start) → HasTaken f p old x → allowed a p x ≡ x → IsPlacedAt place begin bytes 0 x text → Written start before (settled_text f p x)
    → (allowed a p (x ++ text) ≡ x ++ y) × TakesAllowed false f p new start now place (x ++ y) r
allowed-part a begin bytes rest {p} {text = text} {y} whole front takes f place x start taken all here written = (
  rw front (allowed-append p a x text all),
  takes f place x start taken.chars (Standing-taken y taken written) (placed-within place begin bytes 0 x text y rest whole here),
)

module _ {f : Form} {p : Properties} {a : Bool} {counted : Counted} {start : Start} {now : BlockState} {place : List ℕ → ℕ} where
  -- all of a text was taken
  pub TakesAllowed-all : {x : List ℕ} → allowed a p x ≡ x → TakesAllowed false f p counted start now place x (Ok tt) → TakesAllowed a f p counted start now place x (Ok tt)
  TakesAllowed-all {x} all takes = record {
    writes = rw all takes.writes;
    fault = λ _. sym (first_fault-none p a place x None takes.taken.0.machine.usable all);
    taken = (takes.taken.0, all);
  }

  -- what may be taken of it was refused
  pub TakesAllowed-refused : {w z : List ℕ} {fault : Fault} → allowed a p w ≡ z → TakesAllowed false f p counted start now place z (Err fault) → TakesAllowed a f p counted start now place w (Err fault)
  TakesAllowed-refused {w} {z} {fault} front takes = record { writes = rw front takes.writes; fault = λ not. rw (first_fault-is p a place w None, front) (grind (arith, nat_tests, takes.fault not)); taken = tt }

  -- or was taken, but is not all of it
  pub TakesAllowed-unassigned : {w z : List ℕ} {at : ℕ} → allowed a p w ≡ z → length z < length w → place z ≡ at → TakesAllowed false f p counted start now place z (Ok tt)
      → TakesAllowed a f p counted start now place w (Err (Unassigned at))
  TakesAllowed-unassigned {w} {z} front less here takes = record {
    writes = WritesTo-written (λ e. cc) (rw front (takes.writes.written (λ e. cc)));
    fault = λ _. rw (first_fault-is p a place w None, front) (grind (arith, nat_tests, takes.taken.0.machine.usable));
    taken = tt;
  }

  -- what is refused in a text is refused in a longer one
  pub refused-more : {w : List ℕ} {fault : Fault} (y : List ℕ) (other : Option Fault) → TakesAllowed a f p counted start now place w (Err fault)
      → WritesTo start now (taken_utf8 a f p (w ++ y)) (Err fault) × (¬ (fed_by fault ≡ Err WriteFault) → Some fault ≡ first_fault a p place (w ++ y) other)
  refused-more {w} {fault} y other takes =
      let stays = λ (not : ¬ (fed_by fault ≡ Err WriteFault)). first_fault-stays p a place w y other fault (takes.fault not) in
      (record { broken = λ e. Broken-extends start (taken_utf8-grows p a f w y) (takes.writes.broken e); written = λ not. rw (stays not).1 (takes.writes.written not) }, λ not. sym (stays not).0)

  -- all of a text was taken
  pub TakesAllowed-settled : {x : List ℕ} → TakesAllowed a f p counted start now place x (Ok tt) → Written start now (settled_text f p x)
  TakesAllowed-settled {x} takes = let taken = takes.taken.0 in rw (taken-all p a x taken.machine.usable takes.taken.1) at (takes.writes.written (λ e. cc))
