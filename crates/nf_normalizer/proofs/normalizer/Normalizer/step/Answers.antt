use Rattle.nf_normalizer.proofs.Common.{◌≡◌, ℕ, ◌+◌, ◌<◌, ◌≤◌, [], ◌++◌, length, List, Bool, true, false, Ok, Err, inl, ⊎_elim, refl, ap, ◌∙◌, arith, rules, append_assoc, append-nil, chars, length-append, nil_from_length, encodes-chars, length-le-encodes, Form, Stands, StepsTo, one_if, Start}
use mir.Val.{bool_byte}
use Rattle.nf_normalizer.proofs.FrontLemmas.{steps-on, StepsTo-more, leaves-all}
use Rattle.nf_normalizer.proofs.normalizer.Normalizer.step.Given as given
use Rattle.nf_normalizer.proofs.normalizer.Normalizer.step.Goals as goal
use Rattle.nf_normalizer.proofs.normalizer.Normalizer.step.Goals.{After-from, then-loop-room-test+else-len-ge-STEP, else-loop-room-test}

byte_of : (b : Bool) → bool_byte b ≡ one_if b
byte_of true = refl
byte_of false = refl

-- with one front more
gone_more : (g : given.Over) (c : After-from g) → (front : List ℕ) × (chars c.args.text.now ≡ front ++ chars c.in-Ok.front.rest.now) × (c.loop-room.put + c.from.result ≤ length front)
gone_more g c =
    let leaves = c.in-Ok.ensures.passes in
    let gone = c.loop-room.invariant.gone in (
      gone.0 ++ leaves.front,
      rw (gone.1, leaves.is_front, append_assoc),
      omega (arith, gone.2, leaves.few, c.from.ensures ∙ byte_of c.in-Ok.front.joined, length-append gone.0 leaves.front),
    )

steps_more : (g : given.Over) (c : After-from g) (f : Form) (x : List ℕ) (start : Start)
    → Stands f (g.R.Rows.properties c.args.rows.now) c.args.self.now start c.args.room.now.items x (chars c.args.text.now)
    → StepsTo f (g.R.Rows.properties c.args.rows.now) c.take_front.new.self start (c.take_front.new.room.items ++ (c.in-Ok.front.same.now ++ c.take_front.new.formed.items))
    x c.args.text.now c.in-Ok.front.rest.now (c.loop-room.put + c.from.result)
steps_more g c f x start stands =
    let before = c.loop-room.invariant.steps f x start stands in
    StepsTo-more (omega (arith, c.from.ensures ∙ byte_of c.in-Ok.front.joined)) before (steps-on _ f _ start _ _ c.loop-room.rest.now _ (Ok c.in-Ok.front) c.in-Ok.ensures.passes c.in-Ok.ensures.takes before.stands)

pub overflow_add-put : goal.overflow_add-put
overflow_add-put g c =
    let gone = gone_more g (goal.at.overflow_add-put g c).After-from in
    omega (arith, gone.2, simp length-append at (ap length gone.1), rw (encodes-chars _ c.utf8.text) at (length-le-encodes (chars c.args.text.now)))

pub returns-then-not-is_empty-clause-passes : goal.returns-then-not-is_empty-clause-passes
returns-then-not-is_empty-clause-passes g c =
    let gone = gone_more g (goal.at.returns-then-not-is_empty-clause-passes g c).After-from in
    leaves-all gone.0 c.utf8.text (search rules) gone.1 gone.2 (omega (arith, c.in-Ok.ensures.passes))

pub returns-then-not-is_empty-clause-steps : goal.returns-then-not-is_empty-clause-steps
returns-then-not-is_empty-clause-steps g c = steps_more g (goal.at.returns-then-not-is_empty-clause-steps g c).After-from

pub loop-room-preserved : goal.loop-room-preserved
loop-room-preserved g c =
    let at = (goal.at.loop-room-preserved g c).After-from in
    let formed : c.take_front.new.formed.items ≡ [] = nil_from_length c.take_front.new.formed.items (search rules) in record {
      utf8 = search rules;
      left = omega (arith, c.in-Ok.ensures.passes);
      gone = gone_more g at;
      within = c.in-Ok.ensures.within;
      empty = formed;
      begun = inl (omega (arith, c.in-Ok.ensures.passes));
      steps = λ f x start stands.
          let same : c.in-Ok.front.same.now ≡ [] = nil_from_length c.in-Ok.front.same.now (search rules) in
          rw (same, formed, append-nil) at (steps_more g at f x start stands);
    }

pub returns-in-Err-clause-steps : goal.returns-in-Err-clause-steps
returns-in-Err-clause-steps g c = λ f x start stands.
    let before = c.loop-room.invariant.steps f x start stands in
    record {
      front = before.front;
      is_front = before.is_front;
      refuses = steps-on _ f c.take_front.new.self start _ _ c.loop-room.rest.now c.take_front.new.formed.items (Err c.in-Err.field-0) c.in-Err.ensures.passes c.in-Err.ensures.takes before.stands;
    }

pub returns-clause-passes : goal.returns-clause-passes
returns-clause-passes g c =
    let gone = c.loop-room.invariant.gone in
    let shorter : length c.loop-room.rest.now < length c.args.text.now = ⊎_elim (λ less. less) (λ room. elim c.loop-room-test.branch [
      | then-loop-room-test+else-len-ge-STEP w ↦ absurd (omega (arith, room, w.if-len-ge-STEP.false, w.len.ensures.value))
      | else-loop-room-test w ↦ (let none : length c.loop-room.rest.now ≡ 0 = search rules in omega (arith, none, c.requires.some))
    ]) c.loop-room.invariant.begun in
    leaves-all gone.0 c.utf8.text c.loop-room.invariant.utf8 gone.1 gone.2 shorter
