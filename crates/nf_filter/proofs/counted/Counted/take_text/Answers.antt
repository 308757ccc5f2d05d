use Rattle.nf_filter.proofs.Common.{[], ◌≡◌, ⊎_elim, sym, refl, None, false, usable-all, ◌∷◌, ◌++◌, length-append, length, rules, ap, arith, ◌∙◌, chars}
use Rattle.nf_filter.proofs.TakingLemmas.{front-whole, nothing-left, joined, placed-left, takes-none, takes-more}
use Rattle.nf_filter.proofs.PolicyLemmas.{first_fault-none}
use Rattle.nf_filter.proofs.counted.Counted.take_text.Goals as goal

pub loop-rest-init : goal.loop-rest-init
loop-rest-init g c = search (arith, rules, takes-none)

pub loop-rest-preserved : goal.loop-rest-preserved
loop-rest-preserved g c = record {
  utf8 = search rules;
  left = omega (arith, c.in-Ok.ensures.passes.leaves.shorter, c.loop-rest.invariant.left);
  within = c.in-Ok.ensures.passes.within;
  chars = c.in-Ok.ensures.passes.count ∙ c.loop-rest.invariant.chars;
  put = let leaves = c.in-Ok.ensures.passes.leaves in
      omega (arith, c.in-Ok.ensures.passes.put, leaves.few, ap length leaves.is_front, length-append leaves.front (chars c.in-Ok.after.now), c.loop-rest.invariant.put);
  stands = λ f place x start standing here.
      let before = c.loop-rest.invariant.stands f place x start standing here in
      takes-more before (c.in-Ok.ensures.steps f place (x ++ before.front) start before.taken (placed-left before place c.args.origin.begin c.args.origin.bytes.now c.utf8.text c.loop-rest.invariant.utf8 here));
  lender = c.in-Ok.ensures.lender ∙ c.loop-rest.invariant.lender;
}

pub returns-in-Err-clause-takes : goal.returns-in-Err-clause-takes
returns-in-Err-clause-takes g c = λ f place x start counted standing here.
    let before = c.loop-rest.invariant.stands f place x start standing here in
    rw (joined before) at (c.in-Err.ensures.steps f place (x ++ before.front) start before.taken (placed-left before place c.args.origin.begin c.args.origin.bytes.now c.utf8.text c.loop-rest.invariant.utf8 here))

pub returns-clause-takes : goal.returns-clause-takes
returns-clause-takes g c = λ f place x start counted standing placed.
    let text = c.args.text.now in
    let rest = c.loop-rest.rest.now in
    let p = g.R.Rows.properties c.args.rows.now in
    let here = c.loop-rest.invariant.stands f place x start standing placed in
    let none : length rest ≡ 0 = search rules in
    let whole : x ++ here.front ≡ x ++ chars text = rw (front-whole text here.front rest here.is_front none) in
    ⊎_elim
    (λ inside. rw (← whole) (record {
      writes = record { broken = λ e. cc; written = λ _. rw (usable-all p (x ++ here.front) inside.taken.usable) (record { given = here.taken.given; puts = here.taken.puts; text = inside.holds.text }) };
      fault = λ _. sym (first_fault-none p false place (x ++ here.front) None inside.taken.usable refl);
      taken = (record { machine = inside.taken; chars = omega (arith, c.char_count.ensures, length-append x (chars text), ap length whole); put = here.taken.put }, refl);
    }))
    (λ between. let begins : [] ≡ between.boundary.first ∷ between.boundary.rest = sym (nothing-left rest none) ∙ between.boundary.text in cc)
    here.taken.stands
