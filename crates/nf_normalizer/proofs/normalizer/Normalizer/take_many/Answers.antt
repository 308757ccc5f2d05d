use Rattle.nf_normalizer.proofs.Common.{◌≡◌, [], take, length, ap, arith, rules, inl, append-nil, length-take, length-drop}
use Rattle.nf_normalizer.proofs.FrontLemmas.{ascii_front, leaves-segments, takes-segments}
use Rattle.nf_normalizer.proofs.normalizer.Normalizer.take_many.Goals as goal

pub returns-in-Some-clause-passes : goal.returns-in-Some-clause-passes
returns-in-Some-clause-passes g c = leaves-segments c.in-Some.ensures

pub returns-in-Some-clause-takes : goal.returns-in-Some-clause-takes
returns-in-Some-clause-takes g c = λ f x start taken holds.
    takes-segments x taken.usable (rw taken.form at c.in-Some.ensures) (search rules) (c.settle.ensures.anew f x taken) (c.settle.ensures.settles f x start taken holds)

pub returns-clause-passes : goal.returns-clause-passes
returns-clause-passes g c =
    let text = c.args.text.now in
    let len = c.ascii_prefix-len.result in
    let within = rw c.as_bytes.ensures.value at c.ascii_prefix-len.ensures.within in
    record {
      front = take len text;
      some = omega (arith, length-take len text, within);
      few = omega arith;
      is_front = rw c.take_ascii.ensures.rest (ascii_front text len (rw c.as_bytes.ensures.value at c.ascii_prefix-len.ensures.ascii));
      shorter = omega (arith, ap length c.take_ascii.ensures.rest, length-drop len text, within);
    }

pub returns-clause-takes : goal.returns-clause-takes
returns-clause-takes g c = λ f x start taken holds.
    let run = c.take_ascii.ensures.takes f x start taken (c.in-Some-plain_starter.ensures.alone f _ x taken) holds in
    let none : c.clear.new.self.items ≡ [] = search rules in
    record {
      front = take c.ascii_prefix-len.result c.args.text.now;
      is_front = rw c.take_ascii.ensures.rest (ascii_front c.args.text.now c.ascii_prefix-len.result (rw c.as_bytes.ensures.value at c.ascii_prefix-len.ensures.ascii));
      stands = inl (rw (none, append-nil) run.inside);
      joins = run.joins;
    }
