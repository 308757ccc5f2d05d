use Rattle.nf_vectors.proofs.Common.{limit, lt-ltb, refl, if_ok_if, ◌≡◌, ◌∙◌, ◌++◌, ◌≤◌, length, true, false, [], take, arith, append-nil, block, length-take-le, eq-eqb, ne_eqb}
use Rattle.nf_vectors.proofs.EndingLemmas.{ends_at}
use Rattle.std.proofs.KnownBytes.{Consumes-kept, Consumes-trans}
use Rattle.nf_vectors.proofs.suite.Suite.read.Goals as goal

pub returns-in-Err-clause-reads : goal.returns-in-Err-clause-reads
returns-in-Err-clause-reads g c =
    let read = c.loop-given.invariant.read in
    let failed = c.in-Err.ensures.failed in
    record {
      bytes = read.0;
      given = Consumes-kept _ _ _ read.0 read.1 c.in-Err.ensures.kept;
      read_out = λ end. cc;
      tells = λ _. rw (failed.0, ends_at read.2 (omega (arith, read.2.taken)) true, c.fault.ensures) refl;
      memory = rw c.fault.ensures (λ memory. cc);
      end = tt;
      before_end = λ _ unfailed. cc;
    }

pub returns-in-Err-take-clause-reads : goal.returns-in-Err-take-clause-reads
returns-in-Err-take-clause-reads g c =
    let read = c.loop-given.invariant.read in
    let piece = take c.in-Ok.given c.get.new.buf in
    let finds = c.in-Err-take.ensures.finds read.0 read.2 in
    let unended : (g.I.Source.state c.get.new.self).is_at_end ≡ false = c.in-Ok.ensures.end ∙ ne_eqb c.in-Ok.given 0 c.if-given-eq0.false in
    let short : length piece ≤ block = omega (arith, length-take-le c.in-Ok.given c.get.new.buf c.in-Ok.ensures.count, c.in-Ok.ensures.count) in
    record {
      bytes = read.0 ++ piece;
      given = Consumes-trans _ _ _ read.0 piece read.1 c.in-Ok.ensures.given;
      read_out = λ end. cc;
      tells = λ sound. finds sound _ (λ past. rw (lt-ltb limit (length (read.0 ++ piece)) past) refl);
      memory = rw unended (c.in-Err-take.ensures.memory read.0 read.2 short);
      end = tt;
      before_end = λ _ _ few sound stop. finds sound stop (λ past. absurd (omega arith));
    }

pub returns-then-given-eq0-clause-reads : goal.returns-then-given-eq0-clause-reads
returns-then-given-eq0-clause-reads g c =
    let read = c.loop-given.invariant.read in
    let end : (g.I.Source.state c.get.new.self).is_at_end ≡ true = c.in-Ok.ensures.end ∙ eq-eqb c.in-Ok.given 0 c.if-given-eq0.true in
    record {
      bytes = read.0;
      given = rw append-nil at (Consumes-trans _ _ _ read.0 [] read.1 (rw c.if-given-eq0.true at c.in-Ok.ensures.given));
      read_out = λ _. c.in-Ok.ensures.read_out c.if-given-eq0.true;
      tells = rw c.in-Ok.ensures.stands.1 (c.finish.ensures.tells read.0 read.2);
      memory = rw end (c.finish.ensures.memory read.0 read.2);
      end = if_ok_if c.finish.result _ (λ _. end);
      before_end = λ unended. cc;
    }
