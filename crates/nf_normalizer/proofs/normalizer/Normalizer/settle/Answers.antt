use Rattle.nf_normalizer.proofs.Common.{rules, [], append-nil, is_usable-none}
use Rattle.nf_normalizer.proofs.PushingLemmas.{Holds-more}
use Rattle.nf_normalizer.proofs.CharacterLemmas.{settled_text-rest}
use Rattle.nf_normalizer.proofs.normalizer.Normalizer.settle.Goals as goal

pub returns-then-is_empty-clause-anew : goal.returns-then-is_empty-clause-anew
returns-then-is_empty-clause-anew g c = λ f x taken.
    let alone = (c.is_empty.ensures.none c.if-is_empty.true f _ _ taken.pending).0 in search (rules, is_usable-none, c.new-self.ensures.count, taken.plain)

pub returns-then-is_empty-clause-settles : goal.returns-then-is_empty-clause-settles
returns-then-is_empty-clause-settles g c = λ f x start taken holds.
    rw (← settled_text-rest (g.R.Rows.properties c.args.rows.now) f x [] (rw append-nil (c.is_empty.ensures.none c.if-is_empty.true f _ _ taken.pending).1), append-nil) holds

pub returns-clause-anew : goal.returns-clause-anew
returns-clause-anew g c = λ f x taken.
    let alone = c.restart-held.ensures.stands f _ _ taken.pending in search (rules, is_usable-none, c.new-self.ensures.count, taken.plain)

pub returns-clause-settles : goal.returns-clause-settles
returns-clause-settles g c = λ f x start taken holds.
    rw (settled_text-rest _ f x c.restart-held.result.items (c.restart-held.ensures.settles f _ taken.pending)) at (Holds-more _ (rw c.as_slice.ensures.value at c.put_utf8.ensures.text) holds)
