use Rattle.nf_normalizer.proofs.Common.{encode_utf8_all, encodes-append}
use Rattle.nf_normalizer.proofs.PushingLemmas.{Holds-more}
use Rattle.nf_normalizer.proofs.pushing.push_starter.Goals as goal

pub returns-clause-pushes : goal.returns-clause-pushes
returns-clause-pushes g c = λ f w start stands holds.
    let p = g.R.Rows.properties c.args.rows.now in
    let settled = c.push_starter.new.settled.items in (
      c.push_starter.ensures.stands f w stands,
      rw (← c.push_starter.ensures.settles f w stands, encodes-append) (Holds-more (encode_utf8_all settled) (rw c.as_slice.ensures.value at c.put_utf8.ensures.text) holds),
    )
