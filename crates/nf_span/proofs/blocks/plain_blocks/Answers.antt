use Rattle.std.proofs.Common.{◌<◌, take, get_or, arith, get_or-take, length-take-le}
use Rattle.std.proofs.lemmas.List.Elements.{All-get_or}
use Rattle.std.proofs.lemmas.Str.Ascii.{All-from_ascii}
use Rattle.nf_span.proofs.LookLemmas.{no_look}
use Rattle.nf_span.proofs.blocks.plain_blocks.Goals as goal

pub loop-at-init : goal.loop-at-init
loop-at-init c = record {
  within = c.ascii_prefix-at.ensures.within;
  plain = λ k inside.
      let bytes = c.args.bytes.now in
      let ascii = c.ascii_prefix-at in
      let below = All-get_or (λ b. b < 128) (take ascii.result bytes) k 0 (omega (arith, length-take-le ascii.result bytes ascii.ensures.within)) (All-from_ascii _ ascii.ensures.ascii) in
      no_look c.args.form (get_or bytes k 0) (omega (arith, below, get_or-take ascii.result bytes k 0 inside));
}
