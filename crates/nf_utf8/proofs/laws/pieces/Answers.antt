use Rattle.std.proofs.Common.{refl}
use Rattle.nf_utf8.proofs.ReadingLemmas.{text_on, rest_on, ending_on, text_of-bad, ending_of-bad}
use Rattle.nf_utf8.proofs.laws.pieces.Goals as goal

pub returns : goal.returns
returns c = record {
  text = λ bytes piece. text_on bytes piece refl;
  rest = λ bytes piece. rest_on bytes piece refl;
  ending = λ bytes piece. ending_on bytes piece refl;
  bad_text = text_of-bad;
  bad_ending = ending_of-bad;
}
