use Rattle.nf_utf8.proofs.Common.{encode_utf8_all, refl}
use Rattle.nf_utf8.proofs.ReadingLemmas.{text_of-encodes, rest_of-after, ending_of-after}
use Rattle.nf_utf8.proofs.laws.read_back.Goals as goal

pub returns : goal.returns
returns c = record {
  text = text_of-encodes;
  rest = λ text bytes s. rest_of-after (encode_utf8_all text) bytes (text, (s, refl));
  ending = λ text bytes s. ending_of-after (encode_utf8_all text) bytes (text, (s, refl));
}
