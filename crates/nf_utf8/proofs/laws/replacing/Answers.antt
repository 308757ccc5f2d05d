use Rattle.nf_utf8.proofs.LossyLemmas.{few_at_end, replaced-IsText, encodes-replaced_whole}
use Rattle.nf_utf8.proofs.ReplacedLemmas.{decoded_of-begun, decoded_of-bad, decoded_of-within, bytes_in-append, bytes_in-own, chars-own}
use Rattle.nf_utf8.proofs.laws.replacing.Goals as goal

pub returns : goal.returns
returns c = record {
  begun = decoded_of-begun;
  bad = decoded_of-bad;
  own_len = bytes_in-own;
  own_chars = chars-own;
  joined = bytes_in-append;
  within = decoded_of-within;
  few = few_at_end;
  text = replaced-IsText;
  lossy = encodes-replaced_whole;
}
