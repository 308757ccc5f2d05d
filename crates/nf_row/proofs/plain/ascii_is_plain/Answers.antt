use Rattle.nf_row.proofs.plain.ascii_is_plain.Goals as goal

pub returns : goal.returns
returns c = record {
  unchanged = λ a below. let plain = c.ascii_is_plain.ensures a below in search;
  pairs = λ a _ b below. (c.ascii_is_plain.ensures b below).never_second a;
}
