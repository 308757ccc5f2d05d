use Rattle.nf_cmd.proofs.Common.{◌≡◌, ◌+◌, ◌<◌, ◌≤◌, ◌^◌, true, drop, take, length, replicate}
use Rattle.std.specs.Fmt.{digits_onto}
use Rattle.nf_cmd.specs.Text.{code_digits, padded}
use Rattle.nf_cmd.proofs.lines.Lines.code.Given as goal

abbrev pub invariant-loop-rest : goal.invariant-loop-rest
invariant-loop-rest l = record {
  size : length l.digits ≡ 6;
  most : l.at ≤ 6;
  fits : l.rest < 16 ^ l.at;
  zeros : take l.at l.digits ≡ replicate l.at 48;
  done : l.rest ≡ 0 → code_digits l.fn.c ≡ padded (drop l.at l.digits);
  left : 0 < l.rest → code_digits l.fn.c ≡ padded (digits_onto (l.at + 58) 16 true l.rest (drop l.at l.digits));
}

abbrev pub decreases-loop-rest : goal.decreases-loop-rest
decreases-loop-rest l = l.rest
