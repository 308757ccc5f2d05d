use Rattle.nf_boundary.proofs.Common.{arith, append_assoc, nat_tests}
use Rattle.std.proofs.Math.Utf8.{encode}
use Rattle.nf_boundary.proofs.encoding.put_character.Goals as goal

pub returns-then-code-lt2048-clause-text : goal.returns-then-code-lt2048-clause-text
unfolding encode
returns-then-code-lt2048-clause-text g c = grind (arith, nat_tests, append_assoc)

pub returns-then-code-lt65536-clause-text : goal.returns-then-code-lt65536-clause-text
unfolding encode
returns-then-code-lt65536-clause-text g c = grind (arith, nat_tests, append_assoc)

pub returns-else-code-lt65536-clause-text : goal.returns-else-code-lt65536-clause-text
unfolding encode
returns-else-code-lt65536-clause-text g c = grind (arith, nat_tests, append_assoc)
