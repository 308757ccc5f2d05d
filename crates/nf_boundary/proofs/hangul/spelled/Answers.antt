use Rattle.nf_boundary.proofs.Common.{ℕ, rules, ◌+◌, ◌-◌, ◌*◌, IsLv, IsLvt}
use Rattle.nf_boundary.proofs.HangulLemmas.{spells_two, spells_three}
use Rattle.nf_boundary.proofs.hangul.spelled.Goals as goal

pub returns : goal.returns
returns c =
    let lv : ℕ = 0xAC00 + ((c.args.leading - 0x1100) * 588 + (c.in_ok-vowel.vowel - 0x1161) * 28) in
    let three : IsLvt lv c.in-Some.trailing c.in_ok-closed.closed = search rules in
    search (rules, spells_three)

pub returns-2 : goal.returns-2
returns-2 c = search (rules, IsLv, spells_two)
