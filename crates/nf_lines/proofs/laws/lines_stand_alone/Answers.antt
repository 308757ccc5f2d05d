use Rattle.nf_lines.proofs.Common.{◌≡◌, true, refl, Form, Nfc, ucd, line_feed}
use Rattle.ucd_table.specs.Rows.{in_ranges}
use Rattle.nf_facts.specs.PlainRanges.{plain_ranges}
use Rattle.nf_lines.proofs.AloneLemmas.{lines_alone}
use Rattle.nf_lines.proofs.laws.lines_stand_alone.Goals as goal

plain : (f : Form) → in_ranges (plain_ranges f) line_feed ≡ true
unfolding in_ranges plain_ranges
plain Nfc = refl
plain _ = refl

pub returns : goal.returns
returns c = λ policy f base lines rest.
    lines_alone ucd c.every_character_is_sound.ensures.character c.longest_text.ensures f (c.the_quick_check_tells.ensures.own_boundary f line_feed (c.plain_ranges_pass.ensures f line_feed (plain f)))
    (c.lines_are_formed_alone.ensures.closing f) policy base lines rest
