use Rattle.std.proofs.Common.{sym, ◌∙◌}
use Rattle.std.proofs.lemmas.Str.{chars_past_char}
use Rattle.nf_boundary_tests.proofs.reference.segments_of.Goals as goal

pub first_segments-requires : goal.first_segments-requires
first_segments-requires c =
    record { first = c.in_ok-first.first; others = _; begins = chars_past_char _ _ _ c.utf8.text (sym c.chars.ensures.rest ∙ c.in_ok-first.ensures.steps.0); is_entry = c.of.ensures }
