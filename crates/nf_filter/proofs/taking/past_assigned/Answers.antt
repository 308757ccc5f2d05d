use Rattle.nf_filter.proofs.Common.{sym, ap, ◌∙◌, length, take, take-append-drop, IsUtf8-take, chars_past_char}
use Rattle.std.proofs.lemmas.List.Sums.{take_while-cons}
use Rattle.nf_filter.proofs.TakingLemmas.{piece_after, char_after, stops_at_end}
use Rattle.nf_filter.proofs.taking.past_assigned.Goals as goal

pub loop-c-init : goal.loop-c-init
loop-c-init g c =
    let known = c.assigned_front.result in
    record {
      utf8 = c.range_from-rest.utf8;
      after = record {
        front = take known c.args.text.now;
        split = rw (c.range_from-rest.ensures.value, take-append-drop known c.args.text.now);
        front_utf8 = IsUtf8-take _ _ c.utf8.text c.assigned_front.ensures.boundary;
        rest_utf8 = c.range_from-rest.utf8;
        assigned = c.assigned_front.ensures.assigned;
      };
    }

pub returns-in_default : goal.returns-in_default
returns-in_default g c = record {
  after = c.loop-c.invariant.after;
  stops = stops_at_end _ _ (ap length (sym c.chars-chars.ensures.rest) ∙ c.in_default.ensures.steps.0.0);
}

pub returns-then-not-assigned : goal.returns-then-not-assigned
returns-then-not-assigned g c =
    let here = c.loop-c.invariant.after in
    let is = chars_past_char _ _ c.in-Some.c here.rest_utf8 (sym c.chars-chars.ensures.rest ∙ c.in-Some.ensures.steps.0) in
    record { after = here; stops = rw (is, take_while-cons, sym c.assigned.ensures ∙ c.if-not-assigned.true) }

pub loop-c-preserved : goal.loop-c-preserved
loop-c-preserved g c =
    let here = c.loop-c.invariant.after in
    let e = rw (← c.as_str-rest.ensures) at (sym c.chars-chars.ensures.rest ∙ c.in-Some.ensures.steps.0) in
    record {
      utf8 = c.as_str-rest.utf8;
      after = piece_after here (char_after c.in-Some.c here.rest_utf8 c.as_str-rest.utf8 e (sym c.assigned.ensures ∙ c.if-not-assigned.false));
    }
