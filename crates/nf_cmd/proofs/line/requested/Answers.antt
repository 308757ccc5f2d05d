use Rattle.nf_cmd.proofs.Common.{arith, ◌≡◌, ◌∙◌, ap, sym, codes, List, Option, Some, option_map, Box, box_value, found_of, Row, Text, rows_of, subcommand_rows, first_value-rows, request_by, request_of}
use Rattle.clap.specs.declared.parser.matches.SubCommand.{SubCommand}
use Rattle.clap.specs.declared.parser.matches.ArgMatches.TheViews.{out-SubCommand}
use Rattle.nf_cmd.proofs.line.requested.Goals as goal

-- the subcommand by its name and its rows
rows_named : {Z : Type 0} (sub : Option (Box SubCommand Z)) (name : Text) (rows : List Row) → Some name ≡ option_map (λ b. (out-SubCommand (box_value b)).name.now) sub
    → Some rows ≡ option_map (λ p. p.1) (subcommand_rows sub) → subcommand_rows sub ≡ Some (name, rows)
rows_named sub name rows e f = grind arith

pub returns : goal.returns
returns c =
    let found = c.in_ok-name.found.now in
    let subcommand = rows_named _ c.in_ok-name.name.now (rows_of (found_of found)) c.in_ok-name.ensures.name c.in_ok-name.ensures.rows in
    let form = c.get_str.ensures ∙ first_value-rows (found_of found) (codes "form") in
    c.request_by.ensures ∙ (λ i. request_by c.in_ok-name.name.now (form i) (record { replace = c.is_set.ensures i; assigned = c.is_set-2.ensures i }) (c.is_set-lines.ensures i))
    ∙ sym (ap request_of subcommand)
