-- The names that most of these proofs cite, passed on from one place. Declares nothing.
pub use Rattle.std.proofs.Common.{⊎_elim, get_or, ◌≡◌, ℕ, List, [], Option, Some, None, Result, Ok, Err, inl, inr, sym, ap, ◌∙◌, subst, ◌⊎◌, refl, arith, zero, suc, ◌-◌, ◌/◌, ◌^◌, ◌<◌, ◌≤◌, true, cond, ◌∷◌, ◌++◌, drop, length, replicate, false, codes, Bor, ◌&&◌, Bool, not, fold, find, slice_get, bytes_eq, is_some, option_map, ap₂, min, ◌+◌, append-nil, eqb-true, IsTrue, OnOk, encode_utf8, chars, rules, Box, box_value, is_ok, take, take-append-drop, take-add}
pub use Rattle.std.proofs.KnownBytes.{Appends-nil, Keeps-refl, Appends-kept, Appends-trans}
pub use Rattle.std.proofs.lemmas.Bool.{cond_both, cases_Bool, cases_lt, not-false}
pub use Rattle.std.proofs.lemmas.Result.{IfOk-weaker}
pub use Rattle.std.proofs.lemmas.Slice.Eq.{bytes_eq-Decides}
pub use Rattle.std.specs.Io.KnownBytes.{Appends, Keeps}
pub use Rattle.std.specs.List.{list_any}
pub use Rattle.std.specs.Option.{option_map_or, option_eq}
pub use Rattle.clap.proofs.WalkLemmas.{list_any-map, one_text-rows, both, first_value-rows}
pub use Rattle.clap.specs.Facts.{explicit_source, unwrap_or_range}
unfoldable pub use Rattle.clap.specs.Faults.{walk_fault}
pub use Rattle.clap.specs.Faults.{level_fault, check_fault, settle_fault, built_fault, entered_fault, fault_of, is_simple_and_free, action_fault, use_fault, values_fault}
pub use Rattle.clap.specs.Kinds.{Kinds, or_else, IsAmong}
pub use Rattle.clap.specs.Matches.{ReadsOne, found_of}
pub use Rattle.clap.specs.Simple.{subcommand_of, Shape, on_top, subcommand_rows}
pub use Rattle.clap.specs.Takes.{is_given, value_passes, takes}
unfoldable pub use Rattle.clap.specs.Walk.{walked}
pub use Rattle.clap.specs.Walk.{Row, Text, Held, Names, Rule, has_row, reading_by, settled, default_rows, first_of, nothing_held, rows_after, walk, walk_from, with_default, Step, subcommand, answers_to, stop_after, texts, rows_of}
pub use Rattle.clap.specs.Words.{with_rule}
pub use Rattle.clap.specs.declared.error.kind.ErrorKind.{ErrorKind}
pub use Rattle.clap.specs.declared.error.kind.ErrorKind.TheVariants.{DisplayHelp, MissingRequiredArgument, OutOfMemory}
pub use Rattle.clap.specs.declared.parser.matches.ValueSource.TheVariants.{DefaultValue, CommandLine}
unfoldable pub use Rattle.nf_cmd.specs.Line.{check, convert, flag_rule, form_rule, line}
pub use Rattle.nf_cmd.specs.Line.{Asks, IsRefusal, IsRefused, request_of, IsLine, conversion, form_named, form_names, is_set, lacks_form, policy_of, request_by}
unfoldable pub use Rattle.nf_cmd.specs.Lines.{line_of}
pub use Rattle.nf_cmd.specs.declared.line.Request.{Request}
pub use Rattle.nf_cmd.specs.declared.line.Request.TheVariants.{Convert, ConvertLines, Check, CheckForm, Measure, Test}
pub use Rattle.nf_forms.specs.declared.form.Form.{Form}
