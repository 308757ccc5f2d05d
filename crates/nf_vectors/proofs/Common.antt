-- The names that most of these proofs cite, passed on from one place. Declares nothing.
pub use Rattle.std.proofs.Common.{inl, inr, Bor, ◌≡◌, ℕ, ◌+◌, ◌≤◌, ◌<◌, true, false, List, [], ◌∷◌, ◌++◌, length, take, Option, Some, None, is_some, refl, sym, ap, ◌∙◌, arith, ◌-◌, ⊎_elim, drop, get_or, append_assoc, append-nil, zero, suc, ◌*◌, Bool, ◌&&◌, Ok, Err, rules, if◌then◌else◌, Result, OnOk, is_ok, take_all, codes, bytes_eq, encode_utf8_all, IsUtf8, slice_range, eq-eqb, ne_eqb, cond, not, add-zero, count_by, MatchResult, IsErr, IsErrAnd, All, find, IfOk, sum_by, string_bytes, encode_utf8, tests, ◌==◌, reverse, ◌^◌, ◌↔◌}
pub use Rattle.std.proofs.Math.Bool.{or-false, or_assoc}
pub use Rattle.std.proofs.Math.Seq.{take-append-add}
pub use Rattle.std.proofs.lemmas.Bool.{cases_lt, lt-ltb, le-ltb}
pub use Rattle.std.proofs.lemmas.Bool.Decides.{nat_tests}
pub use Rattle.std.proofs.lemmas.Iterator.{YieldsList, YieldsList-from_slice}
pub use Rattle.std.proofs.lemmas.Iterator.Consumers.{YieldsList-end, YieldsList-turn, count_from_yields_List}
pub use Rattle.std.proofs.lemmas.Iterator.Search.{YieldsList-from_take_while}
pub use Rattle.std.proofs.lemmas.List.{take_more, length-append, take_at, drop_more, take-append-drop, length_push, length-drop, drop-append-le, take-append-le, drop_all, length-take-le, take_rest, map_push}
pub use Rattle.std.proofs.lemmas.List.Folds.{find-append, length-prefix_len}
pub use Rattle.std.proofs.lemmas.List.Splits.{slice_split_first, slice_split_none, slice_split_at}
pub use Rattle.std.proofs.lemmas.List.Sums.{AllPass-from_list_all, fails_before_first, prefix_len-le-length, sum_by_push, count_by-le-length, sum_by-cons}
pub use Rattle.std.proofs.lemmas.Slice.Eq.{bytes_eq-Decides}
pub use Rattle.std.proofs.lemmas.Str.{encodes_same, length-encode, len_utf8_bounds, encodes-append}
pub use Rattle.std.proofs.result.Match.{if_ok_if}
pub use Rattle.std.specs.Char.{InScalarRange, OutOfScalarRange}
pub use Rattle.std.specs.Io.KnownBytes.{Consumes}
pub use Rattle.std.specs.List.{list_all, slice_split, onto_first, before_first, after_first, position_or_len, list_any}
pub use Rattle.std.specs.Option.{option_or}
unfoldable pub use Rattle.nf_filter.specs.Settled.{is_usable}
pub use Rattle.nf_forms.specs.Properties.{Properties}
unfoldable pub use Rattle.nf_forms.specs.SafeForm.{safe_form}
pub use Rattle.nf_forms.specs.Sound.{is_sound}
pub use Rattle.nf_forms.specs.declared.form.Form.{Form}
pub use Rattle.nf_safe.specs.Place.{place_from}
pub use Rattle.nf_safe.specs.declared.place.Place.{Place}
pub use Rattle.nf_vectors.specs.Limits.{limit, block}
pub use Rattle.nf_vectors.specs.Columns.{Columns, each}
pub use Rattle.nf_vectors.specs.Comparison.{leaves_format, holds, failing_column, holds_at}
pub use Rattle.nf_vectors.specs.Held.{columns_at, HoldsColumn}
pub use Rattle.nf_vectors.specs.Judgement.{judgement, Bad, Nothing, Part, Row, columns_in}
pub use Rattle.nf_vectors.specs.Line.{lines_of, is_line_end, is_semicolon, is_blank, is_gap}
pub use Rattle.nf_vectors.specs.ReadsSuite.{lines_within, stop_of, Finds}
unfoldable pub use Rattle.nf_vectors.specs.Report.{report_of}
pub use Rattle.nf_vectors.specs.Report.{verdict_of, is_skip, is_pass, is_failure, failure_or, first_failure_of, report_and}
pub use Rattle.nf_vectors.specs.RunsOut.{RunsOut}
pub use Rattle.nf_vectors.specs.Standing.{StandsAfter, EndsLine, IsWithin}
pub use Rattle.nf_vectors.specs.Suite.{judged, rows_from, names_part1_from, fault_or, last_fault, first_fault, VectorRow}
unfoldable pub use Rattle.nf_vectors.specs.SuiteView.{rows_of}
pub use Rattle.nf_vectors.specs.SuiteView.{AreWithin, rows_in, row_of}
unfoldable pub use Rattle.nf_vectors.specs.Sweep.{below, sweep_of}
pub use Rattle.nf_vectors.specs.Sweep.{sweep_below, is_listed, is_unchanged, is_unlisted, is_failed, lists}
unfoldable pub use Rattle.nf_vectors.specs.Words.{column_in}
pub use Rattle.nf_vectors.specs.Words.{code_point, is_digit, value_of, is_scalar, and_then, before, code_points}
pub use Rattle.nf_vectors.specs.declared.fault.VectorFault.{VectorFault}
pub use Rattle.nf_vectors.specs.declared.fault.VectorKind.{VectorKind}
pub use Rattle.nf_vectors.specs.declared.fault.VectorKind.TheVariants.{Hex, Scalar, Fields, Empty, Size, Read, Memory}
pub use Rattle.nf_vectors.specs.declared.reading.Reading.{Reading}
pub use Rattle.nf_vectors.specs.declared.report.Failure.{Failure}
pub use Rattle.nf_vectors.specs.declared.suite.Entry.{Entry}
