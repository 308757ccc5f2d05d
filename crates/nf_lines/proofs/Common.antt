-- The names that most of these proofs cite, passed on from one place. Declares nothing.
pub use Rattle.std.proofs.Common.{◌≡◌, ℕ, ◌+◌, ◌==◌, Bool, true, false, List, [], ◌∷◌, ◌++◌, length, Option, Some, None, inl, inr, ⊎_elim, encode_utf8_all, refl, sym, ap, ◌∙◌, arith, append_assoc, append-nil, length-append, eq-eqb, ne_eqb, ◌-◌, ◌≤◌, take, drop, Result, Ok, Err, OnOk, IsTrue, ◌^◌, ◌⊎◌, take-append-drop, rules, length-take, length-drop, IsFalse}
pub use Rattle.std.proofs.lemmas.Bool.{cases_Bool, or_from}
pub use Rattle.std.proofs.lemmas.Str.{encodes-append}
pub use Rattle.std.specs.Io.KnownBytes.{Consumes, IsAtEnd}
pub use Rattle.std.specs.Result.{result_err}
pub use Rattle.nf_facts.specs.LineFeed.{line_feed}
pub use Rattle.nf_filter.proofs.FilterLemmas.{StandsAfter-offset, StandsAfter-fits}
pub use Rattle.nf_filter.specs.Devices.{SinkState, SourceState}
unfoldable pub use Rattle.nf_filter.specs.Faults.{fault_in}
pub use Rattle.nf_filter.specs.Faults.{answer_at_end, bad_under, first_fault}
pub use Rattle.nf_utf8.specs.Left.{IsLeft}
pub use Rattle.nf_filter.specs.Filter.{base_of, StandsAfter, offset_of, state_of, is_spent}
unfoldable pub use Rattle.nf_filter.specs.Finishes.{end_of, final_utf8}
pub use Rattle.nf_filter.specs.Finishes.{answer_or, end_under, Finishes}
pub use Rattle.nf_filter.specs.Laws.Settled.{text_under-none, settled_utf8-none}
pub use Rattle.nf_filter.specs.Policy.{allowed, text_under, whole_under, as_is}
unfoldable pub use Rattle.nf_filter.specs.Settled.{settled_utf8}
pub use Rattle.nf_filter.specs.declared.fault.Fault.{Fault}
pub use Rattle.nf_filter.specs.declared.fault.Fault.TheVariants.{TooLong, Read, Write}
pub use Rattle.nf_filter.specs.declared.filter.State.{State}
pub use Rattle.nf_filter.specs.declared.policy.Policy.{Policy}
pub use Rattle.nf_filter.specs.declared.tally.Tally.{Tally}
pub use Rattle.nf_forms.specs.Ucd.{ucd}
pub use Rattle.nf_forms.specs.declared.form.Form.{Form}
pub use Rattle.nf_forms.specs.declared.form.Form.TheVariants.{Nfc}
pub use Rattle.nf_lines.specs.Alone.{end_fault, StandAlone}
pub use Rattle.nf_lines.specs.Cut.{EndsInLineFeed, HasNoLineFeed, IsCutAt}
pub use Rattle.nf_lines.specs.Drives.{Lines, bytes_of, TakesLines, DrivesLines}
pub use Rattle.nf_utf8.specs.Ending.{Ending, Whole, Bad, Cut}
unfoldable pub use Rattle.nf_utf8.specs.Reading.{text_of, ending_of}
unfoldable pub use Rattle.nf_utf8.specs.Replaced.{decoded_of, replaced, replaced_whole}
