-- The names that most of these proofs cite, passed on from one place. Declares nothing.
pub use Rattle.std.proofs.Common.{◌≡◌, ℕ, ◌+◌, ◌-◌, Bool, true, false, ◌==◌, List, [], ◌∷◌, ◌++◌, length, Option, Some, None, Result, Ok, Err, refl, sym, ap, ◌∙◌, subst, arith, append-nil, eq-eqb, IsTrue, OnOk, if◌then◌else◌, encode_utf8_all, inl, chars, ◌<◌, ⊎_elim, ne_eqb, append_assoc, ◌≤◌, take, drop, map, encode_utf8, IsUtf8, length-append, take-append-drop, suc, inr, cond, MatchResult, ◌^◌, ◌↔◌, IsFalse, ◌⊎◌, option_map, not, ◌&&◌, ◌||◌, length-drop, take_at, take_while, eqb-true, take_all, IfSome, is_some, IfErr, length-take, rules}
pub use Rattle.std.proofs.KnownBytes.{Appends-nil, Appends-trans, Consumes-kept, Consumes-trans}
pub use Rattle.std.proofs.Math.Seq.{take-append-add, take-length}
pub use Rattle.std.proofs.lemmas.Bool.{and_from, and_parts, or_left, cases_lt, cases_Bool, false_from_ne_true, eqb-false, or_parts, true_from_ne_false, false≢true}
pub use Rattle.std.proofs.lemmas.Bool.Decides.{nat_tests}
pub use Rattle.std.proofs.lemmas.List.{nil_from_length, length-map, map-append, drop-append-le, take-append-le, take-take, take_rest}
pub use Rattle.std.proofs.lemmas.List.Folds.{list_all-append, length-prefix_len, prefix_len-append}
pub use Rattle.std.proofs.lemmas.Str.{encodes-append, encodes-chars, chars-nil, chars-append, chars_past_char, IsUtf8-append, IsUtf8-take, IsCharBoundary-at_seam, utf8_valid_len_le, length-le-encodes, length-encode, len_utf8_bounds, chars_from_encodes}
pub use Rattle.std.specs.Io.KnownBytes.{Appends, Consumes, IsAtEnd}
pub use Rattle.std.specs.List.{list_all, prefix_len}
pub use Rattle.std.specs.Result.{result_err, result_map_both}
pub use Rattle.std.specs.Str.{all_scalars, chars as characters}
pub use Rattle.nf_filter.specs.Block.{Start, BlockState, Written, WritesTo, Broken, WritesOn, block_state}
unfoldable pub use Rattle.nf_filter.specs.Checks.{check_decision, text_decision}
pub use Rattle.nf_filter.specs.Checks.{sound_front, place_or_fault, no_place, HasChecked}
pub use Rattle.nf_filter.specs.Counted.{HasTaken, settled_text, IsPlacedAt, told_by, utf8_place, ends_at}
pub use Rattle.nf_filter.specs.Devices.{SinkState, SourceState}
pub use Rattle.nf_filter.specs.Drives.{Drives, DrivesToEnd}
unfoldable pub use Rattle.nf_filter.specs.Faults.{fault_in}
pub use Rattle.nf_filter.specs.Faults.{answer_at_end, bad_byte, bad_under, first_fault}
pub use Rattle.nf_filter.specs.Feeding.{taken_utf8, TakesAllowed, TakesAfter, TakesAsIs, HasReadTo, ReadsTo, RefusesBytes}
pub use Rattle.nf_filter.specs.Feeds.{Feeds}
pub use Rattle.nf_filter.specs.Filter.{base_of, offset_of, is_spent, StandsAfter, state_of, rows_of}
unfoldable pub use Rattle.nf_filter.specs.Finishes.{end_of, final_utf8}
pub use Rattle.nf_filter.specs.Finishes.{tally_of, answer_or, end_under, whole_or, is_taken, final_under, Finishes, Closes}
pub use Rattle.nf_filter.specs.Laws.Settled.{settled_utf8-none, text_under-none}
pub use Rattle.nf_filter.specs.Laws.Undecided.{checked_undecided, measured_undecided}
pub use Rattle.nf_filter.specs.Laws.Soundness.{AreSound, RefusesNone}
pub use Rattle.nf_filter.specs.Measures.{unusable_decision, HasMeasured, measure_decision, text_measure}
pub use Rattle.nf_filter.specs.Policy.{as_is, allowed, text_under, whole_under, len_under, IsAfterAssigned}
pub use Rattle.nf_filter.specs.Saved.{saved_of, are_marks, IsCounted, IsRestorable}
unfoldable pub use Rattle.nf_filter.specs.Settled.{is_usable, settled_utf8, settled}
pub use Rattle.nf_filter.specs.Settled.{usable}
pub use Rattle.nf_filter.specs.Stepping.{Standing, StandsInFront}
pub use Rattle.nf_filter.specs.Surveys.{Survey, Surveys}
pub use Rattle.nf_filter.specs.Taker.{decided_or, decided_in, Decides, HasTakenFront, HasRead, HasSurveyed, ReadsText, ReadsOn, IsReady}
unfoldable pub use Rattle.nf_filter.specs.Whole.{whole_utf8, whole_answer}
pub use Rattle.nf_filter.specs.Whole.{Converts, IsFormOf, IsOfWhole, fault_or}
pub use Rattle.nf_filter.specs.Writes.{Puts, BreaksOff}
pub use Rattle.nf_filter.specs.declared.counted.Counted.{Counted}
pub use Rattle.nf_filter.specs.declared.devices.Failed.{Failed}
pub use Rattle.nf_filter.specs.declared.fault.Fault.{Fault}
pub use Rattle.nf_filter.specs.declared.fault.Fault.TheVariants.{Row, Write as WriteFault, Unassigned, BadByte, Write, TooLong, Read, Cut as CutShort}
pub use Rattle.nf_filter.specs.declared.filter.State.{State}
pub use Rattle.nf_filter.specs.declared.policy.Policy.{Policy}
pub use Rattle.nf_filter.specs.declared.reading.Reading.{Reading}
pub use Rattle.nf_filter.specs.declared.tally.Tally.{Tally}
pub use Rattle.nf_forms.specs.Forms.{normal_form, row_of, decomposed, composes, finished}
pub use Rattle.nf_forms.specs.Front.{back}
pub use Rattle.nf_forms.specs.Laws.Front.{front-append-back}
pub use Rattle.nf_forms.specs.Laws.Settling.{back-starter, length-back}
pub use Rattle.nf_forms.specs.Laws.Sound.{IsSoundText, IsSound, IsSound-from_test}
pub use Rattle.nf_forms.specs.Laws.StreamSafe.{trail-stream_safe-le, trail-decomposed-le}
pub use Rattle.nf_forms.specs.Laws.Runs.{trail-marks}
pub use Rattle.nf_forms.specs.Runs.{has_starter, lead, trail}
pub use Rattle.nf_forms.specs.Properties.{Properties, is_starter}
unfoldable pub use Rattle.nf_forms.specs.SafeForm.{safe_form}
pub use Rattle.nf_forms.specs.Sound.{is_sound}
pub use Rattle.nf_forms.specs.StreamSafe.{stream_safe, joiner, is_too_long, max_run}
pub use Rattle.nf_forms.specs.Twice.{ChangesOnce}
pub use Rattle.nf_forms.specs.declared.form.Form.{Form}
pub use Rattle.nf_forms.specs.declared.form.Form.TheVariants.{Nfc, Nfd, Nfkd}
pub use Rattle.nf_normalizer.specs.Laws.Settled.{usable-all, Extends, Extends-encodes, usable-stop, is_usable-push, Extends-none, settled-extends, is_usable-stays_out, usable-grows, usable-stays, is_usable-none, Extends-join, usable-extends}
pub use Rattle.nf_normalizer.specs.Normalizer.{IsWithin}
pub use Rattle.nf_normalizer.specs.Room.{Start as Given}
pub use Rattle.nf_safe.specs.Checker.{place_of}
pub use Rattle.nf_safe.specs.Laws.Pieces.{in_format-unchanged, cut-some, sound-source, stream_safe-cut, stream_safe-in_format}
pub use Rattle.nf_safe.specs.Measurer.{refusal, unsound_at}
pub use Rattle.nf_safe.specs.Place.{is_in_format, place_from}
pub use Rattle.nf_safe.specs.declared.checker.Checker.{Checker}
pub use Rattle.nf_safe.specs.declared.place.Place.{Place}
pub use Rattle.nf_utf8.specs.Ending.{Ending, Whole, Bad, Cut, Cut as CutEnd}
pub use Rattle.nf_utf8.specs.Left.{decoded_under, IsLeft, ReadsNext}
pub use Rattle.nf_utf8.specs.Laws.{ReadsLongestText, ReadsBack, ReplacesSubparts, SplitsBytes}
unfoldable pub use Rattle.nf_utf8.specs.Reading.{text_of, ending_of, rest_of}
unfoldable pub use Rattle.nf_utf8.specs.Replaced.{replaced, replaced_whole, decoded_of, replaced_len}
pub use Rattle.nf_utf8.specs.Replaced.{replacement, begun_at_end, decoded_text, decoded_after_text, decoded_within, bytes_in}
pub use Rattle.nf_utf8.specs.Standing.{StandsAfter as DecoderStandsAfter}
pub use Rattle.nf_utf8.specs.Subpart.{IsSubpart}
pub use Rattle.nf_utf8.specs.Text.{IsText}
