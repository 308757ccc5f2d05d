-- The names that most of these proofs cite, passed on from one place. Declares nothing.
pub use Rattle.std.proofs.Common.{◌≡◌, ◌⊎◌, inl, inr, ◌^◌, ℕ, ◌+◌, ◌<◌, ◌≤◌, ◌==◌, Bool, true, false, List, [], ◌∷◌, ◌++◌, length, take, drop, refl, sym, ap, ◌∙◌, arith, append_assoc, append-nil, length-append, Option, Some, None, chars, encode_utf8_all, take-append-drop, IsTrue, is_some, option_map, Result, Ok, Err, ◌↔◌, take_all, ◌*◌, length-take, ◌≢◌, not, leb, flat_map}
pub use Rattle.std.proofs.Math.Logic.{∥∥₁_elim, ∥∥₁_map}
pub use Rattle.std.proofs.lemmas.Bool.{or_from}
pub use Rattle.std.proofs.lemmas.Grind.{common_steps}
pub use Rattle.std.proofs.lemmas.Slice.Eq.{bytes_eq-Decides}
pub use Rattle.std.proofs.lemmas.Str.{encodes_same}
pub use Rattle.std.specs.Coded.{le_prop}
pub use Rattle.std.specs.Prelude.{fold}
pub use Rattle.nf_facts.specs.After.{after}
pub use Rattle.nf_facts.specs.Passing.{is_among, halfwidth_marks, vowel_signs, mapped_marks}
unfoldable pub use Rattle.nf_filter.proofs.Common.{fault_in, final_utf8, end_of, settled, is_usable, settled_utf8, safe_form}
pub use Rattle.nf_forms.specs.Front.{front}
pub use Rattle.nf_filter.proofs.Common.{take-length, and_parts, false_from_ne_true, cases_Bool, or_parts, or_left, nat_tests, list_all-append, take_at, take-append-le, encodes-append, encodes-chars, length-le-encodes, length-encode, len_utf8_bounds, list_all, result_err, answer_at_end, bad_byte, is_spent, base_of, state_of, offset_of, whole_or, tally_of, decomposed, row_of, composes, normal_form, back, front-append-back, IsSoundText, IsSound-from_test, is_starter, Properties, lead, has_starter, is_sound, stream_safe, ChangesOnce, Form, Nfd, Nfkd, is_in_format, Place, Ending, Whole, Bad, SplitsBytes, ReadsBack, ReadsLongestText, ReplacesSubparts, text_of, rest_of, ending_of, IsText}
pub use Rattle.nf_utf8.specs.Taking.{first_text}
pub use Rattle.nf_filter.proofs.FilterLemmas.{StandsAfter-offset}
pub use Rattle.nf_filter.specs.Kinds.{IsAmong, spent, too_long, ill_formed, unassigned}
pub use Rattle.nf_filter.specs.Laws.{SettledOnlyGrows, LittleIsHeldBack}
unfoldable pub use Rattle.nf_filter.specs.Settled.{usable}
pub use Rattle.nf_filter.specs.declared.fault.Fault.{Fault}
pub use Rattle.nf_filter.specs.declared.fault.Fault.TheVariants.{Write, Row, TooLong}
pub use Rattle.nf_forms.specs.Span.{IsMark}
pub use Rattle.nf_forms.specs.Compose.{composite, is_blocked, joined, replaced, join, compose_step, compose}
pub use Rattle.nf_forms.specs.Forms.{arranged}
pub use Rattle.nf_forms.specs.Laws.Span.{row-mark}
pub use Rattle.nf_forms.specs.Laws.SegmentForms.{BeginsInStarter, begins_in_starter}
pub use Rattle.nf_forms.specs.Laws.Compose.{compose_step-at, compose-after, fold-none, joined-some, joined-starter, compose_step-none, joined-after_marks}
pub use Rattle.nf_forms.specs.Laws.Front.{back-at, back-none, last_starter, marks_push, cut}
pub use Rattle.nf_forms.specs.Laws.Last.{by_last}
pub use Rattle.nf_forms.specs.Laws.Order.{order-after, by_class-push, has_starter-by_class, order_after-at}
pub use Rattle.nf_forms.specs.Laws.StreamSafe.{decomposed-append, decomposed-push, stream_safe-push}
pub use Rattle.nf_forms.specs.Order.{order, by_class}
unfoldable pub use Rattle.nf_forms.specs.Ucd.{ucd}
pub use Rattle.nf_forms.specs.declared.form.Form.TheVariants.{Nfkc}
unfoldable pub use Rattle.nf_normalized.specs.Change.{change_at, form_decision}
pub use Rattle.nf_normalized.specs.Change.{under, made_of, form_value, settled_change_at}
pub use Rattle.nf_normalized.specs.Checker.{filter_state, IsOfPiece}
pub use Rattle.nf_filter.specs.Comparing.{same, left}
pub use Rattle.nf_filter.specs.InCommon.{common, goes_on_with}
pub use Rattle.nf_normalized.specs.Places.{PlaceFits, IsAfter}
pub use Rattle.nf_normalized.specs.Holds.{Holds}
pub use Rattle.nf_filter.specs.declared.comparing.Comparing.{Comparing}
pub use Rattle.nf_safe.specs.Place.{place_at}
pub use Rattle.nf_utf8.specs.Ending.{Cut as CutOff}
pub use Rattle.nf_utf8.specs.Laws.{ReadsPieces}
pub use Rattle.nf_utf8.specs.Reads.{EndsAs}
pub use Rattle.ucd_normal.specs.CanonicalCombiningClass.{canonical_combining_class}
unfoldable pub use Rattle.unicode_normalization.proofs.Computing.{unicode_normalization}
