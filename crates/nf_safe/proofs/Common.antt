-- The names that most of these proofs cite, passed on from one place. Declares nothing.
pub use Rattle.std.proofs.Common.{◌≡◌, ℕ, ◌+◌, ◌≤◌, Bool, true, false, not, List, [], ◌∷◌, ◌++◌, length, Some, None, is_some, encode_utf8, encode_utf8_all, refl, sym, ap, ◌∙◌, arith, append-nil, append_assoc, if◌then◌else◌, length-append, ◌==◌, cond, subst, count_by, max, rules, option_map, take}
pub use Rattle.std.proofs.lemmas.Bool.{cond-true, cond-false, and_parts, and_from}
pub use Rattle.std.proofs.lemmas.List.Sums.{sum_by-append}
pub use Rattle.std.proofs.lemmas.Str.{encodes-append}
pub use Rattle.nf_forms.specs.Forms.{decomposed}
pub use Rattle.nf_forms.specs.Laws.Sound.{IsSoundText, IsSound-from_test, JoinerIsPlain-from_sound}
pub use Rattle.nf_forms.specs.Laws.Starters.{longest-order}
pub use Rattle.nf_forms.specs.Laws.StreamSafe.{stream_safe-push, decomposed-append, decomposed-push, sound-stream_safe}
pub use Rattle.nf_forms.specs.Properties.{Properties, is_nonstarter}
pub use Rattle.nf_forms.specs.Runs.{trail, lead, longest}
pub use Rattle.nf_forms.specs.Sound.{is_sound}
pub use Rattle.nf_forms.specs.StreamSafe.{joiner, is_too_long, stream_safe, max_run}
pub use Rattle.nf_forms.specs.declared.form.Form.TheVariants.{Nfkd}
pub use Rattle.nf_safe.specs.Count.{passes, count_step}
pub use Rattle.nf_safe.specs.Laws.Count.{count_step-within, trail-decomposed-counted, trail-decomposed-safe_step, trail-since_last-push, trail-stream_safe}
pub use Rattle.nf_safe.specs.Laws.Pieces.{length-stream_safe-ge, stream_safe-in_format, in_format-unchanged}
pub use Rattle.nf_safe.specs.Laws.Place.{is_in_format-push, is_in_format-join, is_in_format-short, place_from-in_format, place_from-at, place_from-stays, place_from-none, is_in_format-none, is_in_format-stream_safe, is_in_format-take, place-in_format}
pub use Rattle.nf_safe.specs.Place.{is_in_format, place_from, place_at}
pub use Rattle.nf_safe.specs.Runs.{HasRuns}
pub use Rattle.nf_safe.specs.declared.runs.Runs.{Runs}
