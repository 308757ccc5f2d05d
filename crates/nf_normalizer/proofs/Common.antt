-- The names that most of these proofs cite, passed on from one place. Declares nothing.
pub use Rattle.std.proofs.Common.{◌≡◌, ℕ, ◌-◌, ◌<◌, true, List, [], ◌∷◌, ◌++◌, length, take, get_or, refl, sym, ap, ◌∙◌, arith, append_assoc, encode_utf8_all, IsAscii, length-append, ◌+◌, ◌≤◌, Bool, false, Ok, Err, drop, Result, IfOk, inl, inr, append-nil, encode_utf8, IsUtf8, chars, take-append-drop, ⊎_elim, rules, ◌⊎◌, length-take, get_or-drop, length-drop, ◌*◌}
pub use Rattle.std.proofs.lemmas.Bool.{and_from, ltb-false}
pub use Rattle.std.proofs.lemmas.List.{take_more, length-take-le, nil_from_length}
pub use Rattle.std.proofs.lemmas.Str.{encodes-append, encodes-IsAscii, IsAscii-take, chars-nil, chars-append, chars-IsAscii, encodes-chars, IsUtf8-from_ascii, chars_past_char, length-encode, len_utf8_bounds, length-le-encodes, IsCharBoundary-from_take}
pub use Rattle.nf_forms.specs.Forms.{decomposed, finished, row_of}
pub use Rattle.nf_forms.specs.Front.{front, back}
pub use Rattle.nf_forms.specs.Laws.Runs.{trail-push, lead-marks, lead-le-length, trail-marks, has_starter-append, lead-append, trail-le-length}
pub use Rattle.nf_forms.specs.Laws.Sound.{IsSoundText, JoinerIsPlain, IsSound, IsSound-from_test, JoinerIsPlain-from_sound}
pub use Rattle.nf_forms.specs.Laws.StreamSafe.{decomposed-append, stream_safe-push, decomposed-push}
pub use Rattle.nf_forms.specs.Properties.{Properties, is_nonstarter}
pub use Rattle.nf_forms.specs.Runs.{trail, has_starter, lead}
unfoldable pub use Rattle.nf_forms.specs.SafeForm.{safe_form}
pub use Rattle.nf_forms.specs.Sound.{is_sound}
pub use Rattle.nf_forms.specs.StreamSafe.{stream_safe, joiner, max_run, is_too_long, with_room}
pub use Rattle.nf_forms.specs.declared.form.Form.{Form}
pub use Rattle.nf_forms.specs.declared.form.Form.TheVariants.{Nfkd, Nfc, Nfd}
pub use Rattle.nf_normalizer.specs.Front.{Joins, Stands, one_if, Leaves, Passes, StepsTo, Refuses, Takes}
pub use Rattle.nf_normalizer.specs.Laws.Settled.{is_usable-push, is_usable-none}
pub use Rattle.nf_normalizer.specs.Normalizer.{HasTaken, settled_text, IsWithin, HasRoom, run_after, front_utf8, Pushes, PutsJoiner, MakesRoom, TakesChar}
pub use Rattle.nf_normalizer.specs.Room.{Start, Holds}
unfoldable pub use Rattle.nf_normalizer.specs.Settled.{settled, is_usable}
pub use Rattle.nf_normalizer.specs.declared.normalizer.Normalizer.{Normalizer}
pub use Rattle.nf_pending.specs.StandsAfter.{StandsAfter as PendingStandsAfter, run_len, StandsAfter}
pub use Rattle.nf_pending.specs.declared.pending.Pending.{Pending}
