-- The names that most of these proofs cite, passed on from one place. Declares nothing.
pub use Rattle.std.proofs.Common.{rules, ◌≡◌, ◌∙◌, length, ◌++◌, ℕ, refl, List, ap, sym, ◌∷◌, arith, ◌+◌, [], false, ◌<◌, ◌≢◌, ◌≤◌, append_assoc, take, take_at, true, append-nil, eq-eqb, get_or, map, ◌||◌, ◌*◌, ◌-◌}
pub use Rattle.std.specs.Prelude.{IsTrue, IsUtf8, encode_utf8, encode_utf8_all, chars}
pub use Rattle.std.proofs.lemmas.Bool.{ne_eqb, or_parts, cond-true, leb-true}
pub use Rattle.std.proofs.lemmas.Bool.Decides.{nat_tests}
pub use Rattle.std.proofs.lemmas.List.{take_more, take_all, get_or-map, get_or_default, length-append, length-map, nil_from_length}
pub use Rattle.std.proofs.lemmas.Str.{encodes-append, len_utf8_bounds, length-encode, IsCharBoundary-at_seam, IsUtf8-append, IsUtf8-take, chars-append, chars-nil, chars_from_encodes, chars_past_char, encodes-chars, length-le-encodes}
pub use Rattle.std.specs.List.{prefix_len, flat_map}
pub use Rattle.std.proofs.lemmas.List.Folds.{list_any_at, list_any-append}
pub use Rattle.nf_facts.specs.KitForm.{kit_form}
pub use Rattle.nf_facts.specs.Passing.{passes_check, halfwidth_marks, is_among, vowel_signs}
pub use Rattle.nf_forms.specs.Span.{IsSpan, IsMark}
pub use Rattle.nf_forms.specs.Segments.{HasForm, BeginsAtBoundary}
pub use Rattle.nf_forms.specs.Forms.{IsOwnRow, row_of, composes, decomposed, finished, arranged}
pub use Rattle.nf_forms.specs.Compose.{composite, join, joined, replaced}
pub use Rattle.nf_forms.specs.Laws.SegmentForms.{HasForm-span, HasForm-row, span-front, resets_count-lead, own_boundary-boundary, boundary-decomposing}
pub use Rattle.nf_forms.specs.Laws.StreamSafe.{row-own, decomposed-push, longest-le-length}
pub use Rattle.nf_forms.specs.Laws.Sound.{IsSoundText, IsSound-from_test}
pub use Rattle.nf_forms.specs.Boundary.{HasBoundaryBefore, IsBoundary, IsOwnBoundary, NeverSecond}
pub use Rattle.nf_forms.specs.Properties.{is_starter, Properties}
pub use Rattle.nf_forms.specs.Runs.{has_starter, lead, longest, trail}
pub use Rattle.nf_forms.specs.Sound.{is_sound}
unfoldable pub use Rattle.nf_forms.specs.Ucd.{ucd}
pub use Rattle.nf_forms.specs.declared.form.Form.{Form}
pub use Rattle.nf_forms.specs.declared.form.Form.TheVariants.{Nfkd}
pub use Rattle.nf_forms.specs.Laws.Front.{marks_push}
pub use Rattle.nf_forms.specs.Laws.Audited.{flat_map-full, stream_safe-short}
pub use Rattle.ucd_normal.specs.CanonicalCombiningClass.{canonical_combining_class}
pub use Rattle.ucd_normal.specs.QuickCheck.{quick_check}
pub use Rattle.ucd_normal.specs.declared.forms.QuickCheck.TheVariants.{Yes, No}
pub use Rattle.unicode_normalization.proofs.HangulLemmas.{IsLv, IsLvt, compose_hangul-lv, compose_hangul-lvt}
pub use Rattle.unicode_normalization.specs.Hangul.{compose_hangul, is_syllable}
pub use Rattle.nf_boundary.specs.Laws.Held.{held-characters, prefix_len-rising, held-push}
pub use Rattle.nf_boundary.specs.Piece.{Becomes, Fills, Leaves}
pub use Rattle.nf_boundary.specs.Pieces.{Closes, Reaches}
pub use Rattle.nf_boundary.specs.Rows.{IsRow}
pub use Rattle.nf_boundary.specs.Seen.{IsAtBoundary, Sees}
pub use Rattle.nf_boundary.specs.declared.mark.Mark.{Mark}
pub use Rattle.nf_boundary.specs.declared.seen.Seen.{Seen}
pub use Rattle.nf_boundary.specs.Mark.{mark_of, is_rising}
