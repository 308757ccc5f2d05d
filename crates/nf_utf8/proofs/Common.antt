-- The names that most of these proofs cite, passed on from one place. Declares nothing.
pub use Rattle.std.proofs.Common.{w64, ◌≡◌, ℕ, ◌+◌, ◌%◌, ◌^◌, ◌<◌, ◌≤◌, Bool, false, not, cond, leb, List, map, length, take, get_or, sym, ap, ◌∙◌, ⊎_elim, arith, length-take-le, suc, true, nat_lt, [], ◌∷◌, ◌++◌, drop, Option, Some, None, unwrap_or, IsUtf8, subst, take-append-drop, length-drop, take-take, take_all, ◌-◌, ◌||◌, nat_le, bit_or, replicate, encode_utf8, encode_utf8_all, refl, take-add, chars, ◌==◌, length-append, append-nil, append_assoc, length-take, add-one, zero, inl, inr, ◌&&◌, take_at, drop_at, w8}
pub use Rattle.std.proofs.Math.Seq.{take-append-add, drop-append-add}
pub use Rattle.std.proofs.iter.FirstChar.{no_text, after_text}
pub use Rattle.std.proofs.lemmas.Bool.{leb-true, le-ltb, cond_both, ne_eqb, eqb-true}
pub use Rattle.std.proofs.lemmas.Bool.Decides.{nat_tests}
pub use Rattle.std.proofs.lemmas.List.{length-map, get_or_past, get_or-take, take_rest, map-append, drop_all, drop-drop, drop-append-le, append_cancel_left, take-append-le, nil_from_length, length_push, same_from_push}
pub use Rattle.std.proofs.lemmas.Simd.{mask_l-mod, bit_mask_l, length-chunk, trailing_mask_l, run_in_chunk_fails, run_in_chunk_stops, none_from_empty_mask, zip2_of_maps, zip2_splat, zip2_splat_left, map-map, ones-mask_l, tops_compared}
pub use Rattle.std.proofs.lemmas.Str.{IsUtf8-nil, encodes-chars, IsUtf8-from_ascii, chars-IsAscii, encodes-append, utf8_lossy-IsUtf8, utf8_lossy_step, utf8_lossy_empty, chars-append, chars-encodes, length-le-encodes, IsUtf8-append, scalars-chars, IsUtf8-encode, utf8_valid_len-IsUtf8, chars-nil}
pub use Rattle.std.proofs.str.Classes.{width_is}
pub use Rattle.std.proofs.str.Laws.{order, one, two, three, four, scalars-append}
pub use Rattle.std.proofs.str.Lossy.{utf8_error_len-nil, utf8_error_len_some, utf8_invalid_len_pos, IsUtf8-from_is_utf8, is_utf8-from_IsUtf8}
pub use Rattle.std.proofs.str.Valid.{of_one, of_two, of_three, of_four, longer}
pub use Rattle.std.specs.Char.{IsScalar}
pub use Rattle.std.specs.Fmt.{is_char_start}
pub use Rattle.std.specs.Int.{IsInRange, is_in_range}
pub use Rattle.std.specs.List.{prefix_len, count_by}
pub use Rattle.std.specs.Str.{IsAscii, StartsWithNoChar}
unfoldable pub use Rattle.std.specs.Str.Lossy.{utf8_valid_len}
pub use Rattle.std.specs.Str.Lossy.{utf8_error_len, error_len_of_some, error_len_after_one, error_len_after_two, error_len_of_some, utf8_lossy, utf8_invalid_len, replacement_bytes, second_byte_min, valid_len_up_to}
pub use Rattle.nf_utf8.specs.Carry.{bytes_of}
pub use Rattle.nf_utf8.specs.Ending.{Ending, Whole, Bad, Cut, moved, Whole as IsWhole, Cut as IsCut, Bad as IsBad}
pub use Rattle.nf_utf8.specs.Front.{IsFront, Completes, CanEnd, EndsBy}
pub use Rattle.nf_utf8.specs.Left.{decoded_under, IsLeft, ReadsNext}
pub use Rattle.nf_utf8.specs.Lossy.{IsStretch}
pub use Rattle.nf_utf8.specs.Subpart.{IsSecond, IsContinuation, IsSubpart}
unfoldable pub use Rattle.nf_utf8.specs.Reading.{ending_of, text_of, rest_of}
pub use Rattle.nf_utf8.specs.Reading.{text_len, subpart_len, begun_len}
unfoldable pub use Rattle.nf_utf8.specs.Replaced.{decoded_of, replaced, replaced_whole}
pub use Rattle.nf_utf8.specs.Replaced.{Decoded, replacement, decoded_text, subpart_end, begun_at_end, decoded_after_text, decoded_within, bytes_in}
pub use Rattle.nf_utf8.specs.Standing.{Answers, StandsAfter, bytes_after, ending_at}
pub use Rattle.nf_utf8.specs.Taking.{first_text, Takes, first_bytes, IsFirst, EndsPiece, end_holding, bytes_after_piece, Counts}
pub use Rattle.nf_utf8.specs.Text.{BeginsText, IsText}
pub use Rattle.nf_utf8.specs.declared.chunk.End.{End}
pub use Rattle.nf_utf8.specs.declared.front.Front.TheVariants.{Begun, Bad as BadFront}
pub use Rattle.nf_utf8.specs.declared.step.Step.{Step}
pub use Rattle.nf_utf8.specs.declared.step.Step.TheVariants.{More, Char, Bad as BadByte}
pub use lib.Lanes.{chunk, mask_l, zip2, top}
