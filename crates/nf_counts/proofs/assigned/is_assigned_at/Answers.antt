use Rattle.std.proofs.Common.{◌≡◌, ◌+◌, ◌*◌, ◌%◌, ◌≤◌, ◌==◌, ◌++◌, ℕ, not, List, slice_index, drop, encode_utf8, sym, ap, ◌∙◌, arith}
use Rattle.std.specs.Str.{IsUtf8}
use Rattle.std.proofs.lemmas.List.{get_or-drop}
use Rattle.std.proofs.lemmas.Str.{IsUtf8-drop}
use Rattle.nf_forms.specs.Ucd.{is_assigned, ucd}
use Rattle.nf_counts.specs.Counts.{IsValued}
use Rattle.nf_counts.proofs.PieceLemmas.{HasFirst, HasCode, two_spell, three_spell, first_of, four_is, same_code}
use Rattle.nf_counts.proofs.WindowLemmas.{begins_at}
use Rattle.nf_counts.proofs.assigned.is_assigned_at.Goals as goal

byte : (text : List ℕ) (place i : ℕ) → slice_index (drop place text) i ≡ slice_index text (place + i)
byte text place i = get_or-drop place text i 0

module _ (text : List ℕ) (place : ℕ) (u : IsUtf8 text) (lead : 0xC0 ≤ slice_index text place) where
  utf8 : IsUtf8 (drop place text)
  utf8 = IsUtf8-drop text place u (begins_at text place lead)

  first : HasFirst (drop place text)
  first = first_of (drop place text) utf8 (grind (arith, byte text place 0, lead))

  tells : (n code value : ℕ) → HasCode (drop place text) n code → IsValued ucd code value → (c : ℕ) (rest : List ℕ) → drop place text ≡ encode_utf8 c ++ rest → not (value == 8) ≡ is_assigned c
  unfolding ucd
  tells n code value here valued c rest is = sym valued.assigned ∙ ap is_assigned (same_code utf8 here c rest is)

pub returns-then-lead-lt224 : goal.returns-then-lead-lt224
returns-then-lead-lt224 c =
    let bytes = c.as_bytes-bytes.ensures.value in
    let at = byte c.args.text.now c.args.place in
    let here = (first _ _ c.utf8.text c.requires.lead).two (grind (arith, bytes, at 0, c.if-lead-lt224.true)) in
    let is : c.from.result % 32 * 64 + c.from-2.result % 64 ≡ two_spell (drop c.args.place c.args.text.now) = grind (arith, bytes, at 0, at 1) in
    tells _ _ c.utf8.text c.requires.lead 2 _ c.value.result here (rw is at c.value.ensures.valued)

pub returns-then-lead-lt240 : goal.returns-then-lead-lt240
returns-then-lead-lt240 c =
    let bytes = c.as_bytes-bytes.ensures.value in
    let at = byte c.args.text.now c.args.place in
    let here = (first _ _ c.utf8.text c.requires.lead).three (grind (arith, bytes, at 0, c.if-lead-lt224.false)) (grind (arith, bytes, at 0, c.if-lead-lt240.true)) in
    let is : ((c.from.result % 32 * 64 + c.from-2.result % 64) * 64 + c.from-3.result % 64) % 65536 ≡ three_spell (drop c.args.place c.args.text.now) = grind (arith, bytes, at 0, at 1, at 2) in
    tells _ _ c.utf8.text c.requires.lead 3 _ c.value-then-lead-lt240.result here (rw is at c.value-then-lead-lt240.ensures.valued)

pub value-requires-2 : goal.value-requires-2
value-requires-2 c =
    let bytes = c.as_bytes-bytes.ensures.value in
    let at = byte c.args.text.now c.args.place in
    let here = (first _ _ c.utf8.text c.requires.lead).four (grind (arith, bytes, at 0, c.if-lead-lt240.false)) in
    let is = four_is (drop c.args.place c.args.text.now) c.from.result c.from-2.result c.from-3.result c.from-4.result (grind (arith, bytes, at 0)) (grind (arith, bytes, at 1)) (grind (arith, bytes, at 2)) (grind (arith, bytes, at 3)) in
    rw is here.fits

pub returns : goal.returns
returns c =
    let bytes = c.as_bytes-bytes.ensures.value in
    let at = byte c.args.text.now c.args.place in
    let here = (first _ _ c.utf8.text c.requires.lead).four (grind (arith, bytes, at 0, c.if-lead-lt240.false)) in
    let is = four_is (drop c.args.place c.args.text.now) c.from.result c.from-2.result c.from-3.result c.from-4.result (grind (arith, bytes, at 0)) (grind (arith, bytes, at 1)) (grind (arith, bytes, at 2)) (grind (arith, bytes, at 3)) in
    tells _ _ c.utf8.text c.requires.lead 4 _ c.value-2.result here (rw is at c.value-2.ensures.valued)
