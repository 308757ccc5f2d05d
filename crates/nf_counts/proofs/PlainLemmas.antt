-- What pairs of bytes tell of a character is what the table has, shown by one computation; and what they tell of a text.
use Rattle.std.proofs.Common.{◌≡◌, ℕ, ◌+◌, ◌-◌, ◌%◌, ◌<◌, ◌≤◌, ◌==◌, nat_lt, not, ⊎_elim, true, cond, List, [], ◌∷◌, ◌++◌, length, slice_index, take, drop, refl, sym, ◌∙◌, arith, add_assoc, append-nil, append_assoc, length-append, eqb-true, length-drop, length-take-le, take-append-drop}
use Rattle.std.specs.Prelude.{All, chars, encode_utf8_all}
use Rattle.std.specs.Str.{IsUtf8, IsCharBoundary}
use Rattle.std.proofs.lemmas.Bool.Decides.{nat_tests}
use Rattle.std.proofs.lemmas.List.{drop-drop, get_or-drop}
use Rattle.std.proofs.lemmas.List.Elements.{All-head, All-tail, All-weaker}
use Rattle.std.proofs.lemmas.List.Folds.{list_all-append}
use Rattle.std.proofs.lemmas.List.Sums.{sum_by-append, list_all-from_AllPass}
use Rattle.std.proofs.lemmas.Str.{length-le-encodes, encodes-append, encodes-chars, IsUtf8-drop, IsUtf8-take}
use Rattle.ucd_table.specs.Trie.{block_value}
use Rattle.ucd_table.proofs.TrieCheck.{all_below, all_below-at}
use Rattle.nf_forms.specs.Forms.{decomposed}
use Rattle.std.proofs.str.Laws.{order}
use Rattle.nf_forms.specs.Laws.StreamSafe.{decomposed-append}
use Rattle.nf_counts.proofs.PieceLemmas.{rest_is}
use Rattle.nf_forms.specs.Laws.Runs.{has_starter-append, lead-append, trail-append, longest-append, lead-marks, trail-marks}
use Rattle.nf_forms.specs.Properties.{Properties, is_nonstarter}
use Rattle.nf_forms.specs.Sound.{is_sound}
use Rattle.nf_forms.specs.declared.form.Form.TheVariants.{Nfkd}
use Rattle.nf_forms.specs.Ucd.{ucd}
use Rattle.nf_lanes.specs.Looks.{is_in}
use Rattle.nf_lanes.proofs.LooksLemmas.{Known, Tells, TellsOf, ScriptsTell, by_pairs, by_scripts, either, told_front}
use Rattle.nf_counts.specs.Counts.{HasValue, IsValued, unassigned_in}
use Rattle.nf_counts.specs.Piece.{IsPiece}
use Rattle.nf_counts.specs.declared.piece.Piece.{Piece}
use Rattle.nf_counts.specs.Window.{AreTold, IsTold}
use Rattle.nf_counts.specs.declared.scripts.TheConstants.{SCRIPTS, WIDE}
use Rattle.nf_counts.specs.declared.rows.TheConstants.{INDEX, WORDS}
use Rattle.nf_counts.proofs.Told.{told, told-ascii, told-valued, told-block}

-- what a value is after starters that count nothing
abbrev pub after_plain : ℕ → ℕ
after_plain n = cond (nat_lt n 8) (n % 4) n

value-append : (p : Properties) (w v : List ℕ) (n : ℕ) → HasValue p w 0 → HasValue p v n → HasValue p (w ++ v) (after_plain n)
value-append p w v n first next =
    let marks = sum_by-append (λ d. cond (is_nonstarter p d) 1 0) w v in
    grind (arith, nat_tests, order n 8, has_starter-append p w v, lead-append p w v, trail-append p w v, longest-append p w v, lead-marks p v, trail-marks p v, marks)

module _ (p : Properties) where
  abbrev is_plain : ℕ → Type 0
  is_plain c = IsValued p c 0

  value-plain : (cs : List ℕ) → 0 < length (encode_utf8_all cs) → All is_plain cs → HasValue p (decomposed Nfkd p cs) 0
  value-plain [] some plain = absurd (omega arith)
  value-plain (c ∷ []) some plain = rw append-nil (All-head is_plain c [] plain).row
  value-plain (c ∷ d ∷ cs) some plain =
      let others = d ∷ cs in
      value-append p (p.compat c) _ 0 (All-head is_plain c others plain).row (value-plain (d ∷ cs) (omega (arith, length-le-encodes others)) (All-tail is_plain c others plain))

  none_unassigned : (cs : List ℕ) → All is_plain cs → unassigned_in p cs ≡ 0
  none_unassigned [] plain = refl
  none_unassigned (c ∷ cs) plain = rw ((All-head is_plain c cs plain).assigned) (none_unassigned cs (All-tail is_plain c cs plain))

module _ (sound : (c : ℕ) → is_sound ucd c ≡ true) where
  plain_of : (c : ℕ) → told c ≡ 0 → IsValued ucd c 0
  plain_of c e = told-valued c (sound c) 0 (sym e) refl

  known : Known 0xC0 0x80 (λ c. IsValued ucd c 0)
  unfolding all_below block_value
  known = record {
    whole = λ b. slice_index INDEX b == 0;
    is = λ b j. block_value 4 4 WORDS (slice_index INDEX b) j == 0;
    -- the first block is of 0 alone
    in_block = λ b j small little zero.
        plain_of _ (sym (told-block b j (omega (arith, small)) little) ∙ rw (eqb-true _ 0 zero) (eqb-true _ 0 (all_below-at (λ j. block_value 4 4 WORDS 0 j == 0) 64 j refl little)));
    in_place = λ b j small little here. plain_of _ (sym (told-block b j (omega (arith, small)) little) ∙ eqb-true _ 0 here);
    below = λ c low. plain_of c (told-ascii c low);
    ascii = omega arith;
    of_low = omega arith;
    is_low = omega arith;
  }

  -- so is a character that a family does not find
  of_pairs : Tells _ _ _ known (is_in WIDE)
  unfolding all_below block_value known
  of_pairs = record { of_two = refl; of_three = refl; of_four = refl }

  of_scripts : ScriptsTell _ _ _ known SCRIPTS
  unfolding all_below block_value known
  of_scripts = record { narrow = record { of_two = refl; of_three = refl; of_four = refl }; indic = refl; southern = refl; thai = refl; letters = refl; kana = refl }

  tells : TellsOf 0x80 (λ c. IsValued ucd c 0) IsTold
  tells = either _ _ _ _ (by_pairs _ _ _ known (is_in WIDE) of_pairs) (by_scripts _ _ _ known SCRIPTS of_scripts)

  -- characters of which none is looked up are a piece of the value 0
  pub plain_piece : (text : List ℕ) (len : ℕ) → IsUtf8 text → IsCharBoundary text len → 0 < len → AreTold text 0 len → IsPiece ucd text record { len = len; value = 0 }
  plain_piece text len u boundary some none =
      let cs = chars (take len text) in
      let same : encode_utf8_all cs ≡ take len text = encodes-chars _ (IsUtf8-take text len u boundary) in
      let long : length (encode_utf8_all cs) ≡ len = rw same (length-take-le len text boundary.0) in
      let plain = told_front _ _ _ known IsTold tells text len len u boundary (omega arith) (λ k inside. none k (omega arith) inside) in
      record {
        chars = cs;
        begins = record { rest = drop len text; split = rw (same, take-append-drop); rest_utf8 = IsUtf8-drop text len u boundary; is_long = sym long };
        some = some;
        within = omega arith;
        sound = list_all-from_AllPass (is_sound ucd) cs (All-weaker (λ c. IsValued ucd c 0) (λ c. is_sound ucd c ≡ true) (λ c valued. valued.sound) cs plain);
        unassigned = none_unassigned ucd cs plain;
        row = value-plain ucd cs (omega (arith, long)) plain;
      }

  -- and after it another
  both : (text : List ℕ) (at place : ℕ) (piece : Piece) → IsPiece ucd (drop at text) record { len = place - at; value = 0 } → IsPiece ucd (drop place text) piece → at < place
      → IsPiece ucd (drop at text) record { len = place - at + piece.len; value = after_plain piece.value }
  both text at place piece plain next some =
      let is : at + (place - at) ≡ place = omega (arith, some) in
      let rest : drop (place - at) (drop at text) ≡ drop place text = rw (drop-drop, is) refl in
      record {
        chars = plain.chars ++ next.chars;
        begins = record {
          rest = next.begins.rest;
          split = rw (encodes-append, append_assoc, ← next.begins.split, ← rest, rest_is _ _ _ plain.begins) plain.begins.split;
          rest_utf8 = next.begins.rest_utf8;
          is_long = rw (encodes-append, length-append) (omega arith);
        };
        some = omega arith;
        within = grind (arith, next.within);
        sound = rw (list_all-append, plain.sound, next.sound);
        unassigned = grind (arith, nat_tests, plain.unassigned, next.unassigned, sum_by-append (λ d. cond (not (ucd.assigned d)) 1 0) plain.chars next.chars);
        row = rw decomposed-append (value-append ucd _ _ piece.value plain.row next.row);
      }

  pub piece_between : (text : List ℕ) (at place : ℕ) → IsUtf8 text → IsCharBoundary text at → IsCharBoundary text place → at < place → AreTold text at place
      → IsPiece ucd (drop at text) record { len = place - at; value = 0 }
  piece_between text at place u from to some none =
      let is : at + (place - at) ≡ place = omega (arith, some) in
      plain_piece (drop at text) (place - at) (IsUtf8-drop text at u from) (simp (length-drop, get_or-drop, is) (omega (arith, to.0), λ inside. to.1 (omega arith))) (omega (arith, some)) (λ k _ inside high.
      simp (get_or-drop, ← add_assoc) (none (at + k) (omega arith) (omega (arith, inside, some)) (rw get_or-drop at high)))

  pub piece_with : (text : List ℕ) (at place : ℕ) (piece : Piece) (value : ℕ) → IsUtf8 text → IsCharBoundary text at → IsCharBoundary text place → at ≤ place → AreTold text at place → IsPiece ucd (drop place text) piece
      → (place ≤ at → value ≡ piece.value) → (at < place → value ≡ after_plain piece.value) → IsPiece ucd (drop at text) record { len = place - at + piece.len; value = value }
  piece_with text at place piece value u from to order_is none next alone after =
      ⊎_elim
      (λ same.
      let is : at ≡ place = omega (arith, same, order_is) in
      let len : place - at + piece.len ≡ piece.len = omega (arith, is) in
      rw (len, alone (omega (arith, same)), is) next)
      (λ some. let less : at < place = omega (arith, some) in rw (after less) (both text at place piece (piece_between text at place u from to less none) next less))
      (order place (at + 1))
