-- Where the reading of bytes stands, for what takes their text.
use Rattle.nf_filter.proofs.Common.{encode_utf8_all, ◌≡◌, ℕ, ◌+◌, ◌-◌, Bool, false, List, [], ◌++◌, length, Some, None, Err, refl, arith, nat_tests, append-nil, nil_from_length, Option, Result, chars, length-drop, result_map_both, utf8_valid_len_le, Ending, Whole, text_of, rest_of, ending_of, DecoderStandsAfter, Fault, Reading, bad_byte, answer_at_end, Survey, Decides, decided_in, HasSurveyed, ReadsText, ReadsOn, HasRead, IsLeft, sym, ◌∙◌, text_under-none, ⊎_elim, cases_Bool, bad_under, text_under}
use Rattle.std.specs.Prelude.{IsNone}
use Rattle.nf_utf8.specs.declared.decoder.Decoder.{Decoder}
use Rattle.nf_utf8.proofs.LeftLemmas.{IsLeft-all, IsLeft-more, IsLeft-join}
use Rattle.nf_filter.proofs.PieceLemmas.{left-text, left-bad, left-end, begun-text, begun-good}

-- no bytes spell nothing
pub text_of-none : text_of [] ≡ []
text_of-none = text_under-none false

pub ending_of-none : ending_of [] ≡ Whole
unfolding ending_of
ending_of-none = grind (arith, nat_tests, utf8_valid_len_le [])

-- a new decoder holds nothing
pub holds_nothing : (decoder : Decoder) → DecoderStandsAfter decoder [] → length decoder ≡ 0
unfolding rest_of
holds_nothing decoder stands = grind (arith, stands.rest, length-drop)

pub holds_none : (decoder : Decoder) → DecoderStandsAfter decoder [] → decoder ≡ []
holds_none decoder stands = nil_from_length decoder (holds_nothing decoder stands)

-- an answer at the end, by another that differs in the value alone
pub end_is : {T : Type 0} (base : ℕ) (value : T) (ending : Ending) (end : Result (Unit {0}) Fault) → end ≡ answer_at_end base (tt {0}) ending
    → result_map_both (λ _. value) (λ fault. fault) end ≡ answer_at_end base value ending
end_is base value Whole end is = rw is
end_is base value _ end is = rw is

-- nothing was read
pub new-read : (r : Bool) (base : ℕ) (reading : Reading) → reading.offset ≡ base → reading.decoder ≡ [] → HasRead r base reading [] [] []
new-read r base reading offset none = record { n = 0; left = rw none (IsLeft-all r []); begun = rw none tt; offset = rw none (omega arith) }

module _ {T : Type 0} {stands : List ℕ → Type 0} {decides : List ℕ → Option (Result T Fault)} {value : List ℕ → T} {survey : Survey T} {reading : Reading} where
  -- and a text of no characters decides nothing
  pub HasSurveyed-none : reading.offset ≡ survey.base → DecoderStandsAfter reading.decoder [] → stands [] → decides [] ≡ None
      → ((bytes : List ℕ) → survey.decision bytes ≡ decided_in decides survey.base bytes) → ((bytes : List ℕ) → survey.value bytes ≡ value (text_of bytes)) → HasSurveyed stands decides value survey reading []
  HasSurveyed-none offset decoder taken undecided decides worth = record {
    reads = record { before = []; read = new-read false survey.base reading offset (holds_none reading.decoder decoder); taken = taken };
    decides = decides;
    worth = worth;
    undecided = rw (decides [], text_of-none, ending_of-none, undecided);
  }

module _ {stands : List ℕ → Type 0} {base : ℕ} {reading : Reading} {bytes rest : List ℕ} (reads : ReadsText stands base reading bytes rest) where
  -- where its text goes on
  pub reads-at : reading.offset - length reading.decoder ≡ base + length (encode_utf8_all reads.before)
  reads-at = omega (arith, reads.read.offset, reads.read.left.own refl)

  -- what they decide is decided by the text that was taken and what comes after it
  pub reads-decides : {T : Type 0} (decides : List ℕ → Option (Result T Fault)) (text : List ℕ) {left : List ℕ} {m : ℕ} {answer : Result T Fault} → IsLeft false (reading.decoder ++ rest) (chars text) m left
      → Decides decides (reads.before ++ chars text) answer → decided_in decides base bytes ≡ Some answer
  reads-decides decides text {left = left} after decided = rw (left-text (IsLeft-join reads.read.left after), decided (text_of left)) refl

  -- or by a bad byte
  pub reads-bad : {T : Type 0} (decides : List ℕ → Option (Result T Fault)) {fault : Fault} → decides reads.before ≡ None → text_of (reading.decoder ++ rest) ≡ []
      → Some fault ≡ bad_byte (reading.offset - length reading.decoder) (ending_of (reading.decoder ++ rest)) → decided_in decides base bytes ≡ Some (Err fault)
  reads-bad decides undecided none told =
      let here : reading.offset - length reading.decoder ≡ base + reads.read.n = omega (arith, reads.read.offset) in
      rw (left-text reads.read.left, none, append-nil reads.before, undecided, left-bad reads.read.left base, ← here, ← told) refl

-- all of the bytes were read
module _ {r : Bool} {base : ℕ} {reading : Reading} {bytes x : List ℕ} (read : HasRead r base reading bytes [] x) where
  pub left_is : IsLeft r bytes x read.n reading.decoder
  left_is = rw (append-nil reading.decoder) at read.left

  -- the text that was read
  pub read-text : text_under r bytes ≡ x
  read-text = rw (begun-text reading.decoder read.begun r, append-nil x) at (left-text left_is)

  -- which has no bad byte
  pub read-good : bad_under r base bytes ≡ None
  read-good = left-bad left_is base ∙ ⊎_elim (λ e. rw e) (λ e. rw e (begun-good reading.decoder read.begun (base + read.n))) (cases_Bool r)

  pub read-end : r ≡ false → answer_at_end base (tt {0}) (ending_of bytes) ≡ answer_at_end (base + read.n) (tt {0}) (ending_of reading.decoder)
  read-end strict = left-end left_is strict base

  -- a piece more is to be read
  pub read-more : (piece : List ℕ) → HasRead r base reading (bytes ++ piece) piece x
  read-more piece = record { n = read.n; left = IsLeft-more piece left_is; begun = read.begun; offset = read.offset }

-- what a piece more decides
module _ {T : Type 0} {stands : List ℕ → Type 0} {decides : List ℕ → Option (Result T Fault)} {value : List ℕ → T} {survey : Survey T} {reading : Reading} {bytes : List ℕ} (before : HasSurveyed stands decides value survey reading bytes) where
  pub surveyed-on : {taken : List ℕ → Type 0} {now : Reading} (piece : List ℕ) (r : Option (Result T Fault)) → ReadsOn taken decides survey.base now (bytes ++ piece) [] r → ((x : List ℕ) → taken x → decides x ≡ None)
      → (r ≡ survey.decision (bytes ++ piece)) × (IsNone r → HasSurveyed taken decides value survey now (bytes ++ piece))
  surveyed-on piece (Some answer) told undecided = (sym (before.decides (bytes ++ piece) ∙ told), λ none. cc)
  surveyed-on piece None reads undecided =
      let none = before.decides (bytes ++ piece) ∙ rw (read-text reads.read, undecided reads.before reads.taken, read-good reads.read) refl in
      (sym none, λ _. record { reads = reads; decides = before.decides; worth = before.worth; undecided = none })
