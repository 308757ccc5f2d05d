-- What a filter that is fed a text tells of it, by what it writes.
use Rattle.nf_normalized.proofs.Common.{bytes_eq-Decides, ◌≡◌, ℕ, ◌+◌, ◌*◌, ◌≤◌, Bool, List, [], ◌∷◌, ◌++◌, length, refl, sym, ap, ◌∙◌, arith, length-append, None, Err, option_map, encode_utf8_all, take_at, encodes-append, length-encode, len_utf8_bounds, ucd, Form, front, back, safe_form, front-append-back, IsText, text_of, ending_of, ReadsLongestText, ReplacesSubparts, fault_in, bad_byte, base_of, settled, usable, settled_utf8, under, made_of, form_decision, Holds}
use Rattle.nf_filter.specs.Laws.Soundness.{AreSound}
use Rattle.nf_filter.proofs.PolicyLemmas.{first_fault-none, taken, taken_whole, taken-all}
use Rattle.nf_filter.proofs.SoundnessLemmas.{usable_is}
use Rattle.nf_filter.specs.declared.filter.State.{State}
use Rattle.nf_filter.specs.Policy.{allowed}
use Rattle.nf_normalized.proofs.BytesLemmas.{Known, scalars_front, scalars_take}

-- ---- texts

taken_scalars : (assigned : Bool) (x : List ℕ) → IsText x → IsText (usable ucd (allowed assigned ucd x))
unfolding usable
taken_scalars assigned x scalars = grind (arith, scalars_take)

abbrev pub written : Bool → Form → List ℕ → List ℕ
written assigned f bytes = settled_utf8 (under assigned) f ucd bytes

pub written_is : (assigned : Bool) (f : Form) (bytes : List ℕ) → written assigned f bytes ≡ encode_utf8_all (made_of assigned f (text_of bytes))
unfolding settled_utf8
written_is assigned f bytes = refl

-- ---- what is settled, and what was read

module _ (known : Known) (assigned : Bool) (f : Form) (bytes : List ℕ) where
  pub is_text : IsText (made_of assigned f (text_of bytes))
  unfolding settled
  is_text =
      let form = safe_form f ucd (usable ucd (allowed assigned ucd (text_of bytes))) in
      scalars_front (front ucd form) (back ucd form) (rw front-append-back ((known.once f).text _ (taken_scalars assigned (text_of bytes) (known.split.scalars bytes))))

  -- the text of bytes that go on after what is settled of some
  pub after : (more : List ℕ) → text_of (written assigned f bytes ++ more) ≡ made_of assigned f (text_of bytes) ++ text_of more
  after more = grind (arith, written_is, known.back.text (made_of assigned f (text_of bytes)) more is_text)

  -- where all that is settled was read, what was read decides no more than a fault
  pub alike : (base : ℕ) (left : List ℕ) → bytes ≡ written assigned f bytes ++ left → form_decision assigned f base bytes ≡ option_map Err (fault_in (under assigned) ucd base bytes)
  unfolding form_decision
  alike base left read = grind (arith, bytes_eq-Decides, ap text_of read, after left, take_at)

-- ---- no fault

pub no_fault_parts : AreSound ucd → (assigned : Bool) (base : ℕ) (bytes : List ℕ) → fault_in (under assigned) ucd base bytes ≡ None
    → (allowed assigned ucd (text_of bytes) ≡ text_of bytes) × (bad_byte base (ending_of bytes) ≡ None)
unfolding fault_in
no_fault_parts sound assigned base bytes none =
    let all = (taken_whole ucd assigned (text_of bytes) (taken ucd assigned _ (text_of bytes) _ none)).1 in
    (all, sym (first_fault-none ucd assigned _ (text_of bytes) _ (usable_is ucd sound (text_of bytes)) all) ∙ none)

-- ---- where a filter stands

-- little is held
pub held_few : Known → {assigned : Bool} {f : Form} {state : State} {held bytes : List ℕ} → Holds assigned f state held bytes
    → ReadsLongestText → ReplacesSubparts → AreSound ucd → ((f : Form) (x u : List ℕ) → x ≡ settled f ucd x ++ u → length u ≤ 78) → length held ≤ 315
held_few known {assigned} {f} {state} {held} {bytes} holds longest replacing sound kept =
    let parts = no_fault_parts sound assigned (base_of state) bytes holds.filter.no_fault in
    let all = taken-all ucd assigned (text_of bytes) (usable_is ucd sound (text_of bytes)) parts.0 in
    -- less than a character stands after the text
    let few : length bytes ≤ length (encode_utf8_all (text_of bytes)) + 3 =
    grind (arith, parts, (longest.reads bytes).end, replacing.few bytes, replacing.begun bytes, replacing.own_len (text_of bytes)) in
    grind (arith, kept f (text_of bytes) (text_of held), ap text_of holds.split, after known assigned f bytes held, all, few, ap length holds.split, encodes-append, written_is, length-append, four (text_of held))
  where
    four : (x : List ℕ) → length (encode_utf8_all x) ≤ 4 * length x
    four [] = omega arith
    four (c ∷ x) = grind (arith, length-append, length-encode, len_utf8_bounds, four x)
