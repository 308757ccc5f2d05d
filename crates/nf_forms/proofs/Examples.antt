-- The worked examples, computed from the definitions.
use Rattle.std.specs.Prelude.{◌≡◌, ◌==◌, ◌&&◌, [], ◌∷◌, ◌++◌, Some, true, refl, replicate, if◌then◌else◌}
use Rattle.nf_forms.specs.Properties.{Properties}
use Rattle.nf_forms.specs.declared.form.Form.TheVariants.{Nfc, Nfkd}
use Rattle.nf_forms.specs.Order.{by_class}
use Rattle.nf_forms.specs.Forms.{normal_form}
use Rattle.nf_forms.specs.StreamSafe.{stream_safe}
use Rattle.nf_forms.specs.Front.{front}
use Rattle.nf_forms.specs.Sound.{is_sound}
use Rattle.nf_forms.specs.Ucd.{ucd}
use Rattle.unicode_normalization.proofs.Computing.{unicode_normalization}

process_first : normal_form Nfc ucd (stream_safe ucd (0x71 ∷ replicate 30 0x301 ++ 0x323 ∷ [])) ≡ 0x71 ∷ replicate 30 0x301 ++ 0x34F ∷ 0x323 ∷ []
unfolding by_class ucd unicode_normalization
process_first = refl

two_marks_in_one : stream_safe ucd (0x71 ∷ replicate 29 0x301 ++ 0x344 ∷ []) ≡ 0x71 ∷ replicate 29 0x301 ++ 0x34F ∷ 0x344 ∷ []
unfolding by_class ucd unicode_normalization
two_marks_in_one = refl

halfwidth : stream_safe ucd (replicate 31 0xFF9E) ≡ replicate 30 0xFF9E ++ 0x34F ∷ 0xFF9E ∷ []
unfolding by_class ucd unicode_normalization
halfwidth = refl

ligature_settles : front ucd (normal_form Nfkd ucd (0xFDFA ∷ [])) ≡ 0x635 ∷ 0x644 ∷ 0x649 ∷ 0x20 ∷ 0x627 ∷ 0x644 ∷ 0x644 ∷ 0x647 ∷ 0x20 ∷ 0x639 ∷ 0x644 ∷ 0x64A ∷ 0x647 ∷ 0x20 ∷ 0x648 ∷ 0x633 ∷ 0x644 ∷ []
unfolding by_class ucd unicode_normalization
ligature_settles = refl

after_decomposed : stream_safe ucd (0xC5 ∷ replicate 30 0x301) ≡ 0xC5 ∷ replicate 29 0x301 ++ 0x34F ∷ 0x301 ∷ []
unfolding by_class ucd unicode_normalization
after_decomposed = refl

sound_halfwidth : is_sound ucd 0xFF9E ≡ true
unfolding ucd unicode_normalization
sound_halfwidth = refl

-- made-up composites: a and b make c, c and d make e
chained : Properties
unfolding ucd
chained = record ucd { pair = λ a b. if a == 0x61 && b == 0x62 then Some 0x63 else (if a == 0x63 && b == 0x64 then Some 0x65 else ucd.pair a b) }

chain : normal_form Nfc chained (0x61 ∷ 0x62 ∷ 0x64 ∷ []) ≡ 0x65 ∷ []
unfolding by_class ucd unicode_normalization chained
chain = refl

mark_between : normal_form Nfc chained (0x61 ∷ 0x301 ∷ 0x62 ∷ []) ≡ 0xE1 ∷ 0x62 ∷ []
unfolding by_class ucd unicode_normalization chained
mark_between = refl
