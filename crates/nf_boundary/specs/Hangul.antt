-- A Hangul syllable that is written with letters (The Unicode Standard, section 3.12).
use Rattle.std.specs.Prelude.{◌≡◌, ◌≤◌, ℕ, true, List, [], ◌∷◌, ◌++◌, length, encode_utf8_all}
use Rattle.nf_forms.specs.declared.form.Form.{Form}
use Rattle.nf_forms.specs.Forms.{decomposed, arranged}
use Rattle.nf_forms.specs.Ucd.{ucd}

-- characters that decompose no further compose to this one
pub record Composes (cs : List ℕ) (composite : ℕ) : Type 0 where
  pub rows : (f : Form) → decomposed f ucd cs ≡ cs
  pub composed : arranged true ucd cs ≡ composite ∷ []

-- a letter and a front of the text after it become this one character, and the rest of the text stands after them
pub record Spells (letter : ℕ) (text rest : List ℕ) (syllable : ℕ) : Type 0 where
  pub front : List ℕ
  pub few : length front ≤ 2
  pub split : text ≡ encode_utf8_all front ++ rest
  pub made : Composes (letter ∷ front) syllable
