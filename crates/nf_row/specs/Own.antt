-- A character of which no rows have to be read (UAX #15, section 9).
use Rattle.std.specs.Prelude.{◌≡◌, ℕ, List, IsTrue}
use Rattle.nf_forms.specs.Properties.{Properties}
use Rattle.nf_forms.specs.Forms.{IsOwnRow}
use Rattle.nf_forms.specs.Sound.{is_sound}
use Rattle.nf_forms.specs.Ucd.{ucd}
use Rattle.nf_entry.specs.Entry.{IsEntry, IsOfFirst}
use Rattle.nf_entry.specs.declared.entry.Entry.{Entry}

-- c is sound, of class k, and its own canonical and compatibility row
pub record IsOwn (p : Properties) (c k : ℕ) : Type 0 where
  pub sound : IsTrue (is_sound p c)
  pub class : p.class c ≡ k
  pub row : IsOwnRow p c

-- the data is Unicode's, and the entry is that of c
pub record IsKnown (p : Properties) (c : ℕ) (entry : Entry) : Type 0 where
  pub properties : p ≡ ucd
  pub is_entry : IsEntry c entry

-- and it is that of the first character of the text
pub record IsKnownFirst (p : Properties) (text : List ℕ) (entry : Entry) : Type 0 where
  pub properties : p ≡ ucd
  pub is_first : IsOfFirst text entry
