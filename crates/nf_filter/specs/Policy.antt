-- The text that bytes give under a policy (The Unicode Standard, section 3.9).
use Rattle.std.specs.Prelude.{◌≡◌, true, false, Bool, ℕ, List, ◌++◌, length, take_while, chars, IsUtf8, encode_utf8_all}
use Rattle.std.specs.List.{list_all}
use Rattle.nf_forms.specs.Properties.{Properties}
use Rattle.nf_utf8.specs.Reading.{text_of}
use Rattle.nf_utf8.specs.Replaced.{replaced, replaced_len, replaced_whole}
use Rattle.nf_filter.specs.declared.policy.Policy.{Policy}

-- nothing is replaced, and no character is refused for not being assigned
abbrev pub as_is : Policy
as_is = record { replace = false; assigned = false }

-- the text that bytes give, where ill-formed ones are replaced or not
abbrev pub text_under : Bool → List ℕ → List ℕ
text_under false bytes = text_of bytes
text_under true bytes = replaced bytes

-- where nothing follows them
abbrev pub whole_under : Bool → List ℕ → List ℕ
whole_under false bytes = text_of bytes
whole_under true bytes = replaced_whole bytes

-- how many of the bytes gave a front of it
abbrev pub len_under : Bool → List ℕ → List ℕ → ℕ
len_under false bytes front = length (encode_utf8_all front)
len_under true bytes front = replaced_len (length front) bytes

-- of a text the characters before the first that is refused for not being assigned
abbrev pub allowed : Bool → Properties → List ℕ → List ℕ
allowed false p x = x
allowed true p x = take_while p.assigned x

-- what stands after a front of assigned characters
pub record IsAfterAssigned (p : Properties) (text rest : List ℕ) : Type 0 where
  pub front : List ℕ
  pub split : text ≡ front ++ rest
  pub front_utf8 : IsUtf8 front
  pub rest_utf8 : IsUtf8 rest
  pub assigned : list_all p.assigned (chars front) ≡ true
