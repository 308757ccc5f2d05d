-- What the numbers of a state in the caller's memory say.
use Rattle.std.specs.Prelude.{◌≡◌, ℕ, ◌/◌, ◌%◌, ◌≤◌, ◌<◌, ◌⊎◌, ◌==◌, nat_le, List, take, map, Option, Some, None, if◌then◌else◌, All}
use Rattle.std.specs.Char.{IsScalar}
use Rattle.nf_forms.specs.Ucd.{ucd}
use Rattle.nf_forms.specs.declared.form.Form.{Form}
use Rattle.nf_forms.specs.declared.form.Form.TheVariants.{Nfc, Nfd, Nfkc, Nfkd}
use Rattle.nf_boundary.specs.declared.mark.Mark.{Mark}
use Rattle.nf_filter.specs.declared.filter.State.{State as FilterState}
use Rattle.nf_filter.specs.declared.policy.Policy.{Policy}
use Rattle.nf_filter.specs.declared.saved.Saved.{Saved}
use Rattle.nf_filter.specs.Filter.{StandsAfter as FilterStandsAfter}
use Rattle.nf_filter.specs.Saved.{saved_of, IsRestorable}
use Rattle.nf_c.specs.declared.state.State.{State}

abbrev pub IsForm : ℕ → Type 0
IsForm n = (1 ≤ n) × (n ≤ 4)

abbrev pub form_at : ℕ → Form
form_at n = if n == 1 then Nfc else (if n == 2 then Nfd else (if n == 3 then Nfkc else Nfkd))

abbrev pub IsPolicy : ℕ → Type 0
IsPolicy n = n ≤ 3

-- bit 1 replaces, bit 2 refuses what is not assigned
abbrev pub policy_at : ℕ → Policy
policy_at n = record { replace = n % 2 == 1; assigned = nat_le 2 n }

-- the class, below 256, times 2^21 and the code point
abbrev pub IsMark : ℕ → Type 0
IsMark n = (n / 0x200000 ≤ 255) × IsScalar (n % 0x200000)

abbrev pub mark_at : ℕ → Mark
mark_at n = record { character = n % 0x200000; class = n / 0x200000 }

abbrev pub IsStarter : ℕ → Type 0
IsStarter n = (n ≡ 0xFFFFFFFF) ⊎ IsScalar n

abbrev pub starter_at : ℕ → Option ℕ
starter_at n = if n == 0xFFFFFFFF then None else Some n

-- the word of a state, and Unicode 18.0.0
abbrev pub magic : ℕ
magic = 0x3273666E

abbrev pub unicode : ℕ
unicode = 180000

-- the numbers say something
pub record IsState (state : State) : Type 0 where
  pub magic_is : state.magic ≡ magic
  pub unicode_is : state.unicode ≡ unicode
  pub form : IsForm state.form
  pub policy : IsPolicy state.policy
  pub spent : state.spent ≤ 1
  pub held : state.held_len ≤ 3
  pub marks_len : state.marks_len ≤ 30
  pub marks : All IsMark (take state.marks_len state.marks)
  pub starter : IsStarter state.starter

-- what they say then
abbrev pub unpacked : State → Saved
unpacked state = record {
  form = form_at state.form;
  policy = policy_at state.policy;
  spent = state.spent == 1;
  base = state.base;
  offset = state.offset;
  chars = state.chars;
  put = state.put;
  count = state.count;
  held = record { items = take state.held_len state.held };
  starter = starter_at state.starter;
  marks = record { items = map mark_at (take state.marks_len state.marks) };
}

-- the numbers and counts say where a filter may stand
abbrev pub CanStand : State → Type 0
CanStand state = IsState state × IsRestorable ucd (unpacked state)

-- it is where a filter to this form, under this policy, stands after these bytes
pub record StandsAfter (policy : Policy) (f : Form) (state : State) (bytes : List ℕ) : Type 0 where
  pub can : CanStand state
  pub filter : FilterState
  pub saved : saved_of filter ≡ unpacked state
  pub stands : FilterStandsAfter policy f ucd filter bytes

-- so it is, and the filter is the one that was made of it
pub record StandAfter (policy : Policy) (f : Form) (state : State) (filter : FilterState) (bytes : List ℕ) : Type 0 where
  pub can : CanStand state
  pub saved : saved_of filter ≡ unpacked state
  pub stands : FilterStandsAfter policy f ucd filter bytes

-- it is that of a filter which holds nothing but an ASCII character
pub record HoldsAscii (state : State) : Type 0 where
  pub can : CanStand state
  pub unspent : state.spent ≡ 0
  pub held : state.held_len ≡ 0
  pub marks : state.marks_len ≡ 0
  pub starter : state.starter < 0x80
  pub count : state.count ≡ 0
  pub chars : state.chars ≤ state.offset
