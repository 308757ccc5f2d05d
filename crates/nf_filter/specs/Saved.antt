-- A filter's state as plain data, and what of such data no filter can have.
use Rattle.std.specs.Prelude.{◌≡◌, true, Bool, ◌&&◌, ◌==◌, nat_le, ◌⊎◌, ℕ, ◌+◌, ◌-◌, ◌≤◌, List, [], ◌∷◌, length, None, IfSome}
use Rattle.nf_forms.specs.Properties.{Properties}
use Rattle.nf_forms.specs.StreamSafe.{max_run}
use Rattle.nf_forms.specs.declared.form.Form.{Form}
use Rattle.nf_forms.specs.declared.form.Form.TheVariants.{Nfc, Nfd, Nfkc, Nfkd}
use Rattle.nf_boundary.specs.declared.mark.Mark.{Mark}
use Rattle.nf_utf8.specs.Subpart.{IsSubpart}
use Rattle.nf_pending.specs.StandsAfter.{starter_of, marks_of}
use Rattle.nf_filter.specs.declared.filter.State.{State}
use Rattle.nf_filter.specs.declared.saved.Saved.{Saved}

-- all of it; that ASCII is plain is told of the rows, and that its form composes by the form
abbrev pub saved_of : State → Saved
saved_of state = record {
  form = state.counted.normalizer.form;
  policy = state.policy;
  spent = state.spent;
  base = state.base;
  offset = state.reading.offset;
  chars = state.counted.chars;
  put = state.counted.put;
  count = state.counted.normalizer.counter;
  held = record { items = state.reading.decoder };
  starter = starter_of state.counted.normalizer.pending;
  marks = record { items = marks_of state.counted.normalizer.pending };
}

-- the process counts in NFKD, so that a compatibility form holds as many marks as are counted, and a canonical one no more
abbrev pub IsCounted : Form → ℕ → ℕ → Type 0
IsCounted Nfc marks count = marks ≤ count
IsCounted Nfd marks count = marks ≤ count
IsCounted Nfkc marks count = marks ≡ count
IsCounted Nfkd marks count = marks ≡ count

-- what was counted of the bytes that were read
pub record CountsFit (saved : Saved) : Type 0 where
  pub held : length saved.held.items ≤ saved.offset - saved.base
  pub chars : saved.chars ≤ saved.offset - saved.base - length saved.held.items
  pub put : saved.put ≤ saved.chars
  pub counted : IsCounted saved.form (length saved.marks.items) saved.count
  -- before the first character nothing is counted or pending
  pub new : saved.chars ≡ 0 → (saved.count ≡ 0) × (saved.starter ≡ None)
  -- before the first starter all that was taken or put is pending
  pub unstarted : saved.starter ≡ None → saved.chars + saved.put ≤ length saved.marks.items

-- each is of the class that the data gives its character, and of no smaller one than what stands before it: `least` at first
abbrev pub are_marks : Properties → ℕ → List Mark → Bool
are_marks p least [] = true
are_marks p least (mark ∷ marks) = (p.class mark.character == mark.class) && nat_le least mark.class && are_marks p mark.class marks

-- what is pending: a starter, and marks in order of class, none of class 0
pub record IsPending (p : Properties) (saved : Saved) : Type 0 where
  pub starter : IfSome saved.starter (λ c. p.class c ≡ 0)
  pub marks : are_marks p 1 saved.marks.items ≡ true

-- of such data a filter can be made, and each that is spent or stands after bytes has such
pub record IsRestorable (p : Properties) (saved : Saved) : Type 0 where
  pub held : IsSubpart saved.held.items
  pub count : saved.count ≤ max_run
  pub base : saved.base ≤ saved.offset
  pub fits : (saved.spent ≡ true) ⊎ (CountsFit saved × IsPending p saved)
