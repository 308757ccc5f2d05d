-- What a comparing sink tells of what a filter wrote.
use Rattle.std.proofs.Common.{arith, ◌≡◌, inl, inr, ℕ, true, false, List, [], ◌∷◌, ◌++◌, append_assoc, append-nil, Some, None, is_some, Option, refl, Result, Err}
use Rattle.nf_filter.proofs.Common.{Fault, Write}
use Rattle.nf_filter.specs.Comparing.{same, left, given, taken, sink_state, preface}
use Rattle.nf_filter.specs.InCommon.{goes_on_with}
use Rattle.nf_filter.specs.declared.comparing.Comparing.{Comparing}
use Rattle.std.specs.Io.KnownBytes.{Appends}
use Rattle.nf_filter.specs.Writes.{Puts, BreaksOff}
use Rattle.nf_filter.proofs.FilterLemmas.{write_or_kept}

-- of two marked off the same follows
preface-same : (a b x y : List ℕ) → preface a ++ x ≡ preface b ++ y → (a ≡ b) × (x ≡ y)
preface-same (c ∷ a) (d ∷ b) x y e = grind (arith, preface-same a b x y)
preface-same [] [] x y e = grind arith
preface-same _ _ x y e = absurd (grind arith)

is_some-value : (o : Option ℕ) → is_some o ≡ true → (b : ℕ) × (o ≡ Some b)
is_some-value (Some b) is = (b, refl)
is_some-value None is = cc

-- of what is due the front `before` was written, and the call r then wrote on, to a sink to which nothing was given
pub record Wrote (old new : Comparing) (before due : List ℕ) {T : Type 0} (r : Result T Fault) : Type 0 where
  pub begun : (same old ≡ []) × (old.other ≡ None) × (old.failed ≡ false)
  pub broken : r ≡ Err Write → BreaksOff (sink_state old) (sink_state new) before due
  pub puts : (r ≡ Err Write → ⊥) → Puts (sink_state old) (sink_state new) before due

module _ {old new : Comparing} {before due : List ℕ} {T : Type 0} {r : Result T Fault} (w : Wrote old new before due r) where
  told : (out : List ℕ) → Appends (Some (taken old)) (Some (taken new)) out → (new.first.now ++ new.second.now ≡ old.first.now ++ old.second.now) × (given new ≡ out)
  told out more = preface-same (new.first.now ++ new.second.now) (old.first.now ++ old.second.now) (given new) out (grind (arith, w.begun, more, append-nil))

  -- what was given was due, and perhaps more is
  pub gave : (rest : List ℕ) × (new.first.now ++ new.second.now ≡ old.first.now ++ old.second.now) × (due ≡ (before ++ given new) ++ rest)
  gave = elim (write_or_kept r) [
    | inl e ↦ let b = w.broken e in let t = told b.out b.given in (b.rest, t.0, rw t.1 b.after)
    | inr other ↦ let p = w.puts other in let t = told p.out p.given in ([], t.0, grind (arith, p, t, append-nil))
  ]

  -- a byte was another, and that goes on what was written
  pub other_written : is_some new.other ≡ true → (b : ℕ) × (rest : List ℕ) × (goes_on_with b (left new) ≡ false) × (due ≡ (before ++ same new) ++ b ∷ rest)
  other_written is = let some = is_some-value new.other is in (some.0, gave.0, new.other_is _ some.1, grind (arith, gave, append_assoc, some.1))

  -- none was: all was written, as expected
  module _ (none : is_some new.other ≡ false) where
    pub unfailed : (r ≡ Err Write) → ⊥
    unfailed e = grind (arith, new.failed_after, w.broken e)

    pub all_written : due ≡ before ++ same new
    all_written = grind (arith, w.puts unfailed, told (w.puts unfailed).out, append-nil)
