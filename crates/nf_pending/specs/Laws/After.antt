-- A machine that was begun anew at an own boundary stands after all of the text.
use Rattle.std.proofs.Common.{◌≡◌, ℕ, Bool, true, false, ◌||◌, List, [], ◌∷◌, ◌++◌, Option, Some, None, refl, sym, ap, ◌∙◌, append_assoc}
use Rattle.std.proofs.lemmas.Bool.{cond-true, or_left}
use Rattle.std.specs.Prelude.{is_some}
use Rattle.std.specs.Option.{option_to_list}
use Rattle.nf_forms.specs.Properties.{Properties}
use Rattle.nf_forms.specs.Runs.{has_starter}
use Rattle.nf_forms.specs.Front.{front, back}
use Rattle.nf_forms.specs.declared.form.Form.{Form}
use Rattle.nf_forms.specs.Forms.{row_of, composes, finished}
use Rattle.nf_forms.specs.Boundary.{HasBoundaryBefore}
use Rattle.nf_forms.specs.Laws.Runs.{has_starter-append, trail-append}
use Rattle.nf_forms.specs.Laws.Front.{front-append-back, back-at}
use Rattle.nf_forms.specs.Laws.Settling.{back-starter, has_starter-head}
use Rattle.nf_forms.specs.Laws.Boundary.{arranged-boundary}
use Rattle.nf_pending.specs.declared.pending.Pending.{Pending}
use Rattle.nf_pending.specs.StandsAfter.{StandsAfter}

or_false : (b : Bool) → (b || false) ≡ b
or_false true = refl
or_false false = refl

-- what stands before the marks begins as the whole does
first_of : (p : Properties) (first : ℕ) (rest head run : List ℕ) → first ∷ rest ≡ head ++ run → has_starter p head ≡ true → (more : List ℕ) × (head ≡ first ∷ more)
first_of p first rest [] run e some = cc
first_of p first rest (x ∷ more) run e some = (more, cc)

pub stands-after : (f : Form) (p : Properties) (pending : Pending) (w v : List ℕ) (c : ℕ) → HasBoundaryBefore p f c → StandsAfter f p pending (row_of f p c ++ v)
    → StandsAfter f p pending (w ++ (row_of f p c ++ v))
stands-after f p pending w v c r s = record {
  head = w ++ s.head;
  run = s.run;
  text = ap (λ u. w ++ u) s.text ∙ sym (append_assoc w s.head s.run);
  ends = trail-append p w s.head ∙ cond-true _ _ _ some ∙ s.ends;
  marks = s.marks;
  composes = s.composes;
  starter = next pending.starter refl (sym (has_starter-head p (composes f) s.head s.ends pending.starter (sym s.starter)) ∙ some);
  held = s.held;
}
  where
    some : has_starter p s.head ≡ true
    some =
        sym (ap (has_starter p) s.text ∙ has_starter-append p s.head s.run ∙ ap (λ b. has_starter p s.head || b) s.marks ∙ or_false (has_starter p s.head))
        ∙ ap (λ u. has_starter p (u ++ v)) r.row ∙ or_left _ _ r.starter

    apart : finished f p (w ++ s.head) ≡ finished f p w ++ finished f p s.head
    apart =
        let begins = first_of p r.first (r.rest ++ v) s.head s.run (sym (ap (λ u. u ++ v) r.row) ∙ s.text) some in
        ap (λ u. finished f p (w ++ u)) begins.1
        ∙ arranged-boundary p (composes f) w r.first begins.0 r.starter r.never_second
        ∙ ap (λ u. finished f p w ++ finished f p u) (sym begins.1)

    next : (o : Option ℕ) → pending.starter ≡ o → is_some o ≡ true → option_to_list pending.starter ≡ back p (finished f p (w ++ s.head))
    next None e is = cc
    next (Some k) e is =
        let own = sym s.starter ∙ ap option_to_list e in
        let starts = back-starter p (composes f) s.head s.ends k own in
        let text = sym (front-append-back p (finished f p s.head)) ∙ ap (λ u. front p (finished f p s.head) ++ u) own in
        ap option_to_list e
        ∙ sym (ap (back p) (apart ∙ ap (λ u. finished f p w ++ u) text ∙ sym (append_assoc (finished f p w) (front p (finished f p s.head)) (k ∷ [])))
        ∙ back-at p (finished f p w ++ front p (finished f p s.head)) k [] starts refl)
