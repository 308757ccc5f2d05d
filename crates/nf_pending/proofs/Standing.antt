-- What a machine holds of the text that it stands after.
use Rattle.nf_pending.proofs.Common.{◌≡◌, ℕ, Bool, true, false, leb, List, [], ◌∷◌, ◌++◌, length, Option, Some, None, refl, sym, ap, ◌∙◌, arith, append_assoc, map, IfSome, insert, is_some, is_none, unwrap_or, composes, finished, front-append-back, marks_push, closed_off, closed_off-group, next_composite, next_composite-none, settled_by, front-push_starter, back-push_starter, front-after, back-after, back-starter, back-empty, has_starter-head}
use Rattle.std.proofs.lemmas.List.{append-nil, length-map, nil_from_length}
use Rattle.std.specs.List.{prefix_len}
use Rattle.std.proofs.Math.Bool.{or-false}
use Rattle.std.proofs.lemmas.Bool.Decides.{nat_tests}
use Rattle.std.specs.Option.{option_to_list}
use Rattle.nf_forms.specs.Front.{front, back}
use Rattle.nf_forms.specs.Properties.{Properties, is_starter}
use Rattle.nf_forms.specs.Runs.{has_starter, trail}
use Rattle.nf_forms.specs.Order.{by_class}
use Rattle.nf_forms.specs.declared.form.Form.{Form}
use Rattle.nf_forms.specs.Laws.Runs.{has_starter-append, trail-push}
use Rattle.nf_forms.specs.Laws.Order.{has_starter-by_class}
use Rattle.nf_forms.specs.Laws.Compose.{IsGroup}
use Rattle.nf_boundary.specs.Laws.Held.{held-push}
use Rattle.nf_boundary.specs.Mark.{mark_of, is_rising}
use Rattle.nf_pending.specs.declared.pending.Pending.{Pending}
use Rattle.nf_pending.specs.Meeting.{composite_with}
use Rattle.nf_pending.specs.StandsAfter.{StandsAfter}

module _ (f : Form) (p : Properties) where
  module _ (pending : Pending) (w : List ℕ) (s : StandsAfter f p pending w) where
    back_held : back p (finished f p w) ≡ closed_off p (composes f) pending.starter (by_class p s.run)
    back_held = cc (back-after p (composes f) s.head s.run pending.starter s.ends s.marks (sym s.starter))

    pub starter_held : has_starter p w ≡ is_some pending.starter
    starter_held = cc (has_starter-append p s.head s.run, or-false (has_starter p s.head), has_starter-head p (composes f) s.head s.ends pending.starter (sym s.starter))

    -- where no mark is held, what stands after the front is the starter's alone
    back_unmarked : length pending.marks.items ≡ 0 → back p (finished f p w) ≡ closed_off p (composes f) pending.starter []
    back_unmarked empty = rw (nil_from_length (by_class p s.run) (omega (arith, length-map (by_class p s.run) (mark_of p), ap (λ m. length m) s.held))) at back_held

    -- a starter more composes with what is held as it does with what stands after the front
    composite_held : (c : ℕ) → composite_with p (composes f) pending.starter (closed_off p (composes f) pending.starter (by_class p s.run)) c ≡ next_composite p (composes f) (back p (finished f p w)) c
    composite_held c = rw back_held (at (composes f) pending.starter (λ k e. back-starter p (composes f) s.head s.ends k (sym s.starter ∙ e)))
      where
        alone : (z : List ℕ) → IsGroup p z → composite_with p true (Some 0) z c ≡ next_composite p true z c
        alone z group = rw group.text (next group.marks)
          where
            next : (m : List ℕ) → composite_with p true (Some 0) (group.starter ∷ m) c ≡ next_composite p true (group.starter ∷ m) c
            next [] = rw group.starts
            next (x ∷ m) = grind (arith, nat_tests)

        at : (b : Bool) (o : Option ℕ) → ((k : ℕ) → option_to_list o ≡ k ∷ [] → is_starter p k ≡ true)
            → composite_with p b o (closed_off p b o (by_class p s.run)) c ≡ next_composite p b (closed_off p b o (by_class p s.run)) c
        at false o starts = refl
        at true None starts = sym (next_composite-none p (by_class p s.run) c (has_starter-by_class p s.run))
        at true (Some k) starts = alone _ (closed_off-group p true k (by_class p s.run) (starts k refl) (has_starter-by_class p s.run))

  -- a mark more
  pub stands_mark : (old new : Pending) (w : List ℕ) (c : ℕ) → is_starter p c ≡ false → StandsAfter f p old w → new.composes ≡ old.composes → new.starter ≡ old.starter
      → (is_rising old.marks.items ≡ true → new.marks.items ≡ insert old.marks.items (prefix_len (λ mark. leb mark.class (p.class c)) old.marks.items) (mark_of p c))
      → StandsAfter f p new (w ++ c ∷ [])
  stands_mark old new w c mark s same_form same_starter inserted = record {
    head = s.head;
    run = s.run ++ c ∷ [];
    text = cc (append_assoc s.head s.run (c ∷ []));
    ends = s.ends;
    marks = marks_push p s.run c s.marks mark;
    composes = same_form ∙ s.composes;
    starter = rw same_starter s.starter;
    held = held-push p s.run c old.marks.items new.marks.items s.marks mark s.held inserted;
  }

  pub settles_mark : (old : Pending) (w : List ℕ) (c : ℕ) → is_starter p c ≡ false → StandsAfter f p old w → front p (finished f p w) ≡ front p (finished f p (w ++ c ∷ []))
  settles_mark old w c mark s =
      cc (append_assoc s.head s.run (c ∷ []), front-after p (composes f) s.head s.run s.ends s.marks, front-after p (composes f) s.head (s.run ++ c ∷ []) s.ends (marks_push p s.run c s.marks mark))

  -- a machine without marks, after a text that ends in none
  pub stands_unmarked : (new : Pending) (v : List ℕ) → trail p v ≡ 0 → new.composes ≡ composes f → option_to_list new.starter ≡ back p (finished f p v) → new.marks.items ≡ [] → StandsAfter f p new v
  unfolding by_class
  stands_unmarked new v ends form starter empty = record { head = v; run = []; text = sym (append-nil v); ends = ends; marks = refl; composes = form; starter = starter; held = empty }

  -- what a starter more gives of what was held
  abbrev pub given_by : Option ℕ → List ℕ → List ℕ
  given_by (Some d) closed = []
  given_by None closed = closed

  pub stands_new : (pending : Pending) → pending.composes ≡ composes f → pending.starter ≡ None → pending.marks.items ≡ [] → StandsAfter f p pending []
  stands_new pending form starter empty = stands_unmarked pending [] refl form (rw (starter, back-empty p (composes f))) empty

  -- a starter that is held alone is all that stands after the front
  pub back_alone : (pending : Pending) (w : List ℕ) → StandsAfter f p pending w → length pending.marks.items ≡ 0 → IfSome pending.starter (λ a. back p (finished f p w) ≡ a ∷ [])
  back_alone pending w s empty = at (composes f) pending.starter (back_unmarked pending w s empty)
    where
      at : (b : Bool) (o : Option ℕ) → back p (finished f p w) ≡ closed_off p b o [] → IfSome o (λ a. back p (finished f p w) ≡ a ∷ [])
      at b None e = tt
      at true (Some a) e = e
      at false (Some a) e = e

  -- where nothing is held, all is settled
  pub none_held : (pending : Pending) (w : List ℕ) → StandsAfter f p pending w → is_none pending.starter ≡ true → length pending.marks.items ≡ 0
      → StandsAfter f p pending [] × (front p (finished f p w) ≡ finished f p w)
  none_held pending w s starter empty = (
    stands_new pending s.composes (none pending.starter starter) (nil_from_length pending.marks.items empty),
    rw (left, append-nil) at (front-append-back p (finished f p w)),
  )
    where
      none : (o : Option ℕ) → is_none o ≡ true → o ≡ None
      none None e = refl
      none (Some a) e = cc

      left : back p (finished f p w) ≡ []
      left = rw (none pending.starter starter) at (back_unmarked pending w s empty)

  -- what closes off all that is held
  module _ (pending : Pending) (w : List ℕ) (s : StandsAfter f p pending w) (closed : List ℕ)
      (closes : (m : List ℕ) → pending.marks.items ≡ map (mark_of p) m → has_starter p m ≡ false → closed ≡ closed_off p pending.composes pending.starter m) where
    closed_held : closed ≡ closed_off p (composes f) pending.starter (by_class p s.run)
    closed_held = rw s.composes at (closes (by_class p s.run) s.held (has_starter-by_class p s.run))

    closed_is : closed ≡ back p (finished f p w)
    closed_is = closed_held ∙ sym (back_held pending w s)

    pub ends_all : front p (finished f p w) ++ closed ≡ finished f p w
    ends_all = rw closed_is (front-append-back p (finished f p w))

    -- a starter more
    module _ (c : ℕ) (starts : is_starter p c ≡ true) (o : Option ℕ) (meets : o ≡ composite_with p pending.composes pending.starter closed c) where
      next_is : o ≡ next_composite p (composes f) (back p (finished f p w)) c
      next_is = rw (meets, s.composes, closed_held) (composite_held pending w s c)

      pub begun_settles : front p (finished f p w) ++ given_by o closed ≡ front p (finished f p (w ++ c ∷ []))
      begun_settles = rw (closed_is, front-push_starter p (composes f) w c starts, ← next_is) (next o)
        where
          next : (o : Option ℕ) → front p (finished f p w) ++ given_by o (back p (finished f p w)) ≡ settled_by p o (finished f p w)
          next (Some d) = append-nil _
          next None = front-append-back p (finished f p w)

      pub begun_stands : (new : Pending) → new.composes ≡ pending.composes → new.starter ≡ Some (unwrap_or o c) → new.marks.items ≡ [] → StandsAfter f p new (w ++ c ∷ [])
      begun_stands new form starter = stands_unmarked new (w ++ c ∷ []) (rw (trail-push p w c, starts)) (form ∙ s.composes) (rw (starter, next_is, back-push_starter p (composes f) w c starts))
