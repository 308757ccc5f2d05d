-- What a form has settled, and what it holds back, of one character more.
use Rattle.std.proofs.Common.{◌≡◌, ℕ, ◌+◌, ◌≤◌, Bool, true, false, List, [], ◌∷◌, ◌++◌, length, Option, Some, None, refl, sym, ap, ◌∙◌, subst, arith, append_assoc, ⊎_elim}
use Rattle.std.proofs.lemmas.Bool.{cases_Bool, or_parts, cond-true, cond-false}
use Rattle.std.proofs.lemmas.List.{append-nil, length-append}
use Rattle.std.proofs.lemmas.List.Sums.{fold-append}
use Rattle.std.specs.Prelude.{if◌then◌else◌, fold, unwrap_or, is_some}
use Rattle.std.specs.Option.{option_to_list}
use Rattle.nf_forms.specs.Properties.{Properties, is_starter}
use Rattle.nf_forms.specs.Runs.{has_starter, trail}
use Rattle.nf_forms.specs.Front.{front, back}
use Rattle.nf_forms.specs.Order.{by_class, order}
use Rattle.nf_forms.specs.Compose.{composite, joined, replaced, join, compose_step, compose}
use Rattle.nf_forms.specs.Forms.{arranged}
use Rattle.nf_forms.specs.Laws.Front.{front-append-back, front-none, back-none, has_starter-at, front-at, back-at, EndsInGroup, last_starter, marks_push, EndsInStarter, ends_in, IsCut, cut, trail-after}
use Rattle.nf_forms.specs.Laws.Order.{order-marks, order-push_starter, order-after, has_starter-by_class}
use Rattle.nf_forms.specs.Laws.Starters.{length-by_class}
use Rattle.nf_forms.specs.Laws.Compose.{compose_step-at, compose_step-none, compose-none, composite-starter, joined-after_marks, IsGroup, fold-group, compose-after, front-group, back-group, compose-push}

module _ (p : Properties) where
  -- ---- a starter more: `b` says whether the form composes

  -- what a starter composes to with what stands after the front, where that is a starter alone
  abbrev pub next_composite : Bool → List ℕ → ℕ → Option ℕ
  next_composite false z c = None
  next_composite true [] c = None
  next_composite true (s ∷ []) c = if is_starter p s then composite p s c else None
  next_composite true (s ∷ x ∷ m) c = None

  -- a text and a starter more: with the composite in the place of the two, or with the starter after it
  abbrev pub followed : Option ℕ → List ℕ → ℕ → List ℕ
  followed (Some d) z c = front p z ++ d ∷ []
  followed None z c = z ++ c ∷ []

  pub next_composite-none : (z : List ℕ) (c : ℕ) → has_starter p z ≡ false → next_composite true z c ≡ None
  next_composite-none [] c none = refl
  next_composite-none (s ∷ []) c none = cond-false _ _ _ ((or_parts (is_starter p s) false none).0)
  next_composite-none (s ∷ x ∷ m) c none = refl

  compose_step-starter : (z : List ℕ) (c : ℕ) → is_starter p c ≡ true → compose_step p z c ≡ followed (next_composite true (back p z) c) z c
  compose_step-starter z c starts = ⊎_elim (λ some. at (last_starter p z some)) without (cases_Bool (has_starter p z))
    where
      without : has_starter p z ≡ false → compose_step p z c ≡ followed (next_composite true (back p z) c) z c
      without none =
          compose_step-none p z c none
          ∙ ap (λ o. followed o z c) (sym (ap (λ v. next_composite true v c) (back-none p z none) ∙ next_composite-none z c none))

      joins : (e : List ℕ) (s : ℕ) (m : List ℕ) → is_starter p s ≡ true → has_starter p m ≡ false → e ++ join p (s ∷ m) c ≡ followed (next_composite true (s ∷ m) c) (e ++ s ∷ m) c
      joins e s [] starts_s marks = next (composite p s c) ∙ ap (λ o. followed o (e ++ s ∷ []) c) (sym (cond-true _ _ _ starts_s))
        where
          next : (o : Option ℕ) → e ++ replaced o s [] c ≡ followed o (e ++ s ∷ []) c
          next (Some d) = ap (λ v. v ++ d ∷ []) (sym (front-at p e s [] starts_s marks))
          next None = sym (append_assoc e (s ∷ []) (c ∷ []))
      joins e s (x ∷ m) starts_s marks = ap (λ o. e ++ replaced o s (x ∷ m) c) (joined-after_marks p s x m c starts) ∙ sym (append_assoc e (s ∷ x ∷ m) (c ∷ []))

      at : EndsInGroup p z → compose_step p z c ≡ followed (next_composite true (back p z) c) z c
      at r = subst (λ k. compose_step p k c ≡ followed (next_composite true (back p k) c) k c) (sym r.text)
          (compose_step-at p r.before r.starter r.marks c r.starts r.no_starter
          ∙ joins r.before r.starter r.marks r.starts r.no_starter
          ∙ ap (λ v. followed (next_composite true v c) (r.before ++ r.starter ∷ r.marks) c) (sym (back-at p r.before r.starter r.marks r.starts r.no_starter)))

  pub arranged-push_starter : (b : Bool) (w : List ℕ) (c : ℕ) → is_starter p c ≡ true
      → arranged b p (w ++ c ∷ []) ≡ followed (next_composite b (back p (arranged b p w)) c) (arranged b p w) c
  arranged-push_starter false w c starts = order-push_starter p w c starts
  arranged-push_starter true w c starts = ap (λ v. compose p v) (order-push_starter p w c starts) ∙ compose-push p (order p w) c ∙ compose_step-starter (compose p (order p w)) c starts

  next_composite-starter : (b : Bool) (z : List ℕ) (c d : ℕ) → next_composite b z c ≡ Some d → is_starter p d ≡ true
  next_composite-starter false z c d e = cc
  next_composite-starter true [] c d e = cc
  next_composite-starter true (s ∷ []) c d e = next (is_starter p s) e
    where
      next : (b : Bool) → (if b then composite p s c else None) ≡ Some d → is_starter p d ≡ true
      next true e = composite-starter p s c d e
      next false e = cc
  next_composite-starter true (s ∷ x ∷ m) c d e = cc

  -- what a starter more settles: all that stood there, unless it composes
  abbrev pub settled_by : Option ℕ → List ℕ → List ℕ
  settled_by (Some d) z = front p z
  settled_by None z = z

  pub front-push_starter : (b : Bool) (w : List ℕ) (c : ℕ) → is_starter p c ≡ true
      → front p (arranged b p (w ++ c ∷ [])) ≡ settled_by (next_composite b (back p (arranged b p w)) c) (arranged b p w)
  front-push_starter b w c starts = ap (λ v. front p v) (arranged-push_starter b w c starts) ∙ next (next_composite b (back p (arranged b p w)) c) refl
    where
      next : (o : Option ℕ) → next_composite b (back p (arranged b p w)) c ≡ o → front p (followed o (arranged b p w) c) ≡ settled_by o (arranged b p w)
      next (Some d) e = front-at p (front p (arranged b p w)) d [] (next_composite-starter b (back p (arranged b p w)) c d e) refl
      next None e = front-at p (arranged b p w) c [] starts refl

  pub back-push_starter : (b : Bool) (w : List ℕ) (c : ℕ) → is_starter p c ≡ true
      → back p (arranged b p (w ++ c ∷ [])) ≡ unwrap_or (next_composite b (back p (arranged b p w)) c) c ∷ []
  back-push_starter b w c starts = ap (λ v. back p v) (arranged-push_starter b w c starts) ∙ next (next_composite b (back p (arranged b p w)) c) refl
    where
      next : (o : Option ℕ) → next_composite b (back p (arranged b p w)) c ≡ o → back p (followed o (arranged b p w) c) ≡ unwrap_or o c ∷ []
      next (Some d) e = back-at p (front p (arranged b p w)) d [] (next_composite-starter b (back p (arranged b p w)) c d e) refl
      next None e = back-at p (arranged b p w) c [] starts refl

  -- ---- marks after a text that ends in none

  -- a starter that stands alone, if any, and then marks in order: what they become
  abbrev pub closed_off : Bool → Option ℕ → List ℕ → List ℕ
  closed_off b None marks = marks
  closed_off false (Some starter) marks = starter ∷ marks
  closed_off true (Some starter) marks = fold (join p) (starter ∷ []) marks

  pub closed_off-group : (b : Bool) (s : ℕ) (m : List ℕ) → is_starter p s ≡ true → has_starter p m ≡ false → IsGroup p (closed_off b (Some s) m)
  closed_off-group false s m starts marks = record { starter = s; marks = m; text = refl; starts = starts; no_starter = marks }
  closed_off-group true s m starts marks = fold-group p (s ∷ []) m (record { starter = s; marks = []; text = refl; starts = starts; no_starter = refl }) marks

  length-fold_join : (z v : List ℕ) → length (fold (join p) z v) ≤ length z + length v
  length-fold_join z [] = omega arith
  length-fold_join z (c ∷ v) = let rest = length-fold_join (join p z c) v in let here = length-join z c in omega arith
    where
      length-replaced : (o : Option ℕ) (s : ℕ) (m : List ℕ) (c : ℕ) → length (replaced o s m c) ≤ length m + 2
      length-replaced (Some d) s m c = omega arith
      length-replaced None s m c = omega (arith, length-append m (c ∷ []))

      length-join : (z : List ℕ) (c : ℕ) → length (join p z c) ≤ length z + 1
      length-join [] c = omega arith
      length-join (s ∷ m) c = let e = length-replaced (joined p s m c) s m c in omega arith

  pub length-closed_off : (b : Bool) (s : Option ℕ) (m : List ℕ) → length (closed_off b s m) ≤ length m + 1
  length-closed_off b None m = omega arith
  length-closed_off false (Some s) m = omega arith
  length-closed_off true (Some s) m = omega (arith, length-fold_join (s ∷ []) m)

  -- a text that ends in a starter, arranged: what is settled, and one starter
  record IsSettled (b : Bool) (head : List ℕ) : Type 0 where
    settled : List ℕ
    starter : ℕ
    text : arranged b p head ≡ settled ++ starter ∷ []
    starts : is_starter p starter ≡ true

  settle : (b : Bool) (head : List ℕ) → EndsInStarter p head → IsSettled b head
  settle b head ending = subst (λ h. IsSettled b h) (sym ending.text) (at (next_composite b (back p (arranged b p ending.before)) ending.last) refl)
    where
      at : (o : Option ℕ) → next_composite b (back p (arranged b p ending.before)) ending.last ≡ o → IsSettled b (ending.before ++ ending.last ∷ [])
      at (Some d) e = record {
        settled = front p (arranged b p ending.before);
        starter = d;
        text = arranged-push_starter b ending.before ending.last ending.starts ∙ ap (λ o. followed o (arranged b p ending.before) ending.last) e;
        starts = next_composite-starter b _ _ d e;
      }
      at None e = record {
        settled = arranged b p ending.before;
        starter = ending.last;
        text = arranged-push_starter b ending.before ending.last ending.starts ∙ ap (λ o. followed o (arranged b p ending.before) ending.last) e;
        starts = ending.starts;
      }

  arranged-settled : (b : Bool) (head run : List ℕ) (r : IsSettled b head) → trail p head ≡ 0 → has_starter p run ≡ false
      → arranged b p (head ++ run) ≡ r.settled ++ closed_off b (Some r.starter) (by_class p run)
  arranged-settled false head run r ends marks = order-after p head run ends marks ∙ ap (λ v. v ++ by_class p run) r.text ∙ append_assoc r.settled (r.starter ∷ []) (by_class p run)
  arranged-settled true head run r ends marks =
      ap (λ v. compose p v) (order-after p head run ends marks)
      ∙ fold-append (compose_step p) [] (order p head) (by_class p run)
      ∙ ap (λ v. fold (compose_step p) v (by_class p run)) r.text
      ∙ compose-after p r.settled (r.starter ∷ []) (by_class p run) (record { starter = r.starter; marks = []; text = refl; starts = r.starts; no_starter = refl }) (has_starter-by_class p run)

  arranged-none : (b : Bool) (run : List ℕ) → has_starter p run ≡ false → arranged b p run ≡ by_class p run
  arranged-none false run marks = order-marks p run marks
  arranged-none true run marks = ap (λ v. compose p v) (order-marks p run marks) ∙ compose-none p (by_class p run) (has_starter-by_class p run)

  pub back-empty : (b : Bool) → back p (arranged b p []) ≡ []
  unfolding by_class
  back-empty b = ap (λ v. back p v) (arranged-none b [] refl)

  -- a text that ends in no mark, arranged: what is settled, the starter after that, if any, and what marks more become
  record Settles (b : Bool) (head : List ℕ) : Type 0 where
    settled : List ℕ
    starter : Option ℕ
    front_is : front p (arranged b p head) ≡ settled
    back_is : back p (arranged b p head) ≡ option_to_list starter
    some : has_starter p head ≡ is_some starter
    starts : (s : ℕ) → starter ≡ Some s → is_starter p s ≡ true
    front_after : (run : List ℕ) → has_starter p run ≡ false → front p (arranged b p (head ++ run)) ≡ settled
    back_after : (run : List ℕ) → has_starter p run ≡ false → back p (arranged b p (head ++ run)) ≡ closed_off b starter (by_class p run)

  settles : (b : Bool) (head : List ℕ) → trail p head ≡ 0 → Settles b head
  unfolding by_class
  settles b head ends = ⊎_elim (λ empty. subst (λ h. Settles b h) (sym empty) none) (λ ending. at ending (settle b head ending)) (ends_in p head ends)
    where
      none : Settles b []
      none = record {
        settled = [];
        starter = None;
        front_is = ap (λ v. front p v) (arranged-none b [] refl);
        back_is = back-empty b;
        some = refl;
        starts = λ s e. cc;
        front_after = λ run marks. ap (λ v. front p v) (arranged-none b run marks) ∙ front-none p (by_class p run) (has_starter-by_class p run);
        back_after = λ run marks. ap (λ v. back p v) (arranged-none b run marks) ∙ back-none p (by_class p run) (has_starter-by_class p run);
      }

      at : EndsInStarter p head → IsSettled b head → Settles b head
      at ending r = record {
        settled = r.settled;
        starter = Some r.starter;
        front_is = ap (λ v. front p v) r.text ∙ front-at p r.settled r.starter [] r.starts refl;
        back_is = ap (λ v. back p v) r.text ∙ back-at p r.settled r.starter [] r.starts refl;
        some = ap (λ h. has_starter p h) ending.text ∙ has_starter-at p ending.before ending.last [] ending.starts;
        starts = λ s e. let same : r.starter ≡ s = cc in subst (λ k. is_starter p k ≡ true) same r.starts;
        front_after = λ run marks. ap (λ v. front p v) (arranged-settled b head run r ends marks)
            ∙ front-group p r.settled _ (closed_off-group b r.starter (by_class p run) r.starts (has_starter-by_class p run));
        back_after = λ run marks. ap (λ v. back p v) (arranged-settled b head run r ends marks)
            ∙ back-group p r.settled _ (closed_off-group b r.starter (by_class p run) r.starts (has_starter-by_class p run));
      }

  same_option : (o q : Option ℕ) → option_to_list o ≡ option_to_list q → o ≡ q
  same_option None None e = refl
  same_option None (Some t) e = cc
  same_option (Some s) None e = cc
  same_option (Some s) (Some t) e = cc

  -- marks settle nothing
  pub front-after : (b : Bool) (head run : List ℕ) → trail p head ≡ 0 → has_starter p run ≡ false → front p (arranged b p (head ++ run)) ≡ front p (arranged b p head)
  front-after b head run ends marks = let r : Settles b head = settles b head ends in r.front_after run marks ∙ sym r.front_is

  -- what stands after the front
  pub back-after : (b : Bool) (head run : List ℕ) (starter : Option ℕ) → trail p head ≡ 0 → has_starter p run ≡ false → back p (arranged b p head) ≡ option_to_list starter
      → back p (arranged b p (head ++ run)) ≡ closed_off b starter (by_class p run)
  back-after b head run starter ends marks leaves =
      let r : Settles b head = settles b head ends in
      r.back_after run marks ∙ ap (λ o. closed_off b o (by_class p run)) (same_option r.starter starter (sym r.back_is ∙ leaves))

  -- what stands after the front of a text that ends in no mark: one starter, where the text has one
  pub back-starter : (b : Bool) (head : List ℕ) → trail p head ≡ 0 → (s : ℕ) → back p (arranged b p head) ≡ s ∷ [] → is_starter p s ≡ true
  back-starter b head ends s leaves = let r : Settles b head = settles b head ends in r.starts s (same_option r.starter (Some s) (sym r.back_is ∙ leaves))

  pub has_starter-head : (b : Bool) (head : List ℕ) → trail p head ≡ 0 → (o : Option ℕ) → back p (arranged b p head) ≡ option_to_list o → has_starter p head ≡ is_some o
  has_starter-head b head ends o leaves = let r : Settles b head = settles b head ends in r.some ∙ ap is_some (same_option r.starter o (sym r.back_is ∙ leaves))

  -- ---- whatever comes

  front-push : (b : Bool) (w : List ℕ) (c : ℕ) → (more : List ℕ) × (front p (arranged b p (w ++ c ∷ [])) ≡ front p (arranged b p w) ++ more)
  front-push b w c = ⊎_elim starter (λ mark. same (cut p w) mark) (cases_Bool (is_starter p c))
    where
      starter : is_starter p c ≡ true → (more : List ℕ) × (front p (arranged b p (w ++ c ∷ [])) ≡ front p (arranged b p w) ++ more)
      starter starts = next (next_composite b (back p (arranged b p w)) c) (front-push_starter b w c starts)
        where
          next : (o : Option ℕ) → front p (arranged b p (w ++ c ∷ [])) ≡ settled_by o (arranged b p w) → (more : List ℕ) × (front p (arranged b p (w ++ c ∷ [])) ≡ front p (arranged b p w) ++ more)
          next (Some d) e = ([], e ∙ sym (append-nil _))
          next None e = (back p (arranged b p w), e ∙ sym (front-append-back p (arranged b p w)))

      same : IsCut p w → is_starter p c ≡ false → (more : List ℕ) × (front p (arranged b p (w ++ c ∷ [])) ≡ front p (arranged b p w) ++ more)
      same r mark = (
        [],
        ap (λ v. front p (arranged b p v)) (ap (λ v. v ++ c ∷ []) r.text ∙ append_assoc r.head r.run (c ∷ []))
            ∙ front-after b r.head (r.run ++ c ∷ []) r.ends (marks_push p r.run c r.marks mark)
            ∙ sym (ap (λ v. front p (arranged b p v)) r.text ∙ front-after b r.head r.run r.ends r.marks)
            ∙ sym (append-nil _),
      )

  -- the front only grows, whatever comes
  pub front-append : (b : Bool) (w v : List ℕ) → (more : List ℕ) × (front p (arranged b p (w ++ v)) ≡ front p (arranged b p w) ++ more)
  front-append b w [] = ([], ap (λ v. front p (arranged b p v)) (append-nil w) ∙ sym (append-nil _))
  front-append b w (c ∷ v) =
      let here = front-push b w c in
      let rest = front-append b (w ++ c ∷ []) v in (
        here.0 ++ rest.0,
        ap (λ k. front p (arranged b p k)) (sym (append_assoc w (c ∷ []) v))
            ∙ rest.1 ∙ ap (λ k. k ++ rest.0) (here.1) ∙ append_assoc (front p (arranged b p w)) (here.0) (rest.0),
      )

  -- no more stands after the front than the marks that the text ends in, and one starter
  pub length-back : (b : Bool) (w : List ℕ) → length (back p (arranged b p w)) ≤ trail p w + 1
  length-back b w = at (cut p w)
    where
      at : IsCut p w → length (back p (arranged b p w)) ≤ trail p w + 1
      at r =
          let at_head : Settles b r.head = settles b r.head r.ends in
          let shape = ap (λ v. length (back p (arranged b p v))) r.text ∙ ap (λ v. length v) (at_head.back_after r.run r.marks) in
          let run = ap (λ v. trail p v) r.text ∙ trail-after p r.head r.run r.ends r.marks in
          omega (arith, length-closed_off b at_head.starter (by_class p r.run), length-by_class p r.run r.marks)
