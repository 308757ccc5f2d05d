-- A mark more after a text in form: one that composes with nothing before it, and of a class no smaller than those of
-- the marks at the end, stands at the end of the form too.
use Rattle.std.proofs.Common.{◌≡◌, ℕ, ◌≤◌, ◌<◌, Bool, true, false, ◌||◌, ltb, leb, List, [], ◌∷◌, ◌++◌, Option, Some, None, refl, sym, ap, subst, ◌∙◌, ⊎_elim, arith, append-nil, append_assoc, leb-true, ltb-true}
use Rattle.std.proofs.lemmas.Bool.{cases_Bool, cond-true, or_left, or_right, or_parts, or_from, and_parts, and_from, lt-leb}
use Rattle.std.proofs.Math.Bool.{or-false}
use Rattle.std.proofs.lemmas.Bool.Decides.{nat_tests}
use Rattle.std.proofs.lemmas.List.Folds.{list_all-append}
use Rattle.std.proofs.lemmas.List.Sums.{fold-append}
use Rattle.std.specs.List.{list_all}
use Rattle.std.specs.Prelude.{fold, if◌then◌else◌}
use Rattle.nf_forms.specs.Properties.{Properties, is_starter}
use Rattle.nf_forms.specs.Runs.{has_starter, trail}
use Rattle.nf_forms.specs.Front.{back}
use Rattle.nf_forms.specs.Order.{by_class, order}
use Rattle.nf_forms.specs.Ordering.{is_ordered}
use Rattle.nf_forms.specs.Compose.{composite, is_blocked, joined, replaced, compose_step}
use Rattle.nf_forms.specs.Forms.{arranged}
use Rattle.nf_forms.specs.Laws.Runs.{has_starter-append, trail-push}
use Rattle.nf_forms.specs.Laws.Front.{has_starter-at, back-at, marks_push, EndsInGroup, last_starter}
pub use Rattle.nf_forms.specs.Laws.Order.{all_above, IsPlaced, placed}
use Rattle.nf_forms.specs.Laws.Order.{order-after, by_class-push, has_starter-by_class}
use Rattle.nf_forms.specs.Laws.Ordering.{by_class-ordered}
use Rattle.nf_forms.specs.Laws.Starters.{has_starter-order}
use Rattle.nf_forms.specs.Laws.Compose.{compose_step-at, compose_step-none, joined-starter}
use Rattle.nf_forms.specs.Laws.Boundary.{joined-none, step-after}

module _ (p : Properties) where
  -- no member is of a class above k
  abbrev pub none_above : ℕ → List ℕ → Bool
  none_above k m = list_all (λ x. leb (p.class x) k) m

  pub none_above-le : (j k : ℕ) (m : List ℕ) → j ≤ k → none_above j m ≡ true → none_above k m ≡ true
  none_above-le j k [] le all = refl
  none_above-le j k (x ∷ m) le all =
      let parts = and_parts (leb (p.class x) j) (none_above j m) all in
      and_from _ _ (grind (arith, nat_tests, parts.0)) (none_above-le j k m le parts.1)

  pub none_above-push : (k : ℕ) (m : List ℕ) (c : ℕ) → none_above k m ≡ true → leb (p.class c) k ≡ true → none_above k (m ++ c ∷ []) ≡ true
  none_above-push k m c all last = list_all-append (λ x. leb (p.class x) k) m (c ∷ []) ∙ and_from _ _ all (and_from _ _ last refl)

  both-none : (k : ℕ) (m : List ℕ) → none_above k m ≡ true → all_above p k m ≡ true → m ≡ []
  both-none k [] none all = refl
  both-none k (x ∷ m) none all =
      let low = leb-true (p.class x) k (and_parts _ _ none).0 in
      let high = ltb-true k (p.class x) (and_parts _ _ all).0 in
      absurd (omega arith)

  -- marks by class are in order
  pub is_ordered-by_class : (run : List ℕ) → has_starter p run ≡ false → is_ordered p (by_class p run) ≡ true
  is_ordered-by_class run marks = by_class-ordered p run

  -- ---- the steps of both kinds of form

  -- a character more: `b` says whether the form composes
  abbrev pub step : Bool → List ℕ → ℕ → List ℕ
  step true z c = compose_step p z c
  step false z c = z ++ c ∷ []

  abbrev joins : Bool → ℕ → List ℕ → ℕ → Option ℕ
  joins true s m c = joined p s m c
  joins false s m c = None

  fold-push : (z w : List ℕ) → fold (step false) z w ≡ z ++ w
  fold-push z [] = sym (append-nil z)
  fold-push z (c ∷ w) = fold-push (z ++ c ∷ []) w ∙ append_assoc z (c ∷ []) w

  fold-arranged : (b : Bool) (w : List ℕ) → arranged b p w ≡ fold (step b) [] (order p w)
  fold-arranged true w = refl
  fold-arranged false w = sym (fold-push [] (order p w))

  step-at : (b : Bool) (e : List ℕ) (s : ℕ) (m : List ℕ) (c : ℕ) → is_starter p s ≡ true → has_starter p m ≡ false → step b (e ++ s ∷ m) c ≡ e ++ replaced (joins b s m c) s m c
  step-at true e s m c starts marks = compose_step-at p e s m c starts marks
  step-at false e s m c starts marks = append_assoc e (s ∷ m) (c ∷ [])

  joins-starter : (b : Bool) (s : ℕ) (m : List ℕ) (c d : ℕ) → joins b s m c ≡ Some d → is_starter p d ≡ true
  joins-starter true s m c d e = joined-starter p s m c d e
  joins-starter false s m c d e = cc

  joins-none : (b : Bool) (s : ℕ) (m : List ℕ) (c : ℕ) → (b ≡ true → (a : ℕ) → composite p a c ≡ None) → joins b s m c ≡ None
  joins-none false s m c never = refl
  joins-none true s m c never = joined-none p s m c (never refl s)

  some-push : (z : List ℕ) (c : ℕ) → (has_starter p z || is_starter p c) ≡ true → has_starter p (z ++ c ∷ []) ≡ true
  some-push z c some = has_starter-append p z (c ∷ []) ∙ ap (λ b. has_starter p z || b) (or-false (is_starter p c)) ∙ some

  some-step : (b : Bool) (z : List ℕ) (c : ℕ) → (has_starter p z || is_starter p c) ≡ true → has_starter p (step b z c) ≡ true
  some-step false z c some = some-push z c some
  some-step true z c some =
      ⊎_elim (λ more. (step-after p [] z c more).1) (λ none. ap (has_starter p) (compose_step-none p z c none) ∙ some-push z c some) (cases_Bool (has_starter p z))

  some-fold : (b : Bool) (z w : List ℕ) → (has_starter p z || has_starter p w) ≡ true → has_starter p (fold (step b) z w) ≡ true
  some-fold b z [] some = sym (or-false (has_starter p z)) ∙ some
  some-fold b z (c ∷ w) some = some-fold b (step b z c) w (⊎_elim (λ more. or_right _ _ more) (λ none. or_left _ _ (some-step b z c (here none))) (cases_Bool (has_starter p w)))
    where
      here : has_starter p w ≡ false → (has_starter p z || is_starter p c) ≡ true
      here none = ap (λ b. has_starter p z || b) (sym (ap (λ h. is_starter p c || h) none ∙ or-false (is_starter p c))) ∙ some

  -- ---- it stands in no other's way

  unblocked : (m1 m2 : List ℕ) (c d : ℕ) → p.class c < p.class d → is_blocked p (m1 ++ c ∷ m2) d ≡ is_blocked p (m1 ++ m2) d
  unblocked [] m2 c d above = ap (λ b. b || is_blocked p m2 d) (lt-leb (p.class d) (p.class c) above)
  unblocked (x ∷ m1) m2 c d above = ap (λ b. leb (p.class d) (p.class x) || b) (unblocked m1 m2 c d above)

  joins-past : (b : Bool) (s : ℕ) (m1 m2 : List ℕ) (c d : ℕ) → p.class c < p.class d → joins b s (m1 ++ c ∷ m2) d ≡ joins b s (m1 ++ m2) d
  joins-past false s m1 m2 c d above = refl
  joins-past true s m1 m2 c d above = ap (λ h. if h then None else composite p s d) (unblocked m1 m2 c d above)

  -- two texts that differ by c alone
  pub record Lands (e m1 : List ℕ) (c : ℕ) (without with_c : List ℕ) : Type 0 where
    pub starter : ℕ
    pub rest : List ℕ
    pub one : without ≡ e ++ starter ∷ (m1 ++ rest)
    pub other : with_c ≡ e ++ starter ∷ (m1 ++ c ∷ rest)
    pub starts : is_starter p starter ≡ true
    pub marks : has_starter p rest ≡ false
    pub above : all_above p (p.class c) rest ≡ true

  moved : (e m1 : List ℕ) (c : ℕ) (x x' y y' : List ℕ) → x' ≡ x → y' ≡ y → Lands e m1 c x y → Lands e m1 c x' y'
  moved e m1 c x x' y y' f g r =
      record { starter = r.starter; rest = r.rest; one = f ∙ r.one; other = g ∙ r.other; starts = r.starts; marks = r.marks; above = r.above }

  no_starter-in : (m1 m2 : List ℕ) → has_starter p m1 ≡ false → has_starter p m2 ≡ false → has_starter p (m1 ++ m2) ≡ false
  no_starter-in m1 m2 h i = has_starter-append p m1 m2 ∙ or_from _ _ h i

  module _ (b : Bool) (e m1 : List ℕ) (c : ℕ) (first : has_starter p m1 ≡ false) (mark : is_starter p c ≡ false) where
    -- with c or without it, the starter becomes one and the same
    pub lands : (s : ℕ) (m2 tail : List ℕ) → is_starter p s ≡ true → has_starter p m2 ≡ false → has_starter p tail ≡ false
        → all_above p (p.class c) m2 ≡ true → all_above p (p.class c) tail ≡ true
        → Lands e m1 c (fold (step b) (e ++ s ∷ (m1 ++ m2)) tail) (fold (step b) (e ++ s ∷ (m1 ++ c ∷ m2)) tail)
    lands s m2 [] starts marks more above all = record { starter = s; rest = m2; one = refl; other = refl; starts = starts; marks = marks; above = above }
    lands s m2 (d ∷ tail) starts marks more above all =
        let parts = or_parts (is_starter p d) (has_starter p tail) more in
        let high = and_parts _ _ all in
        let past : p.class c < p.class d = ltb-true (p.class c) (p.class d) high.0 in
        let one = step-at b e s (m1 ++ m2) d starts (no_starter-in m1 m2 first marks) in
        let other = step-at b e s (m1 ++ c ∷ m2) d starts (no_starter-in m1 (c ∷ m2) first (or_from _ _ mark marks))
        ∙ ap (λ o. e ++ replaced o s (m1 ++ c ∷ m2) d) (joins-past b s m1 m2 c d past) in
        next (λ t v. lands t v tail) (joins b s (m1 ++ m2) d) refl one other parts.0 parts.1 high.0 high.1
      where
        next : ((t : ℕ) (v : List ℕ) → is_starter p t ≡ true → has_starter p v ≡ false → has_starter p tail ≡ false
            → all_above p (p.class c) v ≡ true → all_above p (p.class c) tail ≡ true
            → Lands e m1 c (fold (step b) (e ++ t ∷ (m1 ++ v)) tail) (fold (step b) (e ++ t ∷ (m1 ++ c ∷ v)) tail))
            → (o : Option ℕ) → joins b s (m1 ++ m2) d ≡ o
            → step b (e ++ s ∷ (m1 ++ m2)) d ≡ e ++ replaced (joins b s (m1 ++ m2) d) s (m1 ++ m2) d
            → step b (e ++ s ∷ (m1 ++ c ∷ m2)) d ≡ e ++ replaced (joins b s (m1 ++ m2) d) s (m1 ++ c ∷ m2) d
            → is_starter p d ≡ false → has_starter p tail ≡ false → ltb (p.class c) (p.class d) ≡ true → all_above p (p.class c) tail ≡ true
            → Lands e m1 c (fold (step b) (step b (e ++ s ∷ (m1 ++ m2)) d) tail) (fold (step b) (step b (e ++ s ∷ (m1 ++ c ∷ m2)) d) tail)
        next again (Some t) is one other last rest high highs =
            moved e m1 c _ _ _ _
            (ap (λ z. fold (step b) z tail) (one ∙ ap (λ o. e ++ replaced o s (m1 ++ m2) d) is))
            (ap (λ z. fold (step b) z tail) (other ∙ ap (λ o. e ++ replaced o s (m1 ++ c ∷ m2) d) is))
            (again t m2 (joins-starter b s (m1 ++ m2) d t is) marks rest above highs)
        next again None is one other last rest high highs =
            moved e m1 c _ _ _ _
            (ap (λ z. fold (step b) z tail) (one ∙ ap (λ o. e ++ replaced o s (m1 ++ m2) d) is ∙ ap (λ v. e ++ s ∷ v) (append_assoc m1 m2 (d ∷ []))))
            (ap (λ z. fold (step b) z tail) (other ∙ ap (λ o. e ++ replaced o s (m1 ++ c ∷ m2) d) is ∙ ap (λ v. e ++ s ∷ v) (append_assoc m1 (c ∷ m2) (d ∷ []))))
            (again s (m2 ++ d ∷ []) starts (marks_push p m2 d marks last) rest
            (list_all-append (λ x. ltb (p.class c) (p.class x)) m2 (d ∷ []) ∙ and_from _ _ above (and_from _ _ high refl)) highs)

  -- ---- the mark stays

  same_marks : (e : List ℕ) (s : ℕ) (m e' : List ℕ) (s' : ℕ) (m' : List ℕ) → is_starter p s ≡ true → is_starter p s' ≡ true → has_starter p m ≡ false → has_starter p m' ≡ false
      → e ++ s ∷ m ≡ e' ++ s' ∷ m' → m ≡ m'
  same_marks e s m e' s' m' starts starts' marks marks' same =
      let groups : s ∷ m ≡ s' ∷ m' = sym (back-at p e s m starts marks) ∙ ap (back p) same ∙ back-at p e' s' m' starts' marks' in
      cc

  pub arranged-push_mark : (b : Bool) (w : List ℕ) (c : ℕ) → has_starter p w ≡ true → is_starter p c ≡ false → (b ≡ true → (a : ℕ) → composite p a c ≡ None)
      → (e : List ℕ) (s : ℕ) (m : List ℕ) → arranged b p w ≡ e ++ s ∷ m → is_starter p s ≡ true → has_starter p m ≡ false → none_above (p.class c) m ≡ true
      → arranged b p (w ++ c ∷ []) ≡ arranged b p w ++ c ∷ []
  arranged-push_mark b w c some mark never e s m text starts marks low = cut_at (last_starter p w some)
    where
      landed : (z tail : List ℕ) → EndsInGroup p z → has_starter p tail ≡ false → all_above p (p.class c) tail ≡ true
          → arranged b p w ≡ fold (step b) z tail → arranged b p (w ++ c ∷ []) ≡ fold (step b) (step b z c) tail
          → arranged b p (w ++ c ∷ []) ≡ arranged b p w ++ c ∷ []
      landed z tail g no_starter above one other =
          let at = step-at b g.before g.starter g.marks c g.starts g.no_starter
          ∙ ap (λ o. g.before ++ replaced o g.starter g.marks c) (joins-none b g.starter g.marks c never) in
          let l = moved g.before g.marks c _ _ _ _
          (one ∙ ap (λ v. fold (step b) v tail) (g.text ∙ ap (λ v. g.before ++ g.starter ∷ v) (sym (append-nil g.marks))))
          (other ∙ ap (λ v. fold (step b) v tail) (ap (λ v. step b v c) g.text ∙ at))
          (lands b g.before g.marks c g.no_starter mark g.starter [] tail g.starts refl no_starter refl above) in
          let same : g.marks ++ l.rest ≡ m = same_marks g.before l.starter (g.marks ++ l.rest) e s m l.starts starts (no_starter-in g.marks l.rest g.no_starter l.marks) marks (sym l.one ∙ text) in
          let low_rest = (and_parts (none_above (p.class c) g.marks) (none_above (p.class c) l.rest) (sym (list_all-append (λ x. leb (p.class x) (p.class c)) g.marks l.rest) ∙ ap (none_above (p.class c)) same ∙ low)).1 in
          let none : l.rest ≡ [] = both-none (p.class c) l.rest low_rest l.above in
          l.other
          ∙ ap (λ v. g.before ++ l.starter ∷ (g.marks ++ c ∷ v)) none
          ∙ sym (append_assoc g.before (l.starter ∷ g.marks) (c ∷ []))
          ∙ ap (λ v. (g.before ++ l.starter ∷ v) ++ c ∷ []) (sym (append-nil g.marks) ∙ ap (λ v. g.marks ++ v) (sym none))
          ∙ ap (λ v. v ++ c ∷ []) (sym l.one)

      put : (head run : List ℕ) → trail p head ≡ 0 → has_starter p head ≡ true → has_starter p run ≡ false → w ≡ head ++ run
          → IsPlaced p c (by_class p run) (by_class p (run ++ c ∷ [])) → arranged b p (w ++ c ∷ []) ≡ arranged b p w ++ c ∷ []
      put head run ends begun no_starter parts r =
          let z = fold (step b) [] (order p head ++ r.head) in
          let has = some-fold b [] (order p head ++ r.head) (has_starter-append p (order p head) r.head ∙ or_left _ _ (has_starter-order p head ∙ begun)) in
          let whole = or_parts (has_starter p r.head) (has_starter p r.tail) (sym (has_starter-append p r.head r.tail) ∙ ap (has_starter p) (sym r.before) ∙ has_starter-by_class p run) in
          landed z r.tail (last_starter p z has) whole.1 r.above
          (fold-arranged b w
          ∙ ap (fold (step b) []) (ap (order p) parts ∙ order-after p head run ends no_starter ∙ ap (λ v. order p head ++ v) r.before ∙ sym (append_assoc (order p head) r.head r.tail))
          ∙ fold-append (step b) [] (order p head ++ r.head) r.tail)
          (fold-arranged b (w ++ c ∷ [])
          ∙ ap (fold (step b) [])
          (ap (order p) (ap (λ v. v ++ c ∷ []) parts ∙ append_assoc head run (c ∷ []))
          ∙ order-after p head (run ++ c ∷ []) ends (marks_push p run c no_starter mark)
          ∙ ap (λ v. order p head ++ v) r.after ∙ sym (append_assoc (order p head) r.head (c ∷ r.tail)))
          ∙ fold-append (step b) [] (order p head ++ r.head) (c ∷ r.tail))

      cut_at : EndsInGroup p w → arranged b p (w ++ c ∷ []) ≡ arranged b p w ++ c ∷ []
      cut_at g =
          put (g.before ++ g.starter ∷ []) g.marks (trail-push p g.before g.starter ∙ cond-true _ _ _ g.starts) (has_starter-at p g.before g.starter [] g.starts) g.no_starter
          (g.text ∙ sym (append_assoc g.before (g.starter ∷ []) g.marks))
          (subst (λ v. IsPlaced p c (by_class p g.marks) v) (sym (by_class-push p g.marks c mark)) (placed p c (by_class p g.marks) (has_starter-by_class p g.marks) (is_ordered-by_class g.marks g.no_starter)))
