-- A starter that walks over the marks after it, and composes with those that nothing blocks (The Unicode Standard, section
-- 3.11, D117).
use Rattle.std.proofs.Common.{◌≡◌, ℕ, ◌+◌, ◌<◌, ◌≤◌, max, false, nat_le, List, [], ◌∷◌, ◌++◌, length, map, take, get_or, Option, Some, None, ap, arith, if◌then◌else◌, fold}
use Rattle.nf_boundary.proofs.Common.{nat_tests, length-map, length-append, get_or-map, take_more, Properties, is_starter, has_starter, composite, replaced, join, Mark, list_any-append, list_any_at, mark_of}
use Rattle.nf_forms.specs.Compose.{blocks, is_blocked}
use Rattle.std.proofs.lemmas.List.Sums.{fold-append}

-- after i marks: the starter, those that are left, and the greatest class of these
pub record Walks (p : Properties) (first : ℕ) (marks : List Mark) (i highest starter : ℕ) (text : List ℕ) : Type 0 where
  pub left : List ℕ
  pub text_is : text ≡ first ∷ left
  pub room : length left ≤ i
  pub made : (m : List ℕ) → marks ≡ map (mark_of p) m → has_starter p m ≡ false → fold (join p) (first ∷ []) (take i m) ≡ starter ∷ left
  pub blocked : (m : List ℕ) → marks ≡ map (mark_of p) m → has_starter p m ≡ false → (c : ℕ) → is_blocked p left c ≡ blocks highest (p.class c)

module _ (p : Properties) (first : ℕ) (marks : List Mark) where
  mark_at : (m : List ℕ) (i : ℕ) (mark : Mark) → marks ≡ map (mark_of p) m → i < length marks → mark ≡ get_or marks i mark → mark ≡ mark_of p (get_or m i 0)
  mark_at m i mark same below read = rw (same, get_or-map (mark_of p) m i 0 mark (omega (arith, ap length same, length-map m (mark_of p)))) at read

  module _ (i highest starter : ℕ) (text : List ℕ) (w : Walks p first marks i highest starter text) (below : i < length marks) (mark : Mark) (read : mark ≡ get_or marks i mark)
      (o : Option ℕ) (joins : p.class mark.character ≡ mark.class → o ≡ (if blocks highest mark.class then None else composite p starter mark.character)) where
    within : (m : List ℕ) → marks ≡ map (mark_of p) m → i < length m
    within m same = omega (arith, below, ap length same, length-map m (mark_of p))

    -- the next mark
    class_is : (m : List ℕ) → marks ≡ map (mark_of p) m → has_starter p m ≡ false → 0 < mark.class
    class_is m same plain = grind (arith, nat_tests, list_any_at (is_starter p) m i 0 (within m same), mark_at m i mark same below read)

    -- what it becomes with what stands there
    next : (m : List ℕ) → marks ≡ map (mark_of p) m → has_starter p m ≡ false → fold (join p) (first ∷ []) (take (i + 1) m) ≡ replaced o starter w.left mark.character
    next m same plain =
        let at = mark_at m i mark same below read in
        rw (take_more m i 0 (within m same), fold-append (join p), w.made m same plain, w.blocked m same plain _, joins (rw at), at)

    pub walks_joined : (d : ℕ) → o ≡ Some d → Walks p first marks (i + 1) highest d text
    walks_joined d is = record { left = w.left; text_is = w.text_is; room = omega (arith, w.room); made = λ m same plain. rw is at (next m same plain); blocked = w.blocked }

    pub walks_left : o ≡ None → Walks p first marks (i + 1) (max highest mark.class) starter (text ++ mark.character ∷ [])
    walks_left is = record {
      left = w.left ++ mark.character ∷ [];
      text_is = rw w.text_is;
      room = omega (arith, w.room, length-append {A = ℕ});
      made = λ m same plain. rw is at (next m same plain);
      blocked = λ m same plain c. rw (list_any-append (λ x. nat_le (p.class c) (p.class x)), w.blocked m same plain c, mark_at m i mark same below read) (grind (arith, nat_tests, class_is m same plain, mark_at m i mark same below read));
    }
