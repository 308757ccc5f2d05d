-- How far a text is taken under a policy.
use Rattle.nf_filter.proofs.Common.{cases_Bool, ◌≡◌, ℕ, ◌==◌, ◌<◌, Bool, true, false, List, [], ◌∷◌, ◌++◌, length, Option, Some, None, ◌⊎◌, inl, inr, ⊎_elim, refl, sym, ap, ◌∙◌, arith, append-nil, append_assoc, eq-eqb, ne_eqb, take_while, if◌then◌else◌, length-append, list_all, prefix_len, and_parts, eqb-true, eqb-false, Properties, Form, Fault, Row, Unassigned, first_fault, taken_utf8, allowed, is_usable, usable, Extends, Extends-none, Extends-encodes, settled-extends, is_usable-stays_out, usable-all, usable-grows, usable-stays, usable-stop, settled_text, is_taken, length-prefix_len, prefix_len-append, take-append-le, take_all, take-append-add}
use Rattle.std.proofs.lemmas.List.Sums.{take_while-cons, prefix_len-le-length}

module _ (test : ℕ → Bool) where
  pub take_while-append : (x y : List ℕ) → list_all test x ≡ true → take_while test (x ++ y) ≡ x ++ take_while test y
  take_while-append [] y all = refl
  take_while-append (c ∷ x) y all =
      let parts = and_parts (test c) (list_all test x) all in
      rw (take_while-cons test c (x ++ y), parts.0, take_while-append x y parts.1)

  pub take_while-stop : (x : List ℕ) (c : ℕ) (y : List ℕ) → list_all test x ≡ true → test c ≡ false → take_while test ((x ++ c ∷ []) ++ y) ≡ x
  take_while-stop x c y all fails = rw (append_assoc x (c ∷ []) y, take_while-append x (c ∷ y) all, take_while-cons test c y, fails) (append-nil x)

module _ (p : Properties) where
  -- where all are allowed, one more
  pub allowed-append : (a : Bool) (x y : List ℕ) → allowed a p x ≡ x → allowed a p (x ++ y) ≡ x ++ allowed a p y
  allowed-append false x y all = refl
  allowed-append true x y all =
      let n : prefix_len p.assigned x ≡ length x = sym (length-prefix_len p.assigned x) ∙ ap length all in
      rw (prefix_len-append p.assigned x y, eq-eqb (prefix_len p.assigned x) (length x) n) (take-append-add x y (prefix_len p.assigned y))

  pub allowed-none : (a : Bool) → allowed a p [] ≡ []
  allowed-none false = refl
  allowed-none true = refl

  -- what was allowed stays, and where not all was, no more is
  pub allowed-grows : (a : Bool) (x y : List ℕ) → (allowed a p x ≡ x) ⊎ ((length (allowed a p x) < length x) × (allowed a p (x ++ y) ≡ allowed a p x))
  allowed-grows false x y = inl refl
  allowed-grows true x y = ⊎_elim (λ e. inl (take_all (prefix_len p.assigned x) x (omega (arith, eqb-true _ _ e))))
      (λ e. inr (
        omega (arith, length-prefix_len p.assigned x, prefix_len-le-length p.assigned x, eqb-false _ _ e),
        rw (prefix_len-append p.assigned x y, ne_eqb (prefix_len p.assigned x) (length x) (eqb-false _ _ e)) (take-append-le (prefix_len p.assigned x) x y (prefix_len-le-length p.assigned x)),
      )) (cases_Bool (prefix_len p.assigned x == length x))

  -- the first fault, by what may be taken of a text of n characters
  abbrev fault_by : (List ℕ → ℕ) → List ℕ → ℕ → Option Fault → Option Fault
  fault_by place front n other = if is_usable p front then (if length front == n then other else Some (Unassigned (place front))) else Some (Row (place (usable p front)))

  pub first_fault-is : (a : Bool) (place : List ℕ → ℕ) (x : List ℕ) (other : Option Fault) → first_fault a p place x other ≡ fault_by place (allowed a p x) (length x) other
  first_fault-is true place x other = refl
  first_fault-is false place x other = rw (eq-eqb (length x) (length x) refl) refl

  -- a text all of which is taken
  pub first_fault-none : (a : Bool) (place : List ℕ → ℕ) (x : List ℕ) (other : Option Fault) → is_usable p x ≡ true → allowed a p x ≡ x → first_fault a p place x other ≡ other
  first_fault-none a place x other sound all = rw (first_fault-is a place x other, all, sound, eq-eqb (length x) (length x) refl) refl

  -- what has no fault is taken
  pub taken : (a : Bool) (place : List ℕ → ℕ) (x : List ℕ) (other : Option Fault) → first_fault a p place x other ≡ None → is_taken a p x ≡ true
  taken a place x other none =
      let none : fault_by place (allowed a p x) (length x) other ≡ None = sym (first_fault-is a place x other) ∙ none in grind arith

  -- what is taken to its end
  pub taken_whole : (a : Bool) (x : List ℕ) → is_taken a p x ≡ true → (is_usable p x ≡ true) × (allowed a p x ≡ x)
  taken_whole a x is =
      let parts = and_parts (is_usable p (allowed a p x)) _ is in
      let all : allowed a p x ≡ x = ⊎_elim (λ all. all) (λ few. absurd (omega (arith, eqb-true _ _ parts.1))) (allowed-grows a x []) in
      (rw all at parts.0, all)

  -- what was not taken stays so, whatever follows
  pub first_fault-stays : (a : Bool) (place : List ℕ → ℕ) (x y : List ℕ) (other : Option Fault) (fault : Fault) → Some fault ≡ first_fault a p place x None
      → (first_fault a p place (x ++ y) other ≡ Some fault) × (usable p (allowed a p (x ++ y)) ≡ usable p (allowed a p x))
  first_fault-stays a place x y other fault is =
      let told : fault_by place (allowed a p x) (length x) None ≡ Some fault = sym (is ∙ first_fault-is a place x None) in
      ⊎_elim
      (λ (same : allowed a p x ≡ x). ⊎_elim
      (λ (e : is_usable p x ≡ true). let none : None ≡ Some fault = rw (same, e, eq-eqb (length x) (length x) refl) at told in cc)
      (λ (e : is_usable p x ≡ false).
      let longer = allowed-append a x y same in
      let stays = usable-stays p x (allowed a p y) e in
      (rw (first_fault-is a place (x ++ y) other, longer, is_usable-stays_out p x (allowed a p y) e, stays) (rw (same, e) at told), rw (longer, same) stays))
      (cases_Bool (is_usable p x)))
      (λ less.
      let less_too : ¬ (length (allowed a p x) ≡ length (x ++ y)) = λ e. omega (arith, less.0, e, length-append x y) in
      let not_all : ¬ (length (allowed a p x) ≡ length x) = λ e. omega (arith, less.0, e) in
      (rw (first_fault-is a place (x ++ y) other, less.1, ne_eqb _ _ less_too) (rw (ne_eqb _ _ not_all) at told), ap (usable p) less.1))
      (allowed-grows a x y)

  -- what of a text is taken is not lost when more follows
  pub taken_utf8-grows : (a : Bool) (f : Form) (x y : List ℕ) → Extends (taken_utf8 a f p x) (taken_utf8 a f p (x ++ y))
  taken_utf8-grows a f x y =
      let more : Extends (usable p (allowed a p x)) (usable p (allowed a p (x ++ y))) =
      ⊎_elim (λ all. rw (allowed-append a x y all, all) (usable-grows p x (allowed a p y))) (λ less. rw less.1 (Extends-none _)) (allowed-grows a x y) in
      Extends-encodes (rw more.text (settled-extends p f _ more.more))

  -- all of it
  pub taken-all : (a : Bool) (x : List ℕ) → is_usable p x ≡ true → allowed a p x ≡ x → usable p (allowed a p x) ≡ x
  taken-all a x sound all = rw all (usable-all p x sound)

  pub taken_utf8-extends : (f : Form) (x y : List ℕ) → is_usable p x ≡ true → Extends (settled_text f p x) (taken_utf8 false f p (x ++ y))
  taken_utf8-extends f x y sound = rw (usable-all p x sound) at (taken_utf8-grows false f x y)

  -- a character after x that cannot be used
  pub first_fault-stop : (x : List ℕ) (c : ℕ) (rest : List ℕ) → is_usable p x ≡ true → is_usable p (x ++ c ∷ []) ≡ false → (place : List ℕ → ℕ) → first_fault false p place ((x ++ c ∷ []) ++ rest) None ≡ Some (Row (place x))
  first_fault-stop x c rest sound out place = rw (is_usable-stays_out p (x ++ c ∷ []) rest out, usable-stop p x c rest sound out)
