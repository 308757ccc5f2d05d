-- A span is its own form, whatever stands before it, and what is settled there; a character more.
use Rattle.std.proofs.Common.{◌≡◌, ℕ, ◌≤◌, ◌+◌, inl, inr, Bool, true, false, List, [], ◌∷◌, ◌++◌, refl, sym, ap, subst, ◌∙◌, arith, append-nil, append_assoc, length}
use Rattle.std.proofs.lemmas.Bool.{cond-true, cond-false, or_left, or_from, ne_eqb, le-leb}
use Rattle.std.specs.Prelude.{if◌then◌else◌}
use Rattle.nf_forms.specs.Properties.{Properties, is_starter}
use Rattle.nf_forms.specs.Runs.{has_starter, lead, trail}
use Rattle.nf_forms.specs.Front.{front}
use Rattle.nf_forms.specs.declared.form.Form.{Form}
use Rattle.nf_forms.specs.declared.form.Form.TheVariants.{Nfkd}
use Rattle.nf_forms.specs.Forms.{row_of, decomposed, composes, arranged, normal_form}
use Rattle.nf_forms.specs.StreamSafe.{max_run, stream_safe}
use Rattle.nf_forms.specs.Order.{by_class}
use Rattle.nf_forms.specs.Laws.Runs.{has_starter-append, lead-marks}
use Rattle.nf_forms.specs.Laws.Front.{has_starter-at, front-append_some, marks_push}
use Rattle.nf_forms.specs.Laws.Sound.{IsSoundText}
use Rattle.nf_forms.specs.Laws.StreamSafe.{own_row, stream_safe-push, decomposed-push, trail-decomposed-push, trail-stream_safe-le}
use Rattle.nf_forms.specs.SafeForm.{safe_form}
use Rattle.nf_forms.specs.Boundary.{HasBoundaryBefore, IsOwnBoundary}
use Rattle.nf_forms.specs.Span.{IsMark, BeginsRun, StaysAfter, CountsOn, GoesOn, IsSpanFrom, IsSpan}
use Rattle.nf_forms.specs.Laws.Boundary.{last_run, safe_step-room, normal_form-boundary}
use Rattle.nf_forms.specs.Laws.MarkAfter.{none_above, none_above-le, none_above-push, arranged-push_mark}

module _ (p : Properties) where
  -- what is known at the end of a text: no mark after the last starter of its form is of a class above k, and NFKD ends
  -- in at most n non-starters
  pub record Stands (f : Form) (k n : ℕ) (x : List ℕ) : Type 0 where
    pub some : has_starter p (decomposed f p (stream_safe p x)) ≡ true
    pub before : List ℕ
    pub starter : ℕ
    pub marks : List ℕ
    pub text : safe_form f p x ≡ before ++ starter ∷ marks
    pub starts : is_starter p starter ≡ true
    pub no_starter : has_starter p marks ≡ false
    pub low : none_above p k marks ≡ true
    pub counted : last_run p (stream_safe p x) ≤ n
    pub room : n ≤ max_run

  -- cs goes after x unchanged, and then k and n are known
  pub record Passes (f : Form) (k n : ℕ) (x cs : List ℕ) : Type 0 where
    pub safe : stream_safe p (x ++ cs) ≡ stream_safe p x ++ cs
    pub text : safe_form f p (x ++ cs) ≡ safe_form f p x ++ cs
    pub stands : Stands f k n (x ++ cs)

  -- ---- one character more

  -- a starter, whose form alone is itself, and of which NFKD leaves room
  passes-starter : (f : Form) (c count : ℕ) → is_starter p c ≡ true → HasBoundaryBefore p f c → normal_form f p (c ∷ []) ≡ c ∷ [] → count ≤ max_run
      → (k : ℕ) (x : List ℕ) → last_run p (stream_safe p x) + lead p (p.compat c) ≤ max_run → last_run p (stream_safe p x ++ c ∷ []) ≤ count → Passes f k count x (c ∷ [])
  unfolding safe_form
  passes-starter f c count starts boundary_before alone room k x fits counted =
      let out = stream_safe p x in
      let safe = stream_safe-push p x c ∙ safe_step-room p out c fits in
      let text = ap (normal_form f p) safe ∙ normal_form-boundary p f c boundary_before out [] ∙ ap (λ v. safe_form f p x ++ v) alone in
      record {
        safe = safe;
        text = text;
        stands = record {
          some =
              ap (λ v. has_starter p (decomposed f p v)) safe ∙ ap (has_starter p) (decomposed-push p f out c ∙ ap (λ v. decomposed f p out ++ v) boundary_before.row)
              ∙ has_starter-at p (decomposed f p out) boundary_before.first boundary_before.rest boundary_before.starter;
          before = safe_form f p x;
          starter = c;
          marks = [];
          text = text;
          starts = starts;
          no_starter = refl;
          low = refl;
          counted = subst (λ v. last_run p v ≤ count) (sym safe) counted;
          room = room;
        };
      }

  passes-begin : (f : Form) (c count : ℕ) → BeginsRun p f c count → (k : ℕ) (x : List ℕ) → last_run p (stream_safe p x) ≤ max_run → Passes f k count x (c ∷ [])
  passes-begin f c count h k x room =
      let own_boundary = h.own_boundary in
      let count_is = trail-decomposed-push p Nfkd (stream_safe p x) c ∙ cond-true _ _ _ own_boundary.counts.some in
      passes-starter f c count own_boundary.starts own_boundary.boundary_before own_boundary.alone h.room k x (omega (arith, own_boundary.counts.lead)) (omega (arith, count_is, h.counted))

  passes-count : (f : Form) (n c count : ℕ) → CountsOn p f n c count → (k : ℕ) (x : List ℕ) → last_run p (stream_safe p x) ≤ n → Passes f k count x (c ∷ [])
  passes-count f n c count h k x so_far =
      let count_is = trail-decomposed-push p Nfkd (stream_safe p x) c ∙ cond-false _ _ _ h.none in
      passes-starter f c count h.starts h.boundary_before h.alone h.room k x (omega (arith, lead-marks p (p.compat c) h.none, h.counted, h.room)) (omega (arith, count_is, h.counted))

  pub row-mark : (f : Form) (c k : ℕ) → IsMark p c k → row_of f p c ≡ c ∷ []
  row-mark f c k h = own_row p c h.canonical h.compat f

  pub mark-not_starter : (c k : ℕ) → IsMark p c k → is_starter p c ≡ false
  mark-not_starter c k h = let is = h.class in let some = h.above in ne_eqb (p.class c) 0 (λ e. absurd (omega arith))

  pub passes-mark : (f : Form) (k n c class count : ℕ) → StaysAfter p f k n c class count → (x : List ℕ) → Stands f k n x → Passes f class count x (c ∷ [])
  unfolding safe_form
  passes-mark f k n c class count h x at =
      let out = stream_safe p x in
      let mark = mark-not_starter c class h.mark in
      let none : has_starter p (c ∷ []) ≡ false = or_from _ _ mark refl in
      let lead_is : lead p (p.compat c) ≡ 1 = ap (lead p) h.mark.compat ∙ lead-marks p (c ∷ []) none in
      let so_far = at.counted in
      let more = h.counted in
      let most = h.room in
      let safe = stream_safe-push p x c ∙ safe_step-room p out c (omega arith) in
      let decomposed_is = ap (decomposed f p) safe ∙ decomposed-push p f out c ∙ ap (λ v. decomposed f p out ++ v) (row-mark f c class h.mark) in
      let class_is = h.mark.class in
      let text = ap (arranged (composes f) p) decomposed_is
      ∙ arranged-push_mark p (composes f) (decomposed f p out) c at.some mark h.never_second at.before at.starter at.marks at.text at.starts at.no_starter
      (none_above-le p k (p.class c) at.marks (let up = h.ordered in omega arith) at.low) in
      record {
        safe = safe;
        text = text;
        stands = record {
          some = ap (has_starter p) decomposed_is ∙ has_starter-append p (decomposed f p out) (c ∷ []) ∙ or_left _ _ at.some;
          before = at.before;
          starter = at.starter;
          marks = at.marks ++ c ∷ [];
          text = text ∙ ap (λ v. v ++ c ∷ []) at.text ∙ append_assoc at.before (at.starter ∷ at.marks) (c ∷ []);
          starts = at.starts;
          no_starter = marks_push p at.marks c at.no_starter mark;
          low = none_above-push p class at.marks c (none_above-le p k class at.marks h.ordered at.low) (le-leb (p.class c) class (omega arith));
          counted =
              let count_is = ap (last_run p) safe ∙ trail-decomposed-push p Nfkd out c
              ∙ ap (λ row. if has_starter p row then trail p row else length row + last_run p out) h.mark.compat ∙ cond-false _ _ _ none in
              omega arith;
          room = h.room;
        };
      }

  pub passes-one : (f : Form) (k n c class count : ℕ) → GoesOn p f k n c class count → (x : List ℕ) → Stands f k n x → Passes f class count x (c ∷ [])
  passes-one f k n c class count (inl begins) x at =
      let so_far = at.counted in
      let most = at.room in
      passes-begin f c count begins class x (omega arith)
  passes-one f k n c class count (inr (inl after)) x at = passes-mark f k n c class count after x at
  passes-one f k n c class count (inr (inr counts)) x at = passes-count f n c count counts class x at.counted

  -- ---- a text more

  passes-nil : (f : Form) (k n : ℕ) (x : List ℕ) → Stands f k n x → Passes f k n x []
  passes-nil f k n x at = record {
    safe = ap (stream_safe p) (append-nil x) ∙ sym (append-nil (stream_safe p x));
    text = ap (safe_form f p) (append-nil x) ∙ sym (append-nil (safe_form f p x));
    stands = subst (Stands f k n) (sym (append-nil x)) at;
  }

  passes-both : (f : Form) (k n class count : ℕ) (x cs ds : List ℕ) → Passes f k n x cs → Passes f class count (x ++ cs) ds → Passes f class count x (cs ++ ds)
  passes-both f k n class count x cs ds first second = record {
    safe = ap (stream_safe p) (sym (append_assoc x cs ds)) ∙ second.safe ∙ ap (λ v. v ++ ds) first.safe ∙ append_assoc (stream_safe p x) cs ds;
    text = ap (safe_form f p) (sym (append_assoc x cs ds)) ∙ second.text ∙ ap (λ v. v ++ ds) first.text ∙ append_assoc (safe_form f p x) cs ds;
    stands = subst (Stands f class count) (append_assoc x cs ds) second.stands;
  }

  -- after a text at whose end k and n are known
  pub passes-from : (f : Form) (k n : ℕ) (cs : List ℕ) (class count : ℕ) → IsSpanFrom p f k n cs class count → (x : List ℕ) → Stands f k n x → Passes f class count x cs
  passes-from f k n [] class count span x at =
      subst (λ a. Passes f a count x []) (span.0) (subst (λ a. Passes f k a x []) (span.1) (passes-nil f k n x at))
  passes-from f k n (c ∷ cs) class count span x at =
      let here = passes-one f k n c span.0 span.1 span.2 x at in
      passes-both f span.0 span.1 class count x (c ∷ []) cs here (passes-from f span.0 span.1 cs class count span.3 (x ++ c ∷ []) here.stands)

  -- after a full run no mark comes
  begins : (f : Form) (next c more : ℕ) → GoesOn p f 0 max_run c next more → BeginsRun p f c more
  begins f next c more (inl run) = run
  begins f next c more (inr (inl after)) = absurd (omega (arith, after.counted, after.room))
  begins f next c more (inr (inr counts)) = absurd (omega (arith, counts.counted, counts.some, counts.room))

  -- after any text that leaves room, a span passes
  pub passes-span : (f : Form) (c : ℕ) (cs : List ℕ) (class count : ℕ) → IsSpan p f (c ∷ cs) class count → (x : List ℕ) → last_run p (stream_safe p x) ≤ max_run
      → Passes f class count x (c ∷ cs)
  passes-span f c cs class count span x room =
      let here = passes-begin f c span.1 (begins f span.0 c span.1 span.2) span.0 x room in
      passes-both f span.0 span.1 class count x (c ∷ []) cs here (passes-from f span.0 span.1 cs class count span.3 (x ++ c ∷ []) here.stands)

  -- its first character is an own boundary
  pub span-begins : (f : Form) (c : ℕ) (cs : List ℕ) (class count : ℕ) → IsSpan p f (c ∷ cs) class count → IsOwnBoundary p f c
  span-begins f c cs class count span = (begins f span.0 c span.1 span.2).own_boundary

  -- ---- the laws

  module _ (f : Form) (cs : List ℕ) (class count : ℕ) (span : IsSpan p f cs class count) (x : List ℕ) (sound : IsSoundText p (stream_safe p x)) where
    room : last_run p (stream_safe p x) ≤ max_run
    room = trail-stream_safe-le p Nfkd x sound

    both : (ds : List ℕ) → IsSpan p f ds class count → (stream_safe p (x ++ ds) ≡ stream_safe p x ++ ds) × (safe_form f p (x ++ ds) ≡ safe_form f p x ++ ds)
    both [] span = (ap (stream_safe p) (append-nil x) ∙ sym (append-nil (stream_safe p x)), ap (safe_form f p) (append-nil x) ∙ sym (append-nil (safe_form f p x)))
    both (d ∷ ds) span = let passes = passes-span f d ds class count span x room in (passes.safe, passes.text)

    pub stream_safe-span : stream_safe p (x ++ cs) ≡ stream_safe p x ++ cs
    stream_safe-span = (both cs span).0

    pub safe_form-span : safe_form f p (x ++ cs) ≡ safe_form f p x ++ cs
    safe_form-span = (both cs span).1

  module _ (f : Form) (c : ℕ) (cs : List ℕ) (class count : ℕ) (span : IsSpan p f (c ∷ cs) class count) (x : List ℕ) (sound : IsSoundText p (stream_safe p x)) where
    -- what is settled
    pub front-span : front p (safe_form f p (x ++ c ∷ cs)) ≡ safe_form f p x ++ front p (c ∷ cs)
    front-span =
        ap (front p) (safe_form-span f (c ∷ cs) class count span x sound)
        ∙ front-append_some p (safe_form f p x) (c ∷ cs) (or_left _ _ (span-begins f c cs class count span).starts)

    -- how many non-starters NFKD then ends in
    pub counted-span : last_run p (stream_safe p (x ++ c ∷ cs)) ≤ count
    counted-span = (passes-span f c cs class count span x (trail-stream_safe-le p Nfkd x sound)).stands.counted

  -- a span alone is stream-safe and in the form
  pub safe_form-span_alone : (f : Form) (cs : List ℕ) (class count : ℕ) → IsSpan p f cs class count → (stream_safe p cs ≡ cs) × (safe_form f p cs ≡ cs)
  unfolding safe_form by_class
  safe_form-span_alone f cs class count span = (
    stream_safe-span f cs class count span [] refl,
    safe_form-span f cs class count span [] refl ∙ ap (λ v. v ++ cs) (empty (composes f)),
  )
    where
      empty : (b : Bool) → arranged b p [] ≡ []
      empty true = refl
      empty false = refl
