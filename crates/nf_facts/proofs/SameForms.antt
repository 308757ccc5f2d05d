-- The forms and the Stream-Safe Text Process over Unicode's data are those of `unicode_normalization`.
use Rattle.std.proofs.Common.{⊎_elim, ◌≡◌, ℕ, true, false, List, [], ◌∷◌, ◌++◌, Option, Some, None, refl, ◌∙◌, arith, append-nil, append_assoc, fold, ◌<◌, ◌+◌, length, if◌then◌else◌}
use Rattle.nf_facts.proofs.Common.{cases_Bool, nat_tests, decompose, is_starter, has_starter, Form, Nfc, normal_form, ucd, kit_form, Properties, lead, trail, Nfkd}
use Rattle.unicode_normalization.specs.Compose.{primary_composite, is_blocked as kit_is_blocked, joined as kit_joined, compose_after, compose as kit_compose}
use Rattle.unicode_normalization.specs.Forms.{decomposed as kit_decomposed, normalize}
use Rattle.unicode_normalization.specs.Order.{is_reorderable as kit_is_reorderable, is_ordered as kit_is_ordered, sink, canonical_order}
use Rattle.unicode_normalization.proofs.ComposeLemmas.{is_starter_from, not_starter_from, is_starter-false, joined-free, compose_after-nil, compose_after-cases, compose-mark}
use Rattle.unicode_normalization.proofs.DecomposeLemmas.{primary_composite-starter}
use Rattle.unicode_normalization.proofs.OrderLemmas.{is_reorderable-true, is_ordered-canonical_order}
use Rattle.nf_forms.specs.Order.{order}
use Rattle.nf_forms.specs.Ordering.{is_ordered, with_class}
use Rattle.nf_forms.specs.Compose.{composite, is_blocked, replaced, compose_step, compose}
use Rattle.nf_forms.specs.Laws.Front.{marks_push}
use Rattle.nf_forms.specs.Laws.Audited.{order-same}
use Rattle.nf_forms.specs.Laws.Ordering.{order-ordered}
use Rattle.nf_forms.specs.Laws.Compose.{compose_step-at, compose_step-none}
use Rattle.unicode_normalization.specs.StreamSafe.{leading_nonstarters, trailing_nonstarters, is_too_many, count_after, stream_safe_after, stream_safe as kit_stream_safe}
use Rattle.unicode_normalization.proofs.StreamSafeLemmas.{stream_safe_after-nil, stream_safe_after-parted, stream_safe_after-together}
use Rattle.nf_forms.specs.StreamSafe.{joiner, safe_step, stream_safe}
use Rattle.nf_forms.specs.Laws.Runs.{lead-marks}
use Rattle.nf_forms.specs.Laws.Sound.{JoinerIsPlain-from_sound}
use Rattle.nf_forms.specs.Laws.StreamSafe.{trail-decomposed-push, trail-decomposed-joiner}
use Rattle.nf_forms.specs.Laws.Boundary.{last_run}
use Rattle.nf_facts.proofs.Rows.{is_sound-ucd}

-- ---- ordering

is_ordered-same : (w : List ℕ) → is_ordered ucd w ≡ kit_is_ordered w
unfolding ucd kit_is_ordered kit_is_reorderable
is_ordered-same [] = refl
is_ordered-same (a ∷ []) = refl
is_ordered-same (a ∷ b ∷ w) = rw (is_ordered-same (b ∷ w))

with_class-sink : (k c : ℕ) (ds : List ℕ) → with_class ucd k (sink c ds) ≡ with_class ucd k (c ∷ ds)
unfolding ucd sink
with_class-sink k c [] = refl
with_class-sink k c (d ∷ ds) = grind (arith, nat_tests, is_reorderable-true c d, with_class-sink k c ds)

with_class-canonical_order : (k : ℕ) (w : List ℕ) → with_class ucd k (canonical_order w) ≡ with_class ucd k w
unfolding ucd canonical_order
with_class-canonical_order k [] = refl
with_class-canonical_order k (c ∷ w) = rw (with_class-sink k c (canonical_order w), with_class-canonical_order k w)

order-ucd : (w : List ℕ) → order ucd w ≡ canonical_order w
order-ucd w =
    order-same ucd w (canonical_order w) (λ k. rw (with_class-canonical_order k w))
    ∙ order-ordered ucd (canonical_order w) (rw (is_ordered-same (canonical_order w)) (is_ordered-canonical_order w))

-- ---- composition

pub composite-ucd : (a b : ℕ) → composite ucd a b ≡ primary_composite a b
unfolding ucd
composite-ucd a b = grind (arith, nat_tests, primary_composite-starter a b)

is_blocked-ucd : (m : List ℕ) (c : ℕ) → has_starter ucd m ≡ false → is_blocked ucd m c ≡ kit_is_blocked m c
unfolding ucd kit_is_blocked
is_blocked-ucd [] c marks = refl
is_blocked-ucd (x ∷ m) c marks = grind (arith, nat_tests, is_blocked-ucd m c)

after : (e : List ℕ) (s : ℕ) (m cs : List ℕ) → is_starter ucd s ≡ true → has_starter ucd m ≡ false → fold (compose_step ucd) (e ++ s ∷ m) cs ≡ e ++ compose_after s m cs
unfolding ucd kit_joined
after e s m [] starts marks = rw (compose_after-nil s m)
after e s m (c ∷ cs) starts marks =
    compose_after-cases s m c cs (λ l. fold (compose_step ucd) (compose_step ucd (e ++ s ∷ m) c) cs ≡ e ++ l)
    (λ d free both. rw (step (Some d) (joined-free s m c free ∙ both)) (after e d m cs (is_starter_from d (primary_composite-starter s c d both)) marks))
    (λ none first. rw (step None none, ← (append_assoc e (s ∷ m) (c ∷ [])), after (e ++ s ∷ m) c [] cs (is_starter_from c first) refl) (append_assoc e (s ∷ m) (compose_after c [] cs)))
    (λ none mark. rw (step None none) (after e s (m ++ c ∷ []) cs starts (marks_push ucd m c marks (not_starter_from c mark))))
  where
    step : (o : Option ℕ) → kit_joined s m c ≡ o → compose_step ucd (e ++ s ∷ m) c ≡ e ++ replaced o s m c
    step o h = rw (compose_step-at ucd e s m c starts marks, is_blocked-ucd m c marks, composite-ucd s c, h)

before : (z cs : List ℕ) → has_starter ucd z ≡ false → fold (compose_step ucd) z cs ≡ z ++ kit_compose cs
unfolding ucd kit_compose
before z [] none = rw append-nil
before z (c ∷ cs) none =
    rw (compose_step-none ucd z c none) (⊎_elim (λ starter. rw starter (after z c [] cs starter refl))
    (λ mark. rw (compose-mark c cs (is_starter-false c mark), before (z ++ c ∷ []) cs (marks_push ucd z c none mark)) (append_assoc z (c ∷ []) (kit_compose cs)))
    (cases_Bool (is_starter ucd c)))

compose-ucd : (w : List ℕ) → compose ucd w ≡ kit_compose w
compose-ucd w = before [] w refl

-- ---- the forms

pub normal_form-ucd : (f : Form) (x : List ℕ) → normal_form f ucd x ≡ normalize (kit_form f) x
unfolding ucd normalize kit_decomposed decompose
normal_form-ucd Nfc x = simp (compose-ucd, order-ucd)
normal_form-ucd _ x = simp (compose-ucd, order-ucd)

-- ---- stream-safe text

lead-some : (p : Properties) (w : List ℕ) → has_starter p w ≡ true → lead p w < length w
lead-some p [] h = cc
lead-some p (c ∷ w) h = grind (arith, nat_tests, lead-some p w)

-- the non-starters in a row after c, in this library's words
count_after-ucd : (count c : ℕ) → count_after count c ≡ (if has_starter ucd (ucd.compat c) then trail ucd (ucd.compat c) else length (ucd.compat c) + count)
unfolding ucd count_after leading_nonstarters trailing_nonstarters
count_after-ucd count c = grind (arith, nat_tests, lead-some ucd (ucd.compat c), lead-marks ucd (ucd.compat c))

last_run-push : (out : List ℕ) (c : ℕ) → last_run ucd (out ++ c ∷ []) ≡ count_after (last_run ucd out) c
last_run-push out c = rw (count_after-ucd (last_run ucd out) c) (trail-decomposed-push ucd Nfkd out c)

safe-after : (out x : List ℕ) → fold (safe_step ucd) out x ≡ out ++ stream_safe_after (last_run ucd out) x
unfolding ucd leading_nonstarters
safe-after out [] = rw (stream_safe_after-nil, append-nil)
safe-after out (c ∷ x) =
    ⊎_elim
    (λ many.
    let here : safe_step ucd out c ≡ (out ++ joiner ∷ []) ++ c ∷ [] = rw many in
    let anew = trail-decomposed-joiner ucd (JoinerIsPlain-from_sound ucd (is_sound-ucd joiner)) Nfkd out in
    rw (here, safe-after ((out ++ joiner ∷ []) ++ c ∷ []) x, append_assoc, append_assoc, last_run-push (out ++ joiner ∷ []) c, anew, stream_safe_after-parted (last_run ucd out) c x many))
    (λ few.
    let here : safe_step ucd out c ≡ out ++ c ∷ [] = rw few in
    rw (here, safe-after (out ++ c ∷ []) x, append_assoc, last_run-push out c, stream_safe_after-together (last_run ucd out) c x few))
    (cases_Bool (is_too_many (last_run ucd out) c))

pub stream_safe-ucd : (x : List ℕ) → stream_safe ucd x ≡ kit_stream_safe x
stream_safe-ucd x = safe-after [] x
