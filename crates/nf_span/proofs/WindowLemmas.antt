-- What is known of bytes from a place on, and of those before it.
use Rattle.std.proofs.Common.{◌≡◌, ℕ, ◌+◌, ◌-◌, ◌/◌, ◌^◌, ◌%◌, ◌<◌, ◌≤◌, ⊎_elim, List, length, drop, sym, ap, ◌∙◌, arith, add_assoc}
use Rattle.std.specs.Int.{bit_at}
use Rattle.std.proofs.str.Laws.{order}
use Rattle.std.proofs.lemmas.List.{get_or-drop, length-drop}
use Rattle.std.proofs.lemmas.Nat.{shr-shr}
use Rattle.nf_forms.specs.declared.form.Form.{Form}
use Rattle.nf_span.specs.Closer.{look_at}
use Rattle.nf_span.specs.Window.{IsPlain, IsPlainFront, IsWindow}
use Rattle.nf_span.specs.declared.window.Window.{Window}

module _ (f : Form) (bytes : List ℕ) where
  pub look_at-drop : (n k : ℕ) → look_at f (drop n bytes) k ≡ look_at f bytes (n + k)
  look_at-drop n k = simp (add_assoc, get_or-drop n bytes)

  pub further : (at n : ℕ) → IsPlainFront f bytes at → IsPlainFront f (drop at bytes) n → IsPlainFront f bytes (at + n)
  further at n before here = record {
    within = omega (arith, before.within, here.within, length-drop at bytes);
    plain = λ k inside.
        ⊎_elim (before.plain k)
        (λ high.
        let is : at + (k - at) ≡ k = omega (arith, high) in
        rw is at (sym (look_at-drop at (k - at)) ∙ here.plain (k - at) (omega (arith, inside, high))))
        (order k at);
  }

  pub before_look : (at n : ℕ) → IsPlainFront f bytes at → IsPlain f (drop at bytes) n → IsPlain f bytes (at + n)
  before_look at n before here = record {
    front = further at n before here.front;
    begins = λ inside. rw (get_or-drop at bytes n 0) at (here.begins (omega (arith, inside, length-drop at bytes)));
  }

  module _ (window : Window) (here : IsWindow f bytes window) where
    -- what is left of it past n bytes
    pub window_past : (n : ℕ) (left : Window) → left.looks ≡ window.looks / 2 ^ n → left.after ≡ window.after → IsWindow f (drop n bytes) left
    window_past n left looks after =
        let bit : (k : ℕ) → bit_at left.looks k ≡ bit_at window.looks (n + k) = λ k. ap (λ x. bit_at x k) looks ∙ ap (λ x. x % 2) (shr-shr window.looks n k) in
        record {
          plain = λ k inside none. look_at-drop n k ∙ here.plain (n + k) (omega (arith, inside, after, length-drop n bytes)) (sym (bit k) ∙ none);
          begins = λ k one.
              let there = here.begins (n + k) (sym (bit k) ∙ one) in
              (omega (arith, there.0, after, length-drop n bytes), rw (get_or-drop n bytes k 0) there.1);
        }

    -- before the first bit that is set
    pub window_front : (n : ℕ) → n ≤ length bytes - window.after → ((i : ℕ) → i < n → bit_at window.looks i ≡ 0) → IsPlainFront f bytes n
    window_front n few none = record { within = omega (arith, few); plain = λ k inside. here.plain k (omega (arith, inside, few)) (none k inside) }
