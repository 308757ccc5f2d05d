-- How the stream-safe text, what of it is settled, and what of a text can be used go on when a text grows.
use Rattle.std.proofs.Common.{◌≡◌, ℕ, ◌+◌, ◌<◌, ◌≤◌, Bool, true, false, not, ◌&&◌, ◌||◌, List, [], ◌∷◌, ◌++◌, length, take, drop, refl, sym, ap, ◌∙◌, subst, arith, append_assoc, append-nil, ⊎_elim, if◌then◌else◌, encode_utf8_all}
use Rattle.std.specs.List.{list_all}
use Rattle.std.proofs.lemmas.Bool.{and_parts, cases_lt, false≢true}
use Rattle.std.proofs.lemmas.List.{length-append, take_at, take-append-le, take-append-drop, take-take}
use Rattle.std.proofs.Math.Seq.{take-length}
use Rattle.std.proofs.lemmas.List.Folds.{list_all-append}
use Rattle.std.proofs.lemmas.Str.{encodes-append}
use Rattle.nf_forms.specs.Properties.{Properties}
use Rattle.nf_forms.specs.declared.form.Form.{Form}
use Rattle.nf_forms.specs.Front.{front}
use Rattle.nf_forms.specs.Forms.{decomposed, composes, finished}
use Rattle.nf_forms.specs.StreamSafe.{joiner, is_too_long, stream_safe}
use Rattle.nf_forms.specs.Sound.{is_sound}
use Rattle.nf_forms.specs.Laws.Last.{by_last}
use Rattle.nf_forms.specs.Laws.StreamSafe.{stream_safe-push, decomposed-append}
use Rattle.nf_forms.specs.Laws.Settling.{front-append}
use Rattle.nf_safe.specs.LongestFront.{longest_front}
use Rattle.nf_safe.specs.Laws.LongestFront.{longest_front-push, longest_front-all, longest_front-le, longest_front_is}
use Rattle.nf_forms.specs.SafeForm.{safe_form}
use Rattle.nf_normalizer.specs.Settled.{settled, is_usable, usable}

-- a text and what stands after it
pub record Extends (x y : List ℕ) : Type 0 where
  pub more : List ℕ
  pub text : y ≡ x ++ more

pub Extends-none : (x : List ℕ) → Extends x x
Extends-none x = record { more = []; text = sym (append-nil x) }

pub Extends-join : {x y z : List ℕ} → Extends x y → Extends y z → Extends x z
Extends-join {x} {y} {z} first second =
    record { more = first.more ++ second.more; text = second.text ∙ ap (λ l. l ++ second.more) first.text ∙ append_assoc x first.more second.more }

pub Extends-encodes : {x y : List ℕ} → Extends x y → Extends (encode_utf8_all x) (encode_utf8_all y)
Extends-encodes {x} {y} more = record { more = encode_utf8_all more.more; text = ap encode_utf8_all more.text ∙ encodes-append x more.more }

module _ (p : Properties) where
  stream_safe-extends_push : (x : List ℕ) (c : ℕ) → Extends (stream_safe p x) (stream_safe p (x ++ c ∷ []))
  stream_safe-extends_push x c = next (is_too_long p (stream_safe p x) c) (stream_safe-push p x c)
    where
      next : (b : Bool) → stream_safe p (x ++ c ∷ []) ≡ (if b then stream_safe p x ++ joiner ∷ [] else stream_safe p x) ++ c ∷ []
          → Extends (stream_safe p x) (stream_safe p (x ++ c ∷ []))
      next true e = record { more = joiner ∷ c ∷ []; text = e ∙ append_assoc (stream_safe p x) (joiner ∷ []) (c ∷ []) }
      next false e = record { more = c ∷ []; text = e }

  pub stream_safe-extends : (x y : List ℕ) → Extends (stream_safe p x) (stream_safe p (x ++ y))
  stream_safe-extends x = by_last (λ y. Extends (stream_safe p x) (stream_safe p (x ++ y)))
      (subst (λ z. Extends (stream_safe p x) (stream_safe p z)) (sym (append-nil x)) (Extends-none (stream_safe p x)))
      (λ y c before. subst (λ z. Extends (stream_safe p x) (stream_safe p z)) (append_assoc x y (c ∷ [])) (Extends-join before (stream_safe-extends_push (x ++ y) c)))

  -- what is settled stays
  pub settled-extends : (f : Form) (x y : List ℕ) → Extends (settled f p x) (settled f p (x ++ y))
  unfolding settled safe_form
  settled-extends f x y =
      let safe = stream_safe-extends x y in
      let grown = front-append p (composes f) (decomposed f p (stream_safe p x)) (decomposed f p safe.more) in
      record { more = grown.0; text = ap (λ o. front p (finished f p o)) (ap (decomposed f p) safe.text ∙ decomposed-append p f (stream_safe p x) safe.more) ∙ grown.1 }

  pub is_usable-none : is_usable p [] ≡ true
  unfolding is_usable
  is_usable-none = refl

  pub is_usable-push : (x : List ℕ) (c : ℕ) → is_usable p (x ++ c ∷ [])
      ≡ (is_usable p x && (not (is_too_long p (stream_safe p x) c) || is_sound p joiner) && is_sound p c)
  unfolding is_usable
  is_usable-push x c = ap (list_all (is_sound p)) (stream_safe-push p x c) ∙ next (is_too_long p (stream_safe p x) c)
    where
      all : (s : Bool) → (s && true) ≡ s
      all true = refl
      all false = refl

      one : (o : List ℕ) (d : ℕ) → list_all (is_sound p) (o ++ d ∷ []) ≡ (list_all (is_sound p) o && is_sound p d)
      one o d = list_all-append (is_sound p) o (d ∷ []) ∙ ap (λ b. list_all (is_sound p) o && b) (all (is_sound p d))

      next : (b : Bool) → list_all (is_sound p) ((if b then stream_safe p x ++ joiner ∷ [] else stream_safe p x) ++ c ∷ [])
          ≡ (list_all (is_sound p) (stream_safe p x) && (not b || is_sound p joiner) && is_sound p c)
      next true = one (stream_safe p x ++ joiner ∷ []) c ∙ ap (λ b. b && is_sound p c) (one (stream_safe p x) joiner)
      next false = one (stream_safe p x) c ∙ ap (λ b. b && is_sound p c) (sym (all (list_all (is_sound p) (stream_safe p x))))

  -- a front of what can be used can be used
  pub is_usable-front : (x y : List ℕ) → is_usable p (x ++ y) ≡ true → is_usable p x ≡ true
  unfolding is_usable
  is_usable-front x y sound =
      let more = stream_safe-extends x y in
      (and_parts _ _ (sym (list_all-append (is_sound p) (stream_safe p x) more.more) ∙ ap (list_all (is_sound p)) (sym more.text) ∙ sound)).0

  pub is_usable-stays_out : (x y : List ℕ) → is_usable p x ≡ false → is_usable p (x ++ y) ≡ false
  is_usable-stays_out x y out = next (is_usable p (x ++ y)) (is_usable-front x y)
    where
      next : (b : Bool) → (b ≡ true → is_usable p x ≡ true) → b ≡ false
      next true e = let absent : is_usable p x ≡ true = e refl in cc
      next false e = refl

  pub usable-all : (x : List ℕ) → is_usable p x ≡ true → usable p x ≡ x
  unfolding usable
  usable-all x sound = ap (λ n. take n x) (longest_front-all (is_usable p) x sound) ∙ take-length x

  -- where a character can't be used, all stops before it
  pub usable-stop : (x : List ℕ) (c : ℕ) (y : List ℕ) → is_usable p x ≡ true → is_usable p (x ++ c ∷ []) ≡ false → usable p ((x ++ c ∷ []) ++ y) ≡ x
  unfolding usable
  usable-stop x c y sound out =
      ap (λ n. take n ((x ++ c ∷ []) ++ y)) (len y) ∙ ap (take (length x)) (append_assoc x (c ∷ []) y) ∙ take_at x ((c ∷ []) ++ y) (length x) refl
    where
      stays : (v : List ℕ) (d : ℕ) → longest_front (is_usable p) v ≡ length x → is_usable p (v ++ d ∷ []) ≡ false → longest_front (is_usable p) (v ++ d ∷ []) ≡ length x
      stays v d before fails = longest_front-push (is_usable p) v d ∙ ap (λ b. if b then length v + 1 else longest_front (is_usable p) v) fails ∙ before

      len : (y : List ℕ) → longest_front (is_usable p) ((x ++ c ∷ []) ++ y) ≡ length x
      len = by_last (λ y. longest_front (is_usable p) ((x ++ c ∷ []) ++ y) ≡ length x)
          (ap (longest_front (is_usable p)) (append-nil (x ++ c ∷ [])) ∙ stays x c (longest_front-all (is_usable p) x sound) out)
          (λ y d before. ap (longest_front (is_usable p)) (sym (append_assoc (x ++ c ∷ []) y (d ∷ [])))
          ∙ stays ((x ++ c ∷ []) ++ y) d before (ap (is_usable p) (append_assoc (x ++ c ∷ []) y (d ∷ [])) ∙ is_usable-stays_out (x ++ c ∷ []) (y ++ d ∷ []) out))

  -- what can be used goes on
  pub usable-extends : (x y : List ℕ) → is_usable p x ≡ true → Extends x (usable p (x ++ y))
  unfolding usable
  usable-extends x y sound = record { more = drop (length x) (take n (x ++ y)); text = sym (take-append-drop (length x) (take n (x ++ y))) ∙ ap (λ l. l ++ drop (length x) (take n (x ++ y))) front_is }
    where
      n : ℕ
      n = longest_front (is_usable p) (x ++ y)

      reaches : length x ≤ n
      reaches = ⊎_elim short (λ h. h) (cases_lt n (length x))
        where
          short : n < length x → length x ≤ n
          short less =
              let fails = (longest_front_is (is_usable p) (x ++ y) is_usable-none).longer (length x) less (omega (arith, length-append x y)) in
              let holds = ap (is_usable p) (take_at x y (length x) refl) ∙ sound in
              absurd (false≢true (sym fails ∙ holds))

      front_is : take (length x) (take n (x ++ y)) ≡ x
      front_is = take-take (length x) n (x ++ y) reaches ∙ take_at x y (length x) refl

  pub is_usable-usable : (x : List ℕ) → is_usable p (usable p x) ≡ true
  unfolding usable
  is_usable-usable x = (longest_front_is (is_usable p) x is_usable-none).passes

  pub usable-split : (x : List ℕ) → Extends (usable p x) x
  unfolding usable
  usable-split x = record { more = drop (longest_front (is_usable p) x) x; text = sym (take-append-drop (longest_front (is_usable p) x) x) }

  -- what could be used is not lost
  pub usable-grows : (x y : List ℕ) → Extends (usable p x) (usable p (x ++ y))
  usable-grows x y =
      let split = usable-split x in
      let whole = append_assoc (usable p x) split.more y in
      subst (λ z. Extends (usable p x) (usable p z)) (sym (ap (λ l. l ++ y) split.text ∙ whole)) (usable-extends (usable p x) (split.more ++ y) (is_usable-usable x))

  -- where not all could be used, no more can
  pub usable-stays : (x y : List ℕ) → is_usable p x ≡ false → usable p (x ++ y) ≡ usable p x
  unfolding usable
  usable-stays x y out = ap (λ n. take n (x ++ y)) (len y) ∙ take-append-le (longest_front (is_usable p) x) x y (longest_front-le (is_usable p) x)
    where
      len : (y : List ℕ) → longest_front (is_usable p) (x ++ y) ≡ longest_front (is_usable p) x
      len = by_last (λ y. longest_front (is_usable p) (x ++ y) ≡ longest_front (is_usable p) x)
          (ap (longest_front (is_usable p)) (append-nil x))
          (λ y d before. ap (longest_front (is_usable p)) (sym (append_assoc x y (d ∷ [])))
          ∙ longest_front-push (is_usable p) (x ++ y) d
          ∙ ap (λ b. if b then length (x ++ y) + 1 else longest_front (is_usable p) (x ++ y)) (ap (is_usable p) (append_assoc x y (d ∷ [])) ∙ is_usable-stays_out x (y ++ d ∷ []) out)
          ∙ before)
