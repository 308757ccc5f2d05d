-- Where the characters taken leave the normalizer.
use Rattle.std.specs.Prelude.{◌≡◌, true, false, ℕ, ◌+◌, ◌≤◌, List, ◌∷◌, ◌++◌, [], length, encode_utf8_all, if◌then◌else◌, Bool, Result, Ok, Err}
use Rattle.nf_forms.specs.Properties.{Properties}
use Rattle.nf_forms.specs.declared.form.Form.{Form}
use Rattle.nf_forms.specs.declared.form.Form.TheVariants.{Nfkd}
use Rattle.nf_forms.specs.Runs.{has_starter, lead, trail}
use Rattle.nf_forms.specs.Forms.{row_of, decomposed, finished}
use Rattle.nf_forms.specs.Front.{front}
use Rattle.nf_forms.specs.StreamSafe.{joiner, is_too_long, with_room, stream_safe}
use Rattle.nf_forms.specs.Sound.{is_sound}
use Rattle.nf_pending.specs.declared.pending.Pending.{Pending}
use Rattle.nf_pending.specs.StandsAfter.{run_len, StandsAfter as PendingStandsAfter}
use Rattle.nf_row.specs.Ascii.{IsPlainAscii}
use Rattle.nf_normalizer.specs.declared.normalizer.Normalizer.{Normalizer}
use Rattle.nf_normalizer.specs.declared.front.Unsound.{Unsound}
use Rattle.nf_normalizer.specs.Room.{Start, Holds}
use Rattle.nf_normalizer.specs.Settled.{is_usable, settled}

-- the characters x were taken, and where the normalizer says so ASCII is plain
pub record HasTaken (f : Form) (p : Properties) (normalizer : Normalizer) (x : List ℕ) : Type 0 where
  pub usable : is_usable p x ≡ true
  pub form : normalizer.form ≡ f
  pub plain : normalizer.is_plain ≡ true → IsPlainAscii p
  pub count : normalizer.counter ≡ trail p (decomposed Nfkd p (stream_safe p x))
  pub pending : PendingStandsAfter f p normalizer.pending (decomposed f p (stream_safe p x))

-- the same, with c counted and the joiner put that stands before it
pub record HasMadeRoom (f : Form) (p : Properties) (normalizer : Normalizer) (x : List ℕ) (c : ℕ) : Type 0 where
  pub usable : is_usable p (x ++ c ∷ []) ≡ true
  pub form : normalizer.form ≡ f
  pub plain : normalizer.is_plain ≡ true → IsPlainAscii p
  pub count : normalizer.counter ≡ trail p (decomposed Nfkd p (stream_safe p (x ++ c ∷ [])))
  pub pending : PendingStandsAfter f p normalizer.pending (decomposed f p (with_room p (stream_safe p x) c))

-- the pending run is no longer than the count, and that than a run may be
pub record IsWithin (normalizer : Normalizer) : Type 0 where
  pub run : run_len normalizer.pending ≤ normalizer.counter
  pub bound : normalizer.counter ≤ 30

-- how long a run of n is after a row
abbrev pub run_after : Properties → ℕ → List ℕ → ℕ
run_after p n row = if has_starter p row then trail p row else n + length row

-- there is room for the row of c, and what is counted is then within
pub record HasRoom (p : Properties) (normalizer : Normalizer) (c : ℕ) : Type 0 where
  pub lead : run_len normalizer.pending + lead p (row_of normalizer.form p c) ≤ 30
  pub run : run_after p (run_len normalizer.pending) (row_of normalizer.form p c) ≤ normalizer.counter
  pub bound : normalizer.counter ≤ 30

-- the UTF-8 of what is settled of decomposed text
abbrev pub front_utf8 : Form → Properties → List ℕ → List ℕ
front_utf8 f p w = encode_utf8_all (front p (finished f p w))

-- the UTF-8 of what is settled of a text
abbrev pub settled_text : Form → Properties → List ℕ → List ℕ
settled_text f p x = encode_utf8_all (settled f p x)

-- decomposed text was pushed, to `v`
abbrev pub Pushes : Form → Properties → Pending → Start → List ℕ → List ℕ → Type 0
Pushes f p pending start room v = PendingStandsAfter f p pending v × Holds start room (front_utf8 f p v)

-- the joiner was pushed after `w`, or it is unsound
abbrev pub PutsJoiner : Form → Properties → Pending → Start → List ℕ → List ℕ → Result (Unit {0}) Unsound → Type 0
PutsJoiner f p pending start room w (Ok _) = (is_sound p joiner ≡ true) × Pushes f p pending start room (w ++ joiner ∷ [])
PutsJoiner f p pending start room w (Err _) = (is_sound p joiner ≡ false) × Holds start room (front_utf8 f p w)

-- c was counted and room made for it, or why not; and whether a joiner was put
abbrev pub MakesRoom : Form → Properties → Normalizer → Start → List ℕ → List ℕ → ℕ → Result Bool Unsound → Type 0
MakesRoom f p normalizer start room x c (Ok joined) =
    HasMadeRoom f p normalizer x c × Holds start room (front_utf8 f p (decomposed f p (with_room p (stream_safe p x) c))) × (joined ≡ is_too_long p (stream_safe p x) c)
MakesRoom f p normalizer start room x c (Err _) = (is_usable p (x ++ c ∷ []) ≡ false) × Holds start room (settled_text f p x)

-- the character c was taken after x, and whether a joiner was put before it; or it is refused
abbrev pub TakesChar : Form → Properties → Normalizer → Start → List ℕ → List ℕ → ℕ → Result Bool Unsound → Type 0
TakesChar f p normalizer start room x c (Ok joined) =
    HasTaken f p normalizer (x ++ c ∷ []) × Holds start room (settled_text f p (x ++ c ∷ [])) × (joined ≡ is_too_long p (stream_safe p x) c)
TakesChar f p normalizer start room x c (Err _) = (is_usable p (x ++ c ∷ []) ≡ false) × Holds start room (settled_text f p x)

-- so c was taken after all that the normalizer had taken
abbrev pub TakesNext : Properties → Normalizer → Normalizer → List ℕ → List ℕ → ℕ → Result Bool Unsound → Type 0
TakesNext p old new before after c result =
    (f : Form) (x : List ℕ) (start : Start) → HasTaken f p old x → Holds start before (settled_text f p x) → TakesChar f p new start after x c result
