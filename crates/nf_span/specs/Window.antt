-- Bytes of a text at once: where characters begin that have to be looked up.
use Rattle.std.specs.Prelude.{◌≡◌, ◌+◌, ◌<◌, ◌≤◌, ℕ, false, List, drop, length, slice_index}
use Rattle.std.specs.Int.{bit_at}
use Rattle.nf_forms.specs.declared.form.Form.{Form}
use Rattle.nf_span.specs.Closer.{look_at}
use Rattle.nf_span.specs.declared.lanes.Ahead.{Ahead}
use Rattle.nf_span.specs.declared.window.Window.{Window}

-- the bit of each tells of the character that it begins, if one
pub record IsWindow (f : Form) (bytes : List ℕ) (window : Window) : Type 0 where
  pub plain : (k : ℕ) → k + window.after < length bytes → bit_at window.looks k ≡ 0 → look_at f bytes k ≡ false
  pub begins : (k : ℕ) → bit_at window.looks k ≡ 1 → (k + window.after < length bytes) × (192 ≤ slice_index bytes k)

-- those are the bits of 16 bytes from one on
abbrev pub AreLooks : Form → List ℕ → ℕ → ℕ → Type 0
AreLooks f bytes at looks = (window : Window) → window.looks ≡ looks → at + 16 + window.after ≡ length bytes → IsWindow f (drop at bytes) window

-- of so many bytes none begins a character that has to be looked up
pub record IsPlainFront (f : Form) (bytes : List ℕ) (len : ℕ) : Type 0 where
  pub within : len ≤ length bytes
  pub plain : (k : ℕ) → k < len → look_at f bytes k ≡ false

-- and after them a character begins, or nothing stands
pub record IsPlain (f : Form) (bytes : List ℕ) (len : ℕ) : Type 0 where
  pub front : IsPlainFront f bytes len
  pub begins : len < length bytes → 192 ≤ slice_index bytes len

-- so many bytes stand before the next character that may have to be looked up, and the window has bytes from there on
pub record IsAhead (f : Form) (bytes : List ℕ) (ahead : Ahead) : Type 0 where
  pub before : IsPlain f bytes ahead.len
  pub window : IsWindow f (drop ahead.len bytes) ahead.window
