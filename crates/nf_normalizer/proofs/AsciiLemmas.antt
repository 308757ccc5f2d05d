-- A run of plain ASCII after one such character that is pending alone.
use Rattle.nf_normalizer.proofs.Common.{◌≡◌, ℕ, ◌-◌, ◌<◌, true, List, [], ◌∷◌, ◌++◌, length, take, get_or, refl, ap, arith, append_assoc, encode_utf8_all, IsAscii, and_from, length-append, encodes-append, encodes-IsAscii, IsAscii-take, Properties, trail, front, back, Form, Nfkd, decomposed, finished, stream_safe, safe_form, is_sound, trail-push, IsSoundText, decomposed-append, Pending, PendingStandsAfter, Normalizer, settled, is_usable, HasTaken, settled_text, Joins}
use Rattle.std.proofs.lemmas.Grind.{common_steps}
use Rattle.std.proofs.lemmas.List.Folds.{list_all-append}
use Rattle.std.proofs.lemmas.Str.Ascii.{All-from_ascii}
use Rattle.nf_row.specs.Ascii.{IsPlainAscii, AreAscii}
use Rattle.nf_row.specs.Laws.Ascii.{ascii-head, ascii-tail, starter-ascii, sound-ascii, decomposed-ascii, stream_safe-ascii, finished-ascii}

module _ (p : Properties) (plain : IsPlainAscii p) where
  all_sound : (cs : List ℕ) → AreAscii cs → IsSoundText p cs
  all_sound [] all = refl
  all_sound (c ∷ cs) all = and_from _ _ (sound-ascii p plain c (ascii-head c cs all)) (all_sound cs (ascii-tail c cs all))

  -- the run is y, of n bytes
  module _ (f : Form) (x y : List ℕ) (n : ℕ) (len : length y ≡ n) (some : 0 < n) (ascii : IsAscii y) (usable : is_usable p x ≡ true) where
    abbrev end : ℕ
    end = get_or y (n - 1) 0

    -- its last apart
    whole : y ≡ take (n - 1) y ++ end ∷ []
    whole = grind (arith, common_steps)

    safe : stream_safe p (x ++ y) ≡ stream_safe p x ++ y
    unfolding is_usable
    safe = stream_safe-ascii p plain y (All-from_ascii y ascii) x usable

    rows : (g : Form) → decomposed g p (stream_safe p (x ++ y)) ≡ decomposed g p (stream_safe p x) ++ y
    rows g = rw (safe, decomposed-append p g, decomposed-ascii p plain g y (All-from_ascii y ascii))

    run_none : (g : Form) → trail p (decomposed g p (stream_safe p (x ++ y))) ≡ 0
    run_none g = rw (rows g, whole, ← append_assoc, trail-push p, starter-ascii p plain end (ascii (n - 1)))

    usable_on : is_usable p (x ++ y) ≡ true
    unfolding is_usable
    usable_on = rw (safe, list_all-append (is_sound p), usable) (all_sound y (All-from_ascii y ascii))

    -- no joiner is put
    pub joins-run : Joins p x y 0
    joins-run = omega (arith, ap length safe, length-append (stream_safe p x) y)

    module _ (a : ℕ) (alone : back p (finished f p (decomposed f p (stream_safe p x))) ≡ a ∷ []) (below : a < 0x80) where
      abbrev old_rows : List ℕ
      old_rows = decomposed f p (stream_safe p x)

      parts : (back p (finished f p (old_rows ++ y)) ≡ end ∷ []) × (front p (finished f p (old_rows ++ y)) ≡ front p (finished f p old_rows) ++ (a ∷ take (n - 1) y))
      parts = rw (← whole) at (finished-ascii p plain f old_rows a (take (n - 1) y) end alone below (rw whole at (All-from_ascii y ascii)))

      pub settled_text-run : (settled_text f p x ++ encode_utf8_all (a ∷ [])) ++ take (n - 1) y ≡ settled_text f p (x ++ y)
      unfolding settled safe_form
      settled_text-run =
          rw (rows f, parts.1, encodes-append (front p (finished f p old_rows)), encodes-append (a ∷ []) (take (n - 1) y), encodes-IsAscii (take (n - 1) y) (IsAscii-take y (n - 1) ascii), append_assoc)

      pub HasTaken-run : (old : Normalizer) (counter : ℕ) (pending : Pending) (last : ℕ) → HasTaken f p old x → counter ≡ 0 → last ≡ get_or y (n - 1) 0
          → ((w v : List ℕ) → PendingStandsAfter f p old.pending w → back p (finished f p v) ≡ last ∷ [] → trail p v ≡ 0 → PendingStandsAfter f p pending v)
          → HasTaken f p (record old { counter = counter; pending = pending }) (x ++ y)
      HasTaken-run old counter pending last before none is stands = record {
        usable = usable_on;
        form = before.form;
        plain = λ _. plain;
        count = rw (run_none Nfkd) none;
        pending = stands _ _ before.pending (rw (rows f, is) parts.0) (run_none f);
      }
