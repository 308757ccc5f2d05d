-- What decomposed text from a boundary on becomes: a member more, and its form when a boundary comes.
use Rattle.std.proofs.Common.{◌≡◌, ◌≢◌, ◌==◌, ℕ, ◌+◌, Bool, true, false, List, [], ◌∷◌, ◌++◌, length, map, Some, None, refl, sym, ap, ◌∙◌, append_assoc, append-nil, arith, leb, IsTrue, insert, encode_utf8_all}
use Rattle.nf_boundary.proofs.Common.{length-map, ucd, Form, row_of, decomposed, composes, arranged, joined, finished, canonical_combining_class, IsSound-from_test, ne_eqb, cond-true, has_starter, trail, longest, nat_tests, Becomes, Leaves, Nfkd, is_sound, NeverSecond, Mark, held-push, prefix_len, flat_map, Properties, is_starter, list_any_at, nil_from_length, marks_push, flat_map-full, decomposed-push, longest-le-length, mark_of, is_rising, IsOwnRow, row-own}
use Rattle.nf_forms.specs.Laws.Settling.{closed_off, closed_off-group}
use Rattle.nf_forms.specs.Audit.{IsFull, AreOwnMarks}
use Rattle.nf_forms.specs.Order.{by_class}
use Rattle.nf_forms.specs.Laws.Runs.{lead-le-length, trail-le-length, trail-append, trail-push, longest-append}
use Rattle.nf_forms.specs.Laws.Order.{order-after, has_starter-by_class}
use Rattle.nf_forms.specs.Laws.Ordering.{order-ordered}
use Rattle.nf_forms.specs.Laws.Compose.{IsGroup, compose-after, composite-starter, joined-after_marks}
use Rattle.nf_forms.specs.Laws.Boundary.{arranged-boundary}
use Rattle.nf_boundary.proofs.LetterLemmas.{appended, class_of}
use Rattle.nf_boundary.proofs.StarterLemmas.{arranged-composed, arranged-next}

-- a starter and non-starters: they are put in order, and composed
arranged-marked : (p : Properties) (s : ℕ) (run : List ℕ) → is_starter p s ≡ true → has_starter p run ≡ false → (b : Bool) → arranged b p (s ∷ run) ≡ closed_off p b (Some s) (by_class p run)
arranged-marked p s run starts plain b =
    let ordered = order-after p (s ∷ []) run (trail-push p [] s ∙ cond-true _ _ _ starts) plain in
    grind (arith, ordered, order-ordered p (s ∷ []) refl, compose-after p [] (s ∷ []) (by_class p run) (grind arith) (has_starter-by_class p run))

module _ (f : Form) where
  -- a starter alone
  pub becomes_one : (starter : ℕ) (marks : List Mark) (w before : List ℕ) → w ≡ starter ∷ [] → is_starter ucd starter ≡ true → marks ≡ [] → Becomes f w starter marks before before
  unfolding by_class
  becomes_one starter marks w before text starts alone =
      record { head = starter ∷ []; run = []; done = []; text = text; starts = starts; no_starter = refl; held = alone; formed = rw append-nil; comes_to = λ v. refl }

  module _ (w : List ℕ) (starter : ℕ) (marks : List Mark) (before now : List ℕ) (here : Becomes f w starter marks before now) where
    -- a non-starter more, after those of no greater class
    pub becomes_marked : (c class : ℕ) → class ≡ canonical_combining_class c → class ≢ 0 → (marks' : List Mark)
        → (is_rising marks ≡ true → marks' ≡ insert marks (prefix_len (λ m. leb m.class class) marks) (record { character = c; class = class })) → Becomes f (w ++ c ∷ []) starter marks' before now
    becomes_marked c class is some marks' inserted =
        let same : class ≡ ucd.class c = is ∙ sym (class_of c) in
        let mark : is_starter ucd c ≡ false = ne_eqb _ 0 (rw (← same) some) in
        record {
          head = here.head;
          run = here.run ++ c ∷ [];
          done = here.done;
          text = rw (here.text, append_assoc);
          starts = here.starts;
          no_starter = marks_push ucd here.run c here.no_starter mark;
          held = held-push ucd here.run c marks marks' here.no_starter mark here.held (rw (← same) inserted);
          formed = here.formed;
          comes_to = here.comes_to;
        }

    -- what is appended when all that stands there is closed off
    pub becomes_closed : (new : List ℕ) → ((m : List ℕ) → marks ≡ map (mark_of ucd) m → has_starter ucd m ≡ false → new ≡ now ++ encode_utf8_all (closed_off ucd (composes f) (Some starter) m))
        → new ≡ before ++ encode_utf8_all (finished f ucd w)
    becomes_closed new closed =
        rw (here.text, here.comes_to here.run, arranged-marked ucd _ _ here.starts here.no_starter (composes f))
        (appended before here.done _ now new here.formed (closed _ here.held (has_starter-by_class ucd here.run)))

    -- the starter alone, where no marks are held
    pub becomes_closed_one : true ≡ (length marks == 0) → (new : List ℕ) → new ≡ now ++ encode_utf8_all (starter ∷ []) → new ≡ before ++ encode_utf8_all (finished f ucd w)
    becomes_closed_one alone new grown = becomes_closed new (λ m held _.
        let none : m ≡ [] = nil_from_length m (grind (arith, nat_tests, length-map m (mark_of ucd))) in
        grind (arith, none))

  -- a starter more, before which all is settled
  becomes_starter : (w before now done : List ℕ) (c x : ℕ) → now ≡ before ++ encode_utf8_all done → is_starter ucd x ≡ true
      → ((v : List ℕ) → finished f ucd (w ++ c ∷ v) ≡ done ++ finished f ucd (x ∷ v)) → Becomes f (w ++ c ∷ []) x [] before now
  unfolding by_class
  becomes_starter w before now done c x formed starts comes_to =
      record { head = w ++ c ∷ []; run = []; done = done; text = rw append-nil; starts = starts; no_starter = refl; held = refl; formed = formed; comes_to = λ v. rw append_assoc (comes_to v) }

  -- one that composes with nothing, where what stands there is closed off
  pub becomes_cut : (w before now : List ℕ) (c : ℕ) → now ≡ before ++ encode_utf8_all (finished f ucd w) → is_starter ucd c ≡ true → NeverSecond ucd f c → Becomes f (w ++ c ∷ []) c [] before now
  becomes_cut w before now c formed starts never = becomes_starter w before now _ c c formed starts (λ v. arranged-boundary ucd (composes f) w c v starts never)

  -- one that may compose with what stands there, closed off, in a form that composes
  module _ (composing : composes f ≡ true) (w before now : List ℕ) (starter : ℕ) (marks : List Mark) (here : Becomes f w starter marks before now) (text : List ℕ)
      (closed : (m : List ℕ) → marks ≡ map (mark_of ucd) m → has_starter ucd m ≡ false → text ≡ closed_off ucd true (Some starter) m)
      (c : ℕ) (starts : is_starter ucd c ≡ true) where
    is_closed : text ≡ closed_off ucd true (Some starter) (by_class ucd here.run)
    is_closed = closed _ here.held (has_starter-by_class ucd here.run)

    group : IsGroup ucd text
    group = rw is_closed (closed_off-group ucd true starter (by_class ucd here.run) here.starts (has_starter-by_class ucd here.run))

    comes_to : arranged true ucd (starter ∷ here.run) ≡ text
    comes_to = arranged-marked ucd starter here.run here.starts here.no_starter true ∙ sym is_closed

    more : (v : List ℕ) → finished f ucd (w ++ c ∷ v) ≡ here.done ++ arranged true ucd ((starter ∷ here.run) ++ c ∷ v)
    more v = rw (here.text, append_assoc) (here.comes_to (here.run ++ c ∷ v) ∙ ap (λ b. here.done ++ arranged b ucd ((starter ∷ here.run) ++ c ∷ v)) composing)

    pub becomes_composed : (x : ℕ) → ((s : ℕ) (m : List ℕ) → text ≡ s ∷ m → joined ucd s m c ≡ Some x) → Becomes f (w ++ c ∷ []) x [] before now
    becomes_composed x joins = alone group.marks group.text (joins _ _ group.text)
      where
        alone : (m : List ℕ) → text ≡ group.starter ∷ m → joined ucd group.starter m c ≡ Some x → Becomes f (w ++ c ∷ []) x [] before now
        alone [] is both = becomes_starter w before now here.done c x here.formed (composite-starter ucd group.starter c x both)
            (λ v. more v ∙ ap (λ z. here.done ++ z) (arranged-composed ucd (starter ∷ here.run) group.starter (comes_to ∙ is) group.starts c starts x both v) ∙ ap (λ b. here.done ++ arranged b ucd (x ∷ v)) (sym composing))
        alone (y ∷ m) is both = cc (joined-after_marks ucd group.starter y m c starts)

    pub becomes_next : ((s : ℕ) (m : List ℕ) → text ≡ s ∷ m → joined ucd s m c ≡ None) → (now' : List ℕ) → now' ≡ now ++ encode_utf8_all text → Becomes f (w ++ c ∷ []) c [] before now'
    becomes_next none now' grown = becomes_starter w before now' (here.done ++ text) c c (appended before here.done text now now' here.formed grown) starts
        (λ v. more v ∙ ap (λ z. here.done ++ z) (ends v) ∙ sym (append_assoc here.done text (arranged true ucd (c ∷ v))) ∙ ap (λ b. (here.done ++ text) ++ arranged b ucd (c ∷ v)) (sym composing))
      where
        ends : (v : List ℕ) → arranged true ucd ((starter ∷ here.run) ++ c ∷ v) ≡ text ++ arranged true ucd (c ∷ v)
        ends v = rw group.text (arranged-next ucd (starter ∷ here.run) group.starter group.marks (comes_to ∙ group.text) group.starts group.no_starter c starts v (none _ _ group.text))

-- ---- how many non-starters may follow

-- any character
pub leaves_any : (c : ℕ) → IsTrue (is_sound ucd c) → Leaves (c ∷ []) 12
leaves_any c sound =
    let row = append-nil (ucd.compat c) in
    omega (arith, ap (trail ucd) row, trail-le-length, ap (longest ucd) row, longest-le-length, (IsSound-from_test ucd c sound).compat_few)

lead-one : (c : ℕ) → is_starter ucd c ≡ true → longest ucd (c ∷ []) ≡ 0
lead-one c starts = rw starts

-- a starter more that is its own row
pub leaves_starter : (c : ℕ) → IsOwnRow ucd c → is_starter ucd c ≡ true → (cs : List ℕ) (room : ℕ) → Leaves cs room → Leaves (cs ++ c ∷ []) 30
leaves_starter c own starts cs room here =
    let w = decomposed Nfkd ucd cs in
    let both = rw (row-own ucd Nfkd c own) at (decomposed-push ucd Nfkd cs c) in
    let end : trail ucd (w ++ c ∷ []) ≡ 0 = trail-push ucd w c ∙ cond-true _ _ _ starts in
    omega (arith, ap (trail ucd) both, end, ap (longest ucd) both, longest-append, lead-one c starts)

-- and a character more whose row is of non-starters
pub leaves_more : (cs : List ℕ) (c room room' : ℕ) → has_starter ucd (ucd.compat c) ≡ false → room' + length (ucd.compat c) ≡ room → Leaves cs room → Leaves (cs ++ c ∷ []) room'
leaves_more cs c room room' marks less here =
    let w = decomposed Nfkd ucd cs in
    let row = ucd.compat c in
    let both = decomposed-push ucd Nfkd cs c in
    omega (arith, ap (trail ucd) both, rw marks at (trail-append ucd w row), ap (longest ucd) both, longest-append, lead-le-length, longest-le-length)

-- a row of non-starters is the row of both kinds
module _ (joined : (c : ℕ) → flat_map ucd.compat (ucd.canonical c) ≡ ucd.compat c) (marks : (c : ℕ) → AreOwnMarks ucd (ucd.canonical c)) where
  own : (w : List ℕ) → AreOwnMarks ucd w → has_starter ucd w ≡ false → IsFull ucd.compat w
  own w all none k d within = grind (arith, list_any_at (is_starter ucd) w k d within, all k d within)

  pub leaves_row : (f : Form) (c : ℕ) (row : List ℕ) → row ≡ row_of f ucd c → has_starter ucd row ≡ false → (cs : List ℕ) (room room' : ℕ) → room' + length row ≡ room → Leaves cs room → Leaves (cs ++ c ∷ []) room'
  leaves_row f c row is none cs room room' less here =
      let full = λ (plain : has_starter ucd (ucd.canonical c) ≡ false). flat_map-full ucd ucd.compat (ucd.canonical c) (own (ucd.canonical c) (marks c) plain) in
      let same : ucd.compat c ≡ row = grind (arith, full, joined c) in
      leaves_more cs c room room' (rw same none) (rw same less) here
