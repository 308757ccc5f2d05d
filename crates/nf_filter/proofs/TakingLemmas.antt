-- A text that is taken front by front, and how far it is assigned.
use Rattle.nf_filter.proofs.Common.{◌≡◌, ℕ, ◌+◌, ◌≤◌, List, [], ◌∷◌, ◌++◌, length, sym, ap, arith, append-nil, append_assoc, encode_utf8, encode_utf8_all, IsUtf8, chars, length-append, chars-nil, encodes-append, encodes-chars, length-le-encodes, chars_past_char, told_by, ◌∙◌, IsPlacedAt, nil_from_length, ◌-◌, Option, Result, refl, Fault, Decides, HasTakenFront, Bool, true, take, take_at, take_while, list_all-append, chars-append, IsUtf8-append, IsUtf8-take, IsCharBoundary-at_seam, Properties, IsAfterAssigned}
use Rattle.nf_filter.proofs.PolicyLemmas.{take_while-append}

pub front_len : (text front rest : List ℕ) → IsUtf8 text → IsUtf8 rest → chars text ≡ front ++ chars rest → length text ≡ length (encode_utf8_all front) + length rest
front_len text front rest whole after is =
    rw (is, encodes-append front (chars rest), encodes-chars rest after, length-append (encode_utf8_all front) rest) at (ap length (sym (encodes-chars text whole)))

-- there are no more characters than bytes
pub few : (bytes : List ℕ) → IsUtf8 bytes → length (chars bytes) ≤ length bytes
few bytes utf8 = omega (arith, length-le-encodes (chars bytes), ap length (encodes-chars bytes utf8))

-- the offsets after a front
pub placed-after : (place : List ℕ → ℕ) (begin : ℕ) (bytes : List ℕ) (at : ℕ) (x y front rest : List ℕ) (after : ℕ) → y ≡ front ++ rest → after ≡ at + length (encode_utf8_all front) → IsPlacedAt place begin bytes at x y
    → IsPlacedAt place begin bytes after (x ++ front) rest
placed-after place begin bytes at x y front rest after is offset here more c last text =
    let sum : at + length (encode_utf8_all (front ++ more)) ≡ after + length (encode_utf8_all more) = omega (arith, ap length (encodes-append front more), length-append {A = ℕ}) in
    rw (append_assoc x front more) (here (front ++ more) c last (rw (text, ← append_assoc front more (c ∷ last)) at is) ∙ ap (told_by begin bytes) sum)

-- in a front
pub placed-within : (place : List ℕ → ℕ) (begin : ℕ) (bytes : List ℕ) (at : ℕ) (x y front rest : List ℕ) → y ≡ front ++ rest → IsPlacedAt place begin bytes at x y → IsPlacedAt place begin bytes at x front
placed-within place begin bytes at x y front rest is here more c last text = here more c (last ++ rest) (rw (text, append_assoc more (c ∷ last) rest) at is)

-- in a text of one character no other is placed
pub one_placed : (place : List ℕ → ℕ) (begin : ℕ) (bytes : List ℕ) (x : List ℕ) (c : ℕ) → place x ≡ told_by begin bytes 0 → IsPlacedAt place begin bytes 0 x (c ∷ [])
one_placed place begin bytes x c here [] d rest is = rw (append-nil x) here
one_placed place begin bytes x c here (e ∷ front) d rest is = absurd (omega (arith, ap length is, length-append front (d ∷ rest)))

-- the bytes of one character
pub chars_of_one : (bytes : List ℕ) (c : ℕ) → IsUtf8 bytes → bytes ≡ encode_utf8 c → chars bytes ≡ c ∷ []
chars_of_one bytes c utf8 is = rw chars-nil at (chars_past_char bytes [] c utf8 (rw (append-nil (encode_utf8 c)) is))

-- what is left of a text has characters as long as it has bytes
pub nothing-left : (rest : List ℕ) → length rest ≡ 0 → chars rest ≡ []
nothing-left rest none = rw (nil_from_length rest none) chars-nil

-- a front after x, and what stands after that
pub front-joined : (x text front rest : List ℕ) → text ≡ front ++ rest → (x ++ front) ++ rest ≡ x ++ text
front-joined x text front rest is = rw is (append_assoc x front rest)

-- a longer front, and the one after which nothing stands
module _ (text front rest : List ℕ) (is : chars text ≡ front ++ chars rest) where
  pub front-more : (next after : List ℕ) → chars rest ≡ next ++ chars after → chars text ≡ (front ++ next) ++ chars after
  front-more next after more = rw (more, ← append_assoc front next (chars after)) at is

  pub front-whole : length rest ≡ 0 → front ≡ chars text
  front-whole none = sym (rw (nothing-left rest none, append-nil front) at is)

-- what is decided in a front of a text is decided by the text
pub decides-within : {T : Type 0} (decides : List ℕ → Option (Result T Fault)) {answer : Result T Fault} (x text front rest : List ℕ) → text ≡ front ++ rest → Decides decides (x ++ front) answer → Decides decides (x ++ text) answer
decides-within decides x text front rest is decided = λ more. rw (is, ← append_assoc x front rest, append_assoc (x ++ front) rest more) (decided (rest ++ more))

pub takes-none : (stands : List ℕ → Type 0) (x text : List ℕ) → stands x → HasTakenFront stands x text text
takes-none stands x text taken = record { front = []; is_front = refl; taken = rw (append-nil x) taken }

-- after a front that was taken
module _ {stands : List ℕ → Type 0} {x text rest : List ℕ} (here : HasTakenFront stands x text rest) where
  pub joined : (x ++ here.front) ++ chars rest ≡ x ++ chars text
  joined = front-joined x (chars text) here.front (chars rest) here.is_front

  -- the offset, and those of what is left
  pub offset_after : {at : ℕ} (base : ℕ) → IsUtf8 text → IsUtf8 rest → at ≡ base + length (encode_utf8_all x) → at + (length text - length rest) ≡ base + length (encode_utf8_all (x ++ here.front))
  offset_after base whole left begun = omega (arith, front_len text here.front rest whole left here.is_front, ap length (encodes-append x here.front), length-append {A = ℕ})

  pub placed-left : (place : List ℕ → ℕ) (begin : ℕ) (bytes : List ℕ) → IsUtf8 text → IsUtf8 rest → IsPlacedAt place begin bytes 0 x (chars text) → IsPlacedAt place begin bytes (length text - length rest) (x ++ here.front) (chars rest)
  placed-left place begin bytes whole left placed = placed-after place begin bytes 0 x (chars text) here.front (chars rest) _ here.is_front (omega (arith, front_len text here.front rest whole left here.is_front)) placed

  pub takes-more : {next : List ℕ → Type 0} {after : List ℕ} → HasTakenFront next (x ++ here.front) rest after → HasTakenFront next x text after
  takes-more {after = after} more = record {
    front = here.front ++ more.front;
    is_front = front-more text here.front rest here.is_front more.front after more.is_front;
    taken = rw (append_assoc x here.front more.front) at more.taken;
  }

  pub takes-whole : length rest ≡ 0 → stands (x ++ chars text)
  takes-whole none = rw (front-whole text here.front rest here.is_front none) at here.taken

  -- with the character there
  module _ (c : ℕ) (after : List ℕ) (utf8 : IsUtf8 rest) (is : rest ≡ encode_utf8 c ++ after) where
    pub takes-char : {next : List ℕ → Type 0} → next ((x ++ here.front) ++ c ∷ []) → HasTakenFront next x text after
    takes-char taken = takes-more (record { front = c ∷ []; is_front = chars_past_char rest after c utf8 is; taken = taken })

    pub decides-char : {T : Type 0} (decides : List ℕ → Option (Result T Fault)) {answer : Result T Fault} → Decides decides ((x ++ here.front) ++ c ∷ []) answer → Decides decides (x ++ chars text) answer
    decides-char decides decided = rw joined at (decides-within decides (x ++ here.front) (chars rest) (c ∷ []) (chars after) (chars_past_char rest after c utf8 is) decided)

module _ {p : Properties} where
  pub char_after : {text rest : List ℕ} (c : ℕ) → IsUtf8 text → IsUtf8 rest → text ≡ encode_utf8 c ++ rest → p.assigned c ≡ true → IsAfterAssigned p text rest
  char_after {text} {rest} c u rest_utf8 e assigned =
      let n = length (encode_utf8 c) in
      let piece : IsUtf8 (encode_utf8 c) = rw (e, take_at (encode_utf8 c) rest n refl) at (IsUtf8-take text n u (IsCharBoundary-at_seam text (encode_utf8 c) rest e rest_utf8)) in
      record { front = encode_utf8 c; split = e; front_utf8 = piece; rest_utf8 = rest_utf8; assigned = rw (chars_of_one (encode_utf8 c) c piece refl, assigned) }

module _ {p : Properties} {text rest : List ℕ} (here : IsAfterAssigned p text rest) where
  pub piece_after : {next : List ℕ} → IsAfterAssigned p rest next → IsAfterAssigned p text next
  piece_after more = record {
    front = here.front ++ more.front;
    split = simp (here.split, more.split, append_assoc);
    front_utf8 = IsUtf8-append here.front more.front here.front_utf8 more.front_utf8;
    rest_utf8 = more.rest_utf8;
    assigned = rw (chars-append here.front more.front here.front_utf8, list_all-append p.assigned (chars here.front) (chars more.front), here.assigned, more.assigned);
  }

  pub len_front : length text - length rest ≡ length here.front
  len_front = omega (arith, ap length here.split, length-append here.front rest)

  pub front_at : take (length text - length rest) text ≡ here.front
  front_at = ap (take (length text - length rest)) here.split ∙ take_at here.front rest _ (sym len_front)

  -- where the next character, if any, is not assigned
  pub front_is : take_while p.assigned (chars rest) ≡ [] → take_while p.assigned (chars text) ≡ chars here.front
  front_is none = rw (here.split, chars-append here.front rest here.front_utf8, take_while-append p.assigned (chars here.front) (chars rest) here.assigned, none) (append-nil (chars here.front))

pub stops_at_end : (test : ℕ → Bool) (rest : List ℕ) → length rest ≡ 0 → take_while test (chars rest) ≡ []
stops_at_end test rest empty = rw (nothing-left rest empty)
