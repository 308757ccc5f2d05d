-- Characters that are appended to a text, those that it begins with, and the first of them as a text of its own.
use Rattle.std.proofs.Common.{arith, ◌≡◌, ℕ, List, [], ◌∷◌, ◌++◌, append-nil, append_assoc, refl, encode_utf8_all}
use Rattle.nf_boundary.proofs.Common.{encodes-append, Form, BeginsAtBoundary, HasForm, ucd, Seen, Sees, IsAtBoundary, Closes, canonical_combining_class}

pub class_of : (c : ℕ) → ucd.class c ≡ canonical_combining_class c
unfolding ucd
class_of c = refl

-- characters appended to a text to which others were
pub appended : (old a b new new' : List ℕ) → new ≡ old ++ encode_utf8_all a → new' ≡ new ++ encode_utf8_all b → new' ≡ old ++ encode_utf8_all (a ++ b)
appended old a b new new' first second = rw (second, first, encodes-append, append_assoc)

-- a text that begins with characters, and with more of them before others
pub split_more : (text middle rest front more : List ℕ) → text ≡ encode_utf8_all front ++ middle → middle ≡ encode_utf8_all more ++ rest → text ≡ encode_utf8_all (front ++ more) ++ rest
split_more text middle rest front more first second = rw (first, second, encodes-append, append_assoc)

pub split_seen : (seen : Seen) → Sees seen → (rest : List ℕ) → rest ≡ seen.after.now → seen.text.now ≡ encode_utf8_all (seen.character ∷ []) ++ rest
split_seen seen sees rest is = rw (is, append-nil) sees.text

-- characters that begin at a boundary, and more after them
pub begins_more : (f : Form) (cs more : List ℕ) → BeginsAtBoundary ucd f cs → BeginsAtBoundary ucd f (cs ++ more)
begins_more f cs more b = grind arith

-- the character is closed, where a boundary comes after it
pub closes_letter : (f : Form) (first : Seen) → IsAtBoundary f first → (next : Seen) → next.text.now ≡ first.after.now → IsAtBoundary f next
    → (more : List ℕ) → HasForm ucd f (first.character ∷ []) more → (old new : List ℕ) → new ≡ old ++ encode_utf8_all more → Closes f first.text.now next old new
closes_letter f first at next is after more form old new formed = let split = split_seen first at.sees next.text.now is in grind arith
