-- What is well-formed and what begins a text, after a text and in front of more.
use Rattle.nf_utf8.proofs.Common.{ℕ, List, [], ◌++◌, length, IsUtf8, refl, append_assoc, append-nil, take_at, drop_at, after_text, IsUtf8-append, BeginsText}

pub IsUtf8-after : (xs ys : List ℕ) → IsUtf8 xs → IsUtf8 (xs ++ ys) → IsUtf8 ys
IsUtf8-after xs ys u v = rw (drop_at xs ys (length xs) refl) at (after_text (xs ++ ys) (length xs) v (rw (take_at xs ys (length xs) refl) u))

pub BeginsText-append : (xs ys : List ℕ) → IsUtf8 xs → BeginsText ys → BeginsText (xs ++ ys)
BeginsText-append xs ys u b = (b.0, rw append_assoc (IsUtf8-append xs (ys ++ b.0) u b.1))

pub BeginsText-after : (xs ys : List ℕ) → IsUtf8 xs → BeginsText (xs ++ ys) → BeginsText ys
BeginsText-after xs ys u b = (b.0, IsUtf8-after xs (ys ++ b.0) u (rw append_assoc at b.1))

pub BeginsText-front : (xs ys : List ℕ) → BeginsText (xs ++ ys) → BeginsText xs
BeginsText-front xs ys b = (ys ++ b.0, rw append_assoc at b.1)

pub BeginsText-IsUtf8 : (xs : List ℕ) → IsUtf8 xs → BeginsText xs
BeginsText-IsUtf8 xs u = ([], rw append-nil u)
