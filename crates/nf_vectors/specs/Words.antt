-- The code points of a column: words of hexadecimal digits.
use Rattle.std.specs.Prelude.{ℕ, ◌+◌, ◌*◌, Bool, not, ◌&&◌, nat_le, nat_lt, List, [], ◌∷◌, ◌++◌, length, fold, if◌then◌else◌, Result, Ok, Err}
use Rattle.std.specs.Char.{digit_value}
use Rattle.std.specs.Int.{is_in_range}
use Rattle.std.specs.List.{list_all, slice_split}
use Rattle.nf_vectors.specs.declared.fault.VectorKind.{VectorKind}
use Rattle.nf_vectors.specs.declared.fault.VectorKind.TheVariants.{Empty, Hex, Scalar}
use Rattle.nf_vectors.specs.Line.{is_gap}

-- a hexadecimal digit, of either case
abbrev pub is_digit : ℕ → Bool
is_digit b = nat_lt (digit_value b) 16

abbrev pub value_of : List ℕ → ℕ
value_of digits = fold (λ value b. 16 * value + digit_value b) 0 digits

-- a scalar value (The Unicode Standard, section 3.9, D76)
abbrev pub is_scalar : ℕ → Bool
is_scalar c = nat_lt c 0x110000 && not (is_in_range 0xD800 0xDFFF c)

-- the code point that a word is
abbrev pub code_point : List ℕ → Result ℕ VectorKind
code_point word =
    let is_number = nat_le 1 (length word) && nat_le (length word) 6 && list_all is_digit word in
    let code = if is_scalar (value_of word) then Ok (value_of word) else Err Scalar in
    if is_number then code else Err Hex

abbrev pub and_then : {A B : Type 0} → Result A VectorKind → (A → Result B VectorKind) → Result B VectorKind
and_then (Ok x) f = f x
and_then (Err kind) f = Err kind

-- code points, and then those after them
abbrev pub before : List ℕ → Result (List ℕ) VectorKind → Result (List ℕ) VectorKind
before codes more = and_then more (λ cs. Ok (codes ++ cs))

-- the code points of words, of which the empty ones are none; the first bad word is the fault
abbrev pub code_points : List (List ℕ) → Result (List ℕ) VectorKind
code_points [] = Ok []
code_points ([] ∷ words) = code_points words
code_points ((b ∷ bs) ∷ words) = and_then (code_point (b ∷ bs)) (λ c. before (c ∷ []) (code_points words))

abbrev pub some_or_empty : Result (List ℕ) VectorKind → Result (List ℕ) VectorKind
some_or_empty (Ok []) = Err Empty
some_or_empty (Ok (c ∷ cs)) = Ok (c ∷ cs)
some_or_empty (Err kind) = Err kind

-- the code points of a column, of which there is at least one
unfoldable pub column_in : List ℕ → Result (List ℕ) VectorKind
column_in bytes = some_or_empty (code_points (slice_split is_gap bytes))
