-- Worked lines, computed from the definitions.
use Rattle.nf_vectors.proofs.Common.{◌≡◌, [], ◌∷◌, ◌++◌, true, false, None, Some, Ok, Err, refl, codes, Fields, Empty, Hex, Scalar, Size, lines_of, code_point, column_in, Nothing, Part, Row, Bad, judgement, judged, first_fault}

a_word : code_point (codes "1E9b") ≡ Ok 0x1E9B
a_word = refl

seven_digits : code_point (codes "0000061") ≡ Err Hex
seven_digits = refl

a_surrogate : code_point (codes "D800") ≡ Err Scalar
a_surrogate = refl

a_column : column_in (codes " 0061  0301 ") ≡ Ok (0x61 ∷ 0x301 ∷ [])
unfolding column_in
a_column = refl

a_comment : judgement (codes "  # 0061;") ≡ Nothing
a_comment = refl

a_part : judgement (codes "@Part1 # all") ≡ Part true
a_part = refl

another_part : judgement (codes "@Part1;") ≡ Part false
another_part = refl

a_row : judgement (codes "C5;C5;41 30A;C5;41 30A; # x")
    ≡ Row (record { source = 0xC5 ∷ []; nfc = 0xC5 ∷ []; nfd = 0x41 ∷ 0x30A ∷ []; nfkc = 0xC5 ∷ []; nfkd = 0x41 ∷ 0x30A ∷ [] })
unfolding column_in
a_row = refl

four_columns : judgement (codes "61;61;61;61") ≡ Bad Fields
four_columns = refl

a_sixth_piece : judgement (codes "61;61;61;61;61; x") ≡ Bad Fields
a_sixth_piece = refl

the_first_bad_column : judgement (codes "61;;G;61;61;") ≡ Bad Empty
unfolding column_in
the_first_bad_column = refl

the_first_bad_word : judgement (codes "61;D800 G;61;61;61;") ≡ Bad Scalar
unfolding column_in
the_first_bad_word = refl

a_marked_line : judged 1 (0xEF ∷ 0xBB ∷ 0xBF ∷ codes "@Part1") ≡ Part true
a_marked_line = refl

a_bad_line : first_fault 1 None (lines_of (codes "# x" ++ 10 ∷ codes "61" ++ 10 ∷ [])) ≡ Some (record { line = 2; kind = Fields })
a_bad_line = refl

a_byte_too_many : first_fault 1 (Some Size) (lines_of (codes "# x" ++ 10 ∷ codes "61")) ≡ Some (record { line = 2; kind = Size })
a_byte_too_many = refl
