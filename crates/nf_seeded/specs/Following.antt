use Rattle.std.specs.Prelude.{ℕ, ◌*◌, ◌/◌, ◌%◌, ◌^◌, bit_xor}

-- the state after `x`: Marsaglia's xorshift of 64 bits
unfoldable pub following : ℕ → ℕ
following x =
    let y = bit_xor x (x * 2 ^ 13 % 2 ^ 64) in
    let z = bit_xor y (y / 2 ^ 7) in
    bit_xor z (z * 2 ^ 17 % 2 ^ 64)
