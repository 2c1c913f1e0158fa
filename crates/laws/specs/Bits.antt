-- A number xored with its own shift, and back. Definitions only.
use Rattle.std.specs.Prelude.{ℕ, ◌/◌, ◌^◌}
use Rattle.std.specs.Int.Bits.{bit_xor}

-- z, and z shifted right by k bits, xored
abbrev pub xor_shift : ℕ → ℕ → ℕ
xor_shift z k = bit_xor z (z / 2 ^ k)

-- the number whose xorShift by k is y, where y has at most 3 * k bits
unfoldable pub unshift : ℕ → ℕ → ℕ
unshift y k = bit_xor y (xor_shift y k / 2 ^ k)
