-- SplitMix64 backwards: each step of the mixer undone, in the opposite order. Definitions only.
use Rattle.std.specs.Prelude.{ℕ, ◌+◌, ◌*◌, ◌%◌, ◌^◌}
use Rattle.laws.specs.Bits.{unshift}

-- the inverses of the mixer's two factors modulo 2^64, and the golden gamma's negative
abbrev pub un_m1 : ℕ
un_m1 = 0x96de_1b17_3f11_9089

abbrev pub un_m2 : ℕ
un_m2 = 0x3196_42b2_d24d_8ec3

abbrev pub minus_gamma : ℕ
minus_gamma = 0x61c8_8646_80b5_83eb

-- the number whose splitmix64 is y
unfoldable pub unmix_of : ℕ → ℕ
unmix_of y =
    let b = unshift y 31 * un_m2 % 2 ^ 64 in
    let a = unshift b 27 * un_m1 % 2 ^ 64 in
    unshift a 30

-- the seed of the stream whose draw n, counting from 1, is w
unfoldable pub undraw_of : ℕ → ℕ → ℕ
undraw_of w n = (unmix_of w + n * minus_gamma) % 2 ^ 64
