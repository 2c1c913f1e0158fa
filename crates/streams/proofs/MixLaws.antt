-- Every draw is below 2^64. Assumes nothing.
use Rattle.std.proofs.Common.{ℕ, ◌+◌, ◌*◌, ◌%◌, ◌^◌, ◌<◌}
use Rattle.laws.specs.Bits.{xor_shift}
use Rattle.laws.proofs.Inverses.{wrapped}
use Rattle.laws.proofs.Xors.{xor_shift_lt}
use Rattle.streams.specs.Mix.{splitmix64_m1, splitmix64_m2, splitmix64_of, golden_gamma, splitmix_draw_of}

pub splitmix64_lt : (z : ℕ) → splitmix64_of z < 2 ^ 64
unfolding splitmix64_of
splitmix64_lt z = xor_shift_lt 31 _ (wrapped (xor_shift (xor_shift z 30 * splitmix64_m1 % 2 ^ 64) 27 * splitmix64_m2))

pub splitmix_draw_lt : (seed n : ℕ) → splitmix_draw_of seed n < 2 ^ 64
unfolding splitmix_draw_of
splitmix_draw_lt seed n = splitmix64_lt ((seed + n * golden_gamma) % 2 ^ 64)
