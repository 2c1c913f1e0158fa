-- SplitMix64 (Steele, Lea and Flood), with the finaliser constants of dsp.rs. Definitions only.
use Rattle.std.specs.Prelude.{ℕ, ◌+◌, ◌*◌, ◌%◌, ◌^◌}
use Rattle.laws.specs.Bits.{xor_shift}

abbrev pub golden_gamma : ℕ
golden_gamma = 0x9e37_79b9_7f4a_7c15

abbrev pub splitmix64_m1 : ℕ
splitmix64_m1 = 0xbf58_476d_1ce4_e5b9

abbrev pub splitmix64_m2 : ℕ
splitmix64_m2 = 0x94d0_49bb_1331_11eb

-- the finaliser
unfoldable pub splitmix64_of : ℕ → ℕ
splitmix64_of z =
    let a = xor_shift z 30 * splitmix64_m1 % 2 ^ 64 in
    let b = xor_shift a 27 * splitmix64_m2 % 2 ^ 64 in
    xor_shift b 31

-- draw n of the stream seeded at `seed`, counting from 1
unfoldable pub splitmix_draw_of : ℕ → ℕ → ℕ
splitmix_draw_of seed n = splitmix64_of ((seed + n * golden_gamma) % 2 ^ 64)
