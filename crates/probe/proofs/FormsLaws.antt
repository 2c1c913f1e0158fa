-- A bar's layers are below 16, so a word has room for 16 bars. Assumes nothing.
use mathlib.Core.Bool.{Bool, true, false, cond}
use mathlib.Core.List.{List}
use Prim.Native.Nat.{ℕ, zero, suc, ◌+◌, ◌^◌, ◌≤◌, ◌<◌}
use native.Mathlib.Nat.{pow-suc, pow-le-pow_right}
use native.Mathlib.Omega.{arith}
use lib.ListN.{get_or}
use Rattle.composer.specs.Form.Plays.{bits_of, silent}
use Rattle.composer.specs.declared.form.plays.Plays.{Plays}
use Rattle.probe.specs.Forms.{bars_word_of}

bit_le : (b : Bool) (n : ℕ) → cond b n 0 ≤ n
bit_le true n = omega arith
bit_le false n = omega arith

pub bits_lt : (p : Plays) → bits_of p < 16
bits_lt p = omega (arith, bit_le p.pad 1, bit_le p.keys 2, bit_le p.drums 4, bit_le p.bass 8)

bars_word_lt : (ps : List Plays) (from n : ℕ) → bars_word_of ps from n < 16 ^ n
unfolding bars_word_of
bars_word_lt ps from zero = omega arith
bars_word_lt ps from (suc n) = rw (pow-suc 16 n) (omega (arith, bars_word_lt ps from n, bits_lt (get_or ps (from + n) silent)))

-- one bar more still fits
pub bars_word_room : (ps : List Plays) (from n : ℕ) → n < 16 → bars_word_of ps from n < 2 ^ 60
bars_word_room ps from n h =
    let top : 16 ^ n ≤ 16 ^ 15 = pow-le-pow_right {n = 16} (omega arith) {i = n} {j = 15} (omega arith) in
    omega (arith, bars_word_lt ps from n, top)
