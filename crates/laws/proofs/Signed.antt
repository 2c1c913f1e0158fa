-- Minus a number below 2^63 fits an i64 and reads back from its bits. Assumes nothing.
use mathlib.Core.Path.{◌≡◌}
use Prim.Native.Nat.{ℕ, zero, suc, ◌^◌, ◌<◌}
use native.Mathlib.Omega.{arith}
use lib.IntN.{pos, neg_ℤ, ◌-ℤ◌, +ℤ_idl}
use mir.Syntax.{w64}
use mir.Val.{SFits, of_z, to_z}
use mir.ValLaws.{to_z_pos, to_z-of_z}

minus_small : (n : ℕ) → n < 2 ^ 63 → SFits w64 (neg_ℤ (pos n))
minus_small zero h = record { sfits = h }
minus_small (suc n) h = record { sfits = omega arith }

pub minus_fits : (n : ℕ) → n < 2 ^ 63 → SFits w64 (pos 0 -ℤ to_z w64 n)
minus_fits n h = rw (to_z_pos w64 n h, +ℤ_idl (neg_ℤ (pos n))) (minus_small n h)

pub minus_reads : (n : ℕ) → n < 2 ^ 63 → to_z w64 (of_z w64 (pos 0 -ℤ to_z w64 n)) ≡ neg_ℤ (pos n)
minus_reads n h = rw (to_z_pos w64 n h, +ℤ_idl (neg_ℤ (pos n))) (to_z-of_z w64 (neg_ℤ (pos n)) (minus_small n h))
