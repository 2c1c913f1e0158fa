-- What the hiphop grooves share: at most two snares a bar, and hats on every eighth. Assumes nothing.
use mathlib.Core.Path.{◌≡◌, refl}
use mathlib.Core.Bool.{false}
use Prim.Native.Nat.{ℕ, zero, suc, ◌≤◌}
use native.Mathlib.Omega.{arith}
use Rattle.composer.specs.Drums.Grooves.{hiphop_groove_of}

pub hiphop_snares : (n : ℕ) → (hiphop_groove_of n).snares.n ≤ 2
unfolding hiphop_groove_of
hiphop_snares zero = omega arith
hiphop_snares (suc zero) = omega arith
hiphop_snares (suc (suc zero)) = omega arith
hiphop_snares (suc (suc (suc zero))) = omega arith
hiphop_snares (suc (suc (suc (suc n)))) = omega arith

pub hiphop_eighths : (n : ℕ) → (hiphop_groove_of n).hats.off_eighths_only ≡ false
unfolding hiphop_groove_of
hiphop_eighths zero = refl
hiphop_eighths (suc zero) = refl
hiphop_eighths (suc (suc zero)) = refl
hiphop_eighths (suc (suc (suc zero))) = refl
hiphop_eighths (suc (suc (suc (suc n)))) = refl
