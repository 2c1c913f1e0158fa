-- A pick of n is below n, and picks, chances and coins make one draw each. Assumes nothing.
use Rattle.std.proofs.Common.{◌≡◌, ℕ, ◌+◌, ◌-◌, ◌<◌, ◌≤◌, arith}
use lib.Ieee.{Float, binary32, of_bits}
use Rattle.streams.specs.Stream.{after, unit_at}
use Rattle.streams.specs.Draw.{picked_of, pick_of, chance_of, coin_of}
use Rattle.streams.specs.declared.stream.NoiseStream.{NoiseStream}
use Rattle.streams.proofs.StreamLaws.{unit_advances, unit_number}

pub picked_le : (u : Float) (n : ℕ) → picked_of u n ≤ n - 1
unfolding picked_of
picked_le u n = omega arith

pub picked_lt : (u : Float) (n : ℕ) → 0 < n → picked_of u n < n
picked_lt u n h = omega (arith, picked_le u n)

pub picked_none : (u : Float) → picked_of u 0 ≡ 0
unfolding picked_of
picked_none u = omega arith

module _ (s : NoiseStream) where
  pub pick_lt : (n : ℕ) → 0 < n → (pick_of s n).value < n
  unfolding pick_of
  pick_lt n h = picked_lt _ n h

  pub pick_advances : (n : ℕ) → (pick_of s n).stream ≡ after s 1
  unfolding pick_of
  pick_advances n = unit_advances s

  -- a pick after m draws is of draw m + 1
  pub pick_number : (t : NoiseStream) (m n : ℕ) → t ≡ after s m → (pick_of t n).value ≡ picked_of (unit_at s (m + 1)) n
  unfolding pick_of
  pick_number t m n e = rw (e, unit_number s m)

  pub chance_advances : (p : Float) → (chance_of s p).stream ≡ after s 1
  unfolding chance_of
  chance_advances p = unit_advances s

  pub coin_advances : (coin_of s).stream ≡ after s 1
  unfolding coin_of
  coin_advances = chance_advances (of_bits binary32 0x3f00_0000)
