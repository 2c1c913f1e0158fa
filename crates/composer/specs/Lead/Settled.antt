-- What every bar of the lead's rhythm is. Definitions only.
use Rattle.std.specs.Prelude.{◌≡◌, false, List, [], ◌∷◌, ℕ, ◌≤◌, length, Float}
use Rattle.std.specs.Float.{nan, binary32}
use Rattle.std.specs.Float.Ieee.{mul, of_bits}
use Rattle.laws.specs.Floats.{f32_of}
use Rattle.laws.specs.Order.{total_le}
use Rattle.laws.specs.Sorts.{All, Sorted}
use Rattle.composer.specs.Lead.Beats.{Beats, beats_of, near_of}

-- q times 0.25
abbrev pub quarters : ℕ → Float
quarters q = mul binary32 (f32_of q) (of_bits binary32 0x3e80_0000)

-- a multiple of a quarter beat, from 0.5 to 3.5
pub record Quarter (x : Float) : Type 0 where
  pub times : ℕ
  pub least : 2 ≤ times
  pub most : times ≤ 14
  pub is : x ≡ quarters times

-- each is at least half a beat from the one before it, and the first from k
abbrev pub Spaced : Float → List Float → Type 0
Spaced k [] = Unit
Spaced k (x ∷ xs) = (near_of x k ≡ false) × Spaced x xs

-- at most seven beats, in order, spaced, on quarters; the rest of the array is zero
pub record Settled (b : Beats) : Type 0 where
  pub beats : List Float
  pub is : b ≡ beats_of beats
  pub few : length beats ≤ 7
  pub sorted : Sorted total_le beats
  pub spaced : Spaced nan beats
  pub quartered : All Quarter beats
