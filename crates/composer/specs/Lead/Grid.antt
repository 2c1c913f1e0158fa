-- The lead's grid: the beats among which a bar of the statement is drawn, before any push. Definitions only.
use Rattle.std.specs.Prelude.{◌≡◌, false, List, [], ◌∷◌, map, ℕ, ◌+◌, ◌-◌, ◌≤◌, length, get_or, Float}
use Rattle.std.specs.Float.{nan, binary32}
use Rattle.std.specs.Float.Ieee.{div, of_bits, to_bits}
use Rattle.std.specs.Float.Ieee.Exact.{HasValue}
use Rattle.laws.specs.Floats.{f32_of}
use Rattle.laws.specs.Lists.{list_to}

-- half of i + 1: (i + 1) / 2.0
abbrev pub grid_beat_of : ℕ → Float
grid_beat_of i = div binary32 (f32_of (i + 1)) (of_bits binary32 0x4000_0000)

-- the beats for i from 0 to 6
abbrev pub lead_grid : List Float
lead_grid = list_to grid_beat_of 7

-- the first of them and the last: the ends by which answers are held
abbrev pub grid_first : Float
grid_first = get_or lead_grid 0 nan

abbrev pub grid_last : Float
grid_last = get_or lead_grid (length lead_grid - 1) nan

-- 0.5, 1.0, 1.5, 2.0, 2.5, 3.0, 3.5 by their bits: the table that proofreaders hold the printed explanation against
abbrev pub grid_table : List ℕ
grid_table = 0x3f00_0000 ∷ 0x3f80_0000 ∷ 0x3fc0_0000 ∷ 0x4000_0000 ∷ 0x4020_0000 ∷ 0x4040_0000 ∷ 0x4060_0000 ∷ []

-- what proofreaders compare
pub record GridPromise : Type 0 where
  -- each beat is exactly (i + 1) / 2, and its sign is clear
  pub exact : (i : ℕ) → i ≤ 6 → HasValue (grid_beat_of i) false (i + 1) 2
  -- all seven have the table's bits, and are the numbers that these bits spell
  pub bits : map (to_bits binary32) lead_grid ≡ grid_table
  pub same : lead_grid ≡ map (of_bits binary32) grid_table
