-- The row, as the loop finds it, and that a band is one of the rows. Assumes nothing.
use mathlib.Core.Path.{◌≡◌, refl}
use mathlib.Core.Bool.{Bool, true, false, cond}
use mathlib.Core.List.{List, [], ◌∷◌}
use Prim.Native.Nat.{ℕ, zero, suc, ◌+◌, ◌-◌, ◌≤◌, ◌<◌}
use native.Mathlib.Numerals.{add-one}
use native.Mathlib.Omega.{arith}
use borrow.Author.Tests.{lt-ltb, le-ltb}
use lib.Dec.{ltb}
use lib.ListN.{length, get_or, drop}
use lib.Ieee.{Float}
use Rattle.composer.specs.Band.{row_at_of, band_of}

row_step : (ws : List ℕ) (i left : ℕ) → i + 1 < length ws → row_at_of (drop i ws) left ≡ cond (ltb left (get_or ws i 0)) 0 (1 + row_at_of (drop (suc i) ws) (left - get_or ws i 0))
unfolding row_at_of
row_step [] i left h = absurd (omega arith)
row_step (w ∷ []) i left h = absurd (omega arith)
row_step (w ∷ v ∷ ws) zero left h = refl
row_step (w ∷ v ∷ ws) (suc i) left h = row_step (v ∷ ws) i left (omega arith)

pub row_hit : (ws : List ℕ) (i left : ℕ) → i + 1 < length ws → left < get_or ws i 0 → row_at_of (drop i ws) left ≡ 0
row_hit ws i left h l = rw (row_step ws i left h, lt-ltb left (get_or ws i 0) l)

pub row_miss : (ws : List ℕ) (i left : ℕ) → i + 1 < length ws → get_or ws i 0 ≤ left → row_at_of (drop i ws) left ≡ 1 + row_at_of (drop (i + 1) ws) (left - get_or ws i 0)
row_miss ws i left h l = rw (row_step ws i left h, le-ltb left (get_or ws i 0) l, add-one i)

pub row_last : (ws : List ℕ) (i left : ℕ) → i + 1 ≡ length ws → row_at_of (drop i ws) left ≡ 0
unfolding row_at_of
row_last [] i left h = absurd (omega arith)
row_last (w ∷ []) zero left h = refl
row_last (w ∷ []) (suc i) left h = absurd (omega arith)
row_last (w ∷ v ∷ ws) zero left h = absurd (omega arith)
row_last (w ∷ v ∷ ws) (suc i) left h = row_last (v ∷ ws) i left (omega arith)

chosen_le : (t : Bool) (a n : ℕ) → a ≤ n → cond t 0 (1 + a) ≤ 1 + n
chosen_le true a n h = omega arith
chosen_le false a n h = omega arith

row_le : (w : ℕ) (ws : List ℕ) (at : ℕ) → row_at_of (w ∷ ws) at ≤ length ws
unfolding row_at_of
row_le w [] at = omega arith
row_le w (v ∷ ws) at = omega (arith, chosen_le (ltb at w) (row_at_of (v ∷ ws) (at - w)) (length ws) (row_le v ws (at - w)))

-- a band is one of the rows, whatever the float
pub band_le : (u : Float) (w : ℕ) (ws : List ℕ) → band_of u (w ∷ ws) ≤ length ws
unfolding band_of
band_le u w ws = row_le w ws _
