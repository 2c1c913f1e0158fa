-- The choice among weighted rows by one unit draw. Definitions only.
use Rattle.std.specs.Prelude.{cond, List, [], ◌∷◌, ℕ, ◌+◌, ◌-◌, ltb, sum, Float}
use Rattle.streams.specs.Draw.{picked_of}

-- the row whose band holds `at`, the bands laid end to end from 0 on; the last row past them all
unfoldable pub row_at_of : List ℕ → ℕ → ℕ
row_at_of [] at = 0
row_at_of (w ∷ []) at = 0
row_at_of (w ∷ v ∷ ws) at = cond (ltb at w) 0 (1 + row_at_of (v ∷ ws) (at - w))

unfoldable pub band_of : Float → List ℕ → ℕ
band_of u ws = row_at_of ws (picked_of u (sum ws))
