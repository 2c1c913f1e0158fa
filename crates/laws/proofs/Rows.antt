-- The rows of an array of arrays have the length that its type says. Assumes nothing.
use mathlib.Core.Path.{◌≡◌}
use mathlib.Core.List.{List, [], ◌∷◌}
use Prim.Native.Nat.{ℕ, zero, suc, ◌<◌}
use native.Mathlib.Nat.{not-suc-le-zero, le_of_suc-le-suc}
use lib.ListN.{length, get_or}
use mir.Syntax.{Width}
use mir.Val.{Val}
use denote.Array.{each, in_array}
use denote.Plain.{UInt}
use denote.Shadow.{shadow}

-- from what an array's relation says of its entries
pub row_long : (w : Width) (n : ℕ) (xs : List (List ℕ)) (us : List Val) (i : ℕ) → shadow (each (List ℕ) (in_array ℕ (UInt w).own_val n) xs us) → i < length xs → length (get_or xs i []) ≡ n
row_long w n [] us i p h = absurd (not-suc-le-zero h)
row_long w n (x ∷ xs) [] i p h = absurd p
row_long w n (x ∷ xs) (u ∷ us) zero p h = p.0.1.0.1
row_long w n (x ∷ xs) (u ∷ us) (suc i) p h = row_long w n xs us i p.1 (le_of_suc-le-suc h)
