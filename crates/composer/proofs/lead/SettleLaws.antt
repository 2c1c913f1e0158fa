-- Settled beats are in order, none is near the one kept before it, and each was among the beats. Assumes nothing.
use mathlib.Core.Path.{◌≡◌, refl}
use mathlib.Core.Bool.{Bool, true, false, cond}
use mathlib.Core.List.{List, [], ◌∷◌}
use Prim.Native.Nat.{suc, ◌≤◌}
use native.Mathlib.Nat.{le_refl, le_trans, le_of_eq}
use native.Mathlib.Omega.{arith}
use lib.ListN.{length}
use lib.Ieee.{Float, nan, inf, fin, add, neg, sub, lt}
use Rattle.laws.specs.Order.{total_le}
use Rattle.laws.specs.Sorts.{All, Sorted, sort}
use Rattle.laws.proofs.Sorts.{floats_sorted, all_sort, length_sort}
use Rattle.composer.specs.Lead.Beats.{near_of, thin_of, settled}
use Rattle.composer.specs.Lead.Settled.{Spaced}

-- ---- of a thinned list
thin_spaced : (k : Float) (xs : List Float) → Spaced k (thin_of k xs)
unfolding thin_of
thin_spaced k [] = tt
thin_spaced k (x ∷ xs) = go (near_of x k) refl (thin_spaced k xs) (thin_spaced x xs)
  where
    go : (t : Bool) → near_of x k ≡ t → Spaced k (thin_of k xs) → Spaced x (thin_of x xs) → Spaced k (cond t (thin_of k xs) (x ∷ thin_of x xs))
    go true e p q = p
    go false e p q = (e, q)

all_thin : (P : Float → Type 0) (k : Float) (xs : List Float) → All P xs → All P (thin_of k xs)
unfolding thin_of
all_thin P k [] a = tt
all_thin P k (x ∷ xs) a = go (near_of x k) (all_thin P k xs a.1) (all_thin P x xs a.1)
  where
    go : (t : Bool) → All P (thin_of k xs) → All P (thin_of x xs) → All P (cond t (thin_of k xs) (x ∷ thin_of x xs))
    go true p q = p
    go false p q = (a.0, q)

thin_sorted : (k : Float) (xs : List Float) → Sorted total_le xs → Sorted total_le (thin_of k xs)
unfolding thin_of
thin_sorted k [] s = tt
thin_sorted k (x ∷ xs) s = go (near_of x k) (thin_sorted k xs s.1) (thin_sorted x xs s.1)
  where
    go : (t : Bool) → Sorted total_le (thin_of k xs) → Sorted total_le (thin_of x xs) → Sorted total_le (cond t (thin_of k xs) (x ∷ thin_of x xs))
    go true p q = p
    go false p q = (all_thin (λ (y : Float). total_le x y ≡ true) x xs s.0, q)

length_thin : (k : Float) (xs : List Float) → length (thin_of k xs) ≤ length xs
unfolding thin_of
length_thin k [] = le_refl 0
length_thin k (x ∷ xs) = go (near_of x k) (length_thin k xs) (length_thin x xs)
  where
    go : (t : Bool) → length (thin_of k xs) ≤ length xs → length (thin_of x xs) ≤ length xs → length (cond t (thin_of k xs) (x ∷ thin_of x xs)) ≤ suc (length xs)
    go true p q = omega arith
    go false p q = omega arith

-- ---- of settled beats
pub settle_sorted : (xs : List Float) → Sorted total_le (settled xs)
unfolding settled
settle_sorted xs = thin_sorted nan (sort total_le xs) (floats_sorted xs)

pub settle_spaced : (xs : List Float) → Spaced nan (settled xs)
unfolding settled
settle_spaced xs = thin_spaced nan (sort total_le xs)

-- what holds of every beat holds of every settled one
pub settle_all : (P : Float → Type 0) (xs : List Float) → All P xs → All P (settled xs)
unfolding settled
settle_all P xs a = all_thin P nan (sort total_le xs) (all_sort total_le P xs a)

pub length_settled : (xs : List Float) → length (settled xs) ≤ length xs
unfolding settled
length_settled xs = le_trans (length_thin nan (sort total_le xs)) (le_of_eq (length_sort total_le xs))

-- nothing is near nan, so the first is always kept
pub none_near : (x : Float) → near_of x nan ≡ false
unfolding near_of sub add neg lt
none_near nan = refl
none_near (inf s) = refl
none_near (fin s m e) = refl
