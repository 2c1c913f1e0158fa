-- Sums of a sequence: of two, of equal ones, of one that is zero but at a single place, and in which part of a sum a
-- number falls. Assumes nothing.
use mathlib.Core.Path.{◌≡◌, refl, ap, subst}
use mathlib.Core.Bool.{Bool, true, false}
use mathlib.Core.Logic.{⊎_elim}
use Prim.Native.Nat.{ℕ, zero, suc, ◌+◌, ◌-◌, ◌<◌}
use native.Mathlib.Nat.{eq-or-lt_of_le, le_of_suc-le-suc}
use native.Mathlib.Omega.{arith}
use borrow.Author.Tests.{ltb-true, ltb-false}
use lib.Dec.{ltb}
use Rattle.laws.specs.Sums.{sum_to}

pub sum_two : (g h : ℕ → ℕ) (n : ℕ) → sum_to (λ k. g k + h k) n ≡ sum_to g n + sum_to h n
unfolding sum_to
sum_two g h zero = refl
sum_two g h (suc n) = omega (arith, sum_two g h n)

pub sum_same : (g h : ℕ → ℕ) → ((k : ℕ) → g k ≡ h k) → (n : ℕ) → sum_to g n ≡ sum_to h n
unfolding sum_to
sum_same g h e zero = refl
sum_same g h e (suc n) = omega (arith, e n, sum_same g h e n)

pub sum_none : (g : ℕ → ℕ) (n : ℕ) → ((k : ℕ) → k < n → g k ≡ 0) → sum_to g n ≡ 0
unfolding sum_to
sum_none g zero h = refl
sum_none g (suc n) h = omega (arith, h n (omega arith), sum_none g n (λ k l. h k (omega arith)))

-- one place of the first n counts
pub sum_once : (g : ℕ → ℕ) (b n : ℕ) → b < n → ((k : ℕ) → (k ≡ b → ⊥) → g k ≡ 0) → sum_to g n ≡ g b
unfolding sum_to
sum_once g b zero h other = absurd (omega arith)
sum_once g b (suc n) h other =
    ⊎_elim (λ (e : b ≡ n). omega (arith, ap g e, sum_none g n (λ k l. other k (λ q. omega arith))))
    (λ (e : b < n). omega (arith, other n (λ q. omega arith), sum_once g b n e other)) (eq-or-lt_of_le (le_of_suc-le-suc h))

-- a place within part c lies below the sum of more than c parts
pub sum_within : (g : ℕ → ℕ) (c i k : ℕ) → c < k → i < g c → sum_to g c + i < sum_to g k
unfolding sum_to
sum_within g c i zero h l = absurd (omega arith)
sum_within g c i (suc k) h l =
    ⊎_elim (λ (e : c ≡ k). subst (λ (v : ℕ). sum_to g c + i < sum_to g v + g v) e (omega arith))
    (λ (e : c < k). omega (arith, sum_within g c i k e l)) (eq-or-lt_of_le (le_of_suc-le-suc h))

-- and what lies below the sum is a place within one of them
pub record InPart (g : ℕ → ℕ) (k n : ℕ) : Type 0 where
  pub part : ℕ
  pub place : ℕ
  pub few : part < k
  pub inside : place < g part
  pub stands : n ≡ sum_to g part + place

pub sum_part : (g : ℕ → ℕ) (k n : ℕ) → n < sum_to g k → InPart g k n
unfolding sum_to
sum_part g zero n h = absurd (omega arith)
sum_part g (suc k) n h = go (ltb n (sum_to g k)) refl (sum_part g k n)
  where
    go : (t : Bool) → ltb n (sum_to g k) ≡ t → (n < sum_to g k → InPart g k n) → InPart g (suc k) n
    go true e earlier =
        let p = earlier (ltb-true n (sum_to g k) e) in
        record { part = p.part; place = p.place; few = omega (arith, p.few); inside = p.inside; stands = p.stands }
    go false e earlier =
        let l = ltb-false n (sum_to g k) e in
        record { part = k; place = n - sum_to g k; few = omega arith; inside = omega arith; stands = omega arith }
