-- A product modulo m by a number that has an inverse there can be undone, and so tells its other factor.
-- Assumes nothing.
use mathlib.Core.Path.{◌≡◌, sym, ap, ◌∙◌}
use Prim.Native.Nat.{ℕ, ◌+◌, ◌*◌, ◌/◌, ◌%◌, ◌^◌, ◌<◌}
use native.Mathlib.Nat.{add-mul, mul-add, mul_assoc, mul-one, mul_right_comm, div-add-mod', mul-add-mod_self_right, mod-eq_of_lt}
use native.Mathlib.Omega.{arith}

pub wrapped : (n : ℕ) → n % 2 ^ 64 < 2 ^ 64
wrapped n = omega arith

module _ (m : ℕ) where
  -- a factor may wrap first
  mod_mul_mod : (x d : ℕ) → x % m * d % m ≡ x * d % m
  mod_mul_mod x d =
      sym (ap (λ (n : ℕ). n * d % m) (sym (div-add-mod' x m)) ∙ ap (λ (n : ℕ). n % m) (add-mul (x / m * m) (x % m) d ∙ ap (λ (n : ℕ). n + x % m * d) (mul_right_comm (x / m) m d))
      ∙ mul-add-mod_self_right (x / m * d) m (x % m * d))

  -- d is c's inverse: their product is 1 modulo m
  module _ (c d q : ℕ) (e : c * d ≡ q * m + 1) where
    pub mul_back : (a : ℕ) → a < m → a * c % m * d % m ≡ a
    mul_back a h =
        mod_mul_mod (a * c) d
        ∙ ap (λ (n : ℕ). n % m) (mul_assoc a c d ∙ ap (λ (n : ℕ). a * n) e ∙ mul-add a (q * m) 1 ∙ rw (mul-one a, ← mul_assoc a q m))
        ∙ mul-add-mod_self_right (a * q) m a ∙ mod-eq_of_lt h

    pub mul_injective : (a b : ℕ) → a < m → b < m → a * c % m ≡ b * c % m → a ≡ b
    mul_injective a b h k f = sym (mul_back a h) ∙ ap (λ (n : ℕ). n * d % m) f ∙ mul_back b k
