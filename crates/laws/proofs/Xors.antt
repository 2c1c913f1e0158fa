-- Xor is associative, and a number of 64 bits that was xored with its own shift can be found again. Assumes nothing.
use mathlib.Core.Path.{◌≡◌, refl, sym, ap, ap₂, ◌∙◌}
use Prim.Native.Nat.{ℕ, zero, suc, ◌+◌, ◌*◌, ◌/◌, ◌%◌, ◌^◌, ◌≤◌, ◌<◌}
use native.Mathlib.Nat.{mod-lt, div-eq_of_lt, lt_of_lt_of_le, lt_of_le_of_lt}
use native.Mathlib.Omega.{arith}
use lib.Arith.{bin_ind, digits_div, digits_mod}
use lib.Bits.{bit_xor, differ, xor_step, xor_zero_l, xor_zero_r, xor_self, xor_shr, xor_lt}
use lib.Dec.{lit<}
use lib.Pow.{pow_mono, shr-shr, shr_le}
use Rattle.laws.specs.Bits.{xor_shift, unshift}

-- ---- the digits
differ_lt : (x y : ℕ) → x < 2 → y < 2 → differ x y < 2
differ_lt zero y h k = k
differ_lt (suc x) zero h k = h
differ_lt (suc zero) (suc zero) h k = omega arith
differ_lt (suc (suc x)) (suc y) h k = absurd (omega arith)
differ_lt (suc zero) (suc (suc y)) h k = absurd (omega arith)

-- on digits alone: 2, 1 and 1 would differ by 0 and by 2
differ_assoc : (x y z : ℕ) → x < 2 → y < 2 → z < 2 → differ (differ x y) z ≡ differ x (differ y z)
differ_assoc zero y z h k l = refl
differ_assoc (suc x) zero z h k l = refl
differ_assoc (suc zero) (suc zero) zero h k l = refl
differ_assoc (suc zero) (suc zero) (suc zero) h k l = refl
differ_assoc (suc zero) (suc zero) (suc (suc z)) h k l = absurd (omega arith)
differ_assoc (suc zero) (suc (suc y)) z h k l = absurd (omega arith)
differ_assoc (suc (suc x)) (suc y) z h k l = absurd (omega arith)

digit : (n : ℕ) → n % 2 < 2
digit n = mod-lt n (lit< tt)

module _ (a b : ℕ) where
  xor_half : bit_xor a b / 2 ≡ bit_xor (a / 2) (b / 2)
  xor_half = ap (λ (x : ℕ). x / 2) (xor_step a b) ∙ digits_div (bit_xor (a / 2) (b / 2)) (differ_lt (a % 2) (b % 2) (digit a) (digit b))

  xor_odd : bit_xor a b % 2 ≡ differ (a % 2) (b % 2)
  xor_odd = ap (λ (x : ℕ). x % 2) (xor_step a b) ∙ digits_mod (bit_xor (a / 2) (b / 2)) (differ_lt (a % 2) (b % 2) (digit a) (digit b))

xor_assoc : (a b c : ℕ) → bit_xor (bit_xor a b) c ≡ bit_xor a (bit_xor b c)
xor_assoc = bin_ind (λ (n : ℕ). (b c : ℕ) → bit_xor (bit_xor n b) c ≡ bit_xor n (bit_xor b c)) (λ b c. refl) step
  where
    step : (n : ℕ) → ((b c : ℕ) → bit_xor (bit_xor (n / 2) b) c ≡ bit_xor (n / 2) (bit_xor b c)) → (b c : ℕ) → bit_xor (bit_xor n b) c ≡ bit_xor n (bit_xor b c)
    step n ih b c =
        xor_step (bit_xor n b) c
        ∙ ap₂ (λ (x y : ℕ). bit_xor x (c / 2) * 2 + differ y (c % 2)) (xor_half n b) (xor_odd n b)
        ∙ ap₂ (λ (x y : ℕ). x * 2 + y) (ih (b / 2) (c / 2)) (differ_assoc (n % 2) (b % 2) (c % 2) (digit n) (digit b) (digit c))
        ∙ sym (ap₂ (λ (x y : ℕ). bit_xor (n / 2) x * 2 + differ (n % 2) y) (xor_half b c) (xor_odd b c))
        ∙ sym (xor_step n (bit_xor b c))

-- ---- the algebra: an operation, and a shift that passes through it and leaves nothing after three
module _ (op : ℕ → ℕ → ℕ) (sh : ℕ → ℕ)
    (assoc : (a b c : ℕ) → op (op a b) c ≡ op a (op b c)) (self : (a : ℕ) → op a a ≡ 0)
    (none-l : (a : ℕ) → op 0 a ≡ a) (none-r : (a : ℕ) → op a 0 ≡ a)
    (over : (a b : ℕ) → sh (op a b) ≡ op (sh a) (sh b)) where
  cancel : (a b : ℕ) → op (op a b) b ≡ a
  cancel a b = rw (assoc, self, none-r)

  between : (a b c : ℕ) → op (op a b) (op b c) ≡ op a c
  between a b c = rw (assoc a b (op b c), ← assoc b b c, self b, none-l c)

  forth : (z : ℕ) → sh (sh (sh z)) ≡ 0 → op (op z (sh z)) (sh (op (op z (sh z)) (sh (op z (sh z))))) ≡ z
  forth z e = rw (over z (sh z), between z (sh z) (sh (sh z)), over z (sh (sh z)), e, none-r (sh z), cancel z (sh z))

  back : (y : ℕ) → sh (sh (sh y)) ≡ 0 → op (op y (sh (op y (sh y)))) (sh (op y (sh (op y (sh y))))) ≡ y
  back y e =
      rw (over y (sh y), over y (op (sh y) (sh (sh y))), over (sh y) (sh (sh y)), e, none-r (sh (sh y)), cancel y (op (sh y) (sh (sh y))))

-- ---- shifts by k of numbers below 2^64
module _ (k z : ℕ) (K : 64 ≤ k + k + k) (h : z < 2 ^ 64) where
  thrice : z / 2 ^ k / 2 ^ k / 2 ^ k ≡ 0
  thrice = ap (λ (x : ℕ). x / 2 ^ k) (shr-shr z k k) ∙ shr-shr z (k + k) k ∙ div-eq_of_lt (lt_of_lt_of_le h (pow_mono K))

  pub unshift_xor_shift : unshift (xor_shift z k) k ≡ z
  unfolding unshift
  unshift_xor_shift = forth bit_xor (λ (x : ℕ). x / 2 ^ k) xor_assoc xor_self xor_zero_l xor_zero_r (λ a b. xor_shr a b k) z thrice

  pub xor_shift_unshift : xor_shift (unshift z k) k ≡ z
  unfolding unshift
  xor_shift_unshift = back bit_xor (λ (x : ℕ). x / 2 ^ k) xor_assoc xor_self xor_zero_l xor_zero_r (λ a b. xor_shr a b k) z thrice

-- both ways stay below 2^64
module _ (k : ℕ) where
  pub xor_shift_lt : (z : ℕ) → z < 2 ^ 64 → xor_shift z k < 2 ^ 64
  xor_shift_lt z h = xor_lt 64 z (z / 2 ^ k) h (lt_of_le_of_lt (shr_le z k) h)

  pub unshift_lt : (y : ℕ) → y < 2 ^ 64 → unshift y k < 2 ^ 64
  unfolding unshift
  unshift_lt y h = xor_lt 64 y (xor_shift y k / 2 ^ k) h (lt_of_le_of_lt (shr_le (xor_shift y k) k) (xor_shift_lt y h))
