-- The whole part of a float by the addition of 2^23. From 2^23 to 2^24 the f32s are the whole numbers, so the sum is rounded to
-- one of the two beside it, and a comparison with x tells which. Assumes nothing.
use mathlib.Core.Path.{◌≡◌, refl, sym, ap, ◌∙◌, subst}
use mathlib.Core.Logic.{◌⊎◌, inl, inr}
use mathlib.Core.Bool.{Bool, true, false, ◌&&◌, cond}
use Prim.Native.Nat.{ℕ, zero, suc, ◌+◌, ◌-◌, ◌*◌, ◌/◌, ◌%◌, ◌^◌, ◌≤◌, ◌<◌}
use native.Mathlib.Nat.{le_trans, le_of_eq, eq-or-lt_of_le, min-eq_left, mul-one, mul_comm, mul_assoc, mul_right_comm, mul-le-mul_right, mul-lt-mul_of_pos_right, mul-pos, add-mul, pow-suc, div-mul-le_self, div-lt_iff_lt-mul}
use native.Mathlib.Omega.{arith}
use borrow.Author.Tests.{lt-ltb, le-ltb}
use lib.IntN.{ℤ, pos, negsuc}
use lib.Dec.{T, ltb, leb, eqb, ltb→lt, eqb→eq, lit<, lit≤}
use lib.Pow.{pow_pos}
use lib.Ieee.{Float, nan, inf, fin, binary32, low, up, down, round, sum, add, sub, le, lt, of_int, of_bits, to_unsigned, in_unsigned, fits}
use lib.Ieee.Back.{whole_unique, unsigned_back}
use lib.Ieee.Exact.{HasValue}
use lib.Ieee.Fits.{add-fits, of_int-fits, down_pos, and_l, and_r}
use lib.Ieee.Order.{le_of_values, round_mono}
use lib.Ieee.Positive.{num, den, den_pos, positive, value→cross, own_value, positive_of_value, values_of_le, between}
use lib.Ieee.Scale.{round_same}
use Rattle.laws.specs.Floats.{f32_of, nonneg}
use Rattle.laws.proofs.Exact.{exact, whole_value, nonneg_of_value}
use Rattle.laws.proofs.Bounds.{add_is, sub_is, sub_mul, cut_under}

-- 2^23
abbrev two_23 : Float
two_23 = of_bits binary32 0x4b00_0000

-- x to a whole number beside it
abbrev near_of : Float → Float
near_of x = sub binary32 (add binary32 x two_23) two_23

-- the one that is not above x
abbrev whole_by : Float → Float
whole_by x = cond (lt x (near_of x)) (sub binary32 (near_of x) (of_bits binary32 0x3f80_0000)) (near_of x)

-- ---- a difference of whole numbers is exact
apart : (a b n d m e : ℕ) → n ≡ a * d → m ≡ b * e → (n * e - m * d) * 1 ≡ (a - b) * (d * e)
apart a b n d m e p q = mul-one (n * e - m * d) ∙ rw (p, q, sub_mul a b (d * e)) (simp (mul_assoc, mul_comm))

num_of : (x : Float) (a : ℕ) → HasValue x false a 1 → num x ≡ a * den x
num_of x a h = sym (mul-one (num x)) ∙ value→cross x a 1 h

sub_whole : (a b : ℕ) → b ≤ a → a ≤ 2 ^ 24 → sub binary32 (f32_of a) (f32_of b) ≡ f32_of (a - b)
unfolding of_int
sub_whole a b h k =
    let x = f32_of a in
    let y = f32_of b in
    let u = whole_value a k in
    let v = whole_value b (le_trans h k) in
    sub_is binary32 x y (nonneg_of_value x a 1 u) (nonneg_of_value y b 1 v) (le_of_values y x b 1 a 1 (lit< tt) (lit< tt) v u (mul-le-mul_right 1 h))
    ∙ round_same binary32 false (num x * den y - num y * den x) (den x * den y) (a - b) 1 (mul-pos (den_pos x) (den_pos y)) (lit< tt)
    (apart a b (num x) (den x) (num y) (den y) (num_of x a u) (num_of y b v))

-- ---- an f32 from 2^23 on is a whole number
digits : (s : Bool) (m : ℕ) (e : ℤ) → T (fits binary32 (fin s (suc m) e)) → suc m < 2 ^ 24
unfolding fits
digits s m e t =
    ltb→lt (suc m) (2 ^ 24) (and_r (eqb (suc m % 2) 1) (ltb (suc m) (2 ^ 24)) (and_l (eqb (suc m % 2) 1 && ltb (suc m) (2 ^ 24)) (leb (down e) (2 ^ low binary32))
    (and_l (eqb (suc m % 2) 1 && ltb (suc m) (2 ^ 24) && leb (down e) (2 ^ low binary32)) (ltb (suc m * up e) (2 ^ 128 * down e)) t)))

crowded : (m p : ℕ) → m < 2 ^ 24 → 0 < p → 2 ^ 23 * (p * 2) ≤ m * 1 → ⊥
crowded m p h k l = omega arith

no_fraction : (s : Float) → T (fits binary32 s) → T (positive s) → 2 ^ 23 * den s ≤ num s → den s ≡ 1
no_fraction nan f p h = absurd p
no_fraction (inf s) f p h = absurd p
no_fraction (fin true m e) f p h = absurd p
no_fraction (fin false zero e) f p h = absurd p
no_fraction (fin false (suc m) (pos k)) f p h = refl
no_fraction (fin false (suc m) (negsuc k)) f p h = absurd (crowded (suc m) (2 ^ k) (digits false m (negsuc k) f) (pow_pos k) (rw (pow-suc 2 k) at h))

-- so between two neighbours it is one of them
module _ (s : Float) (n : ℕ) (f : T (fits binary32 s)) (least : 2 ^ 23 ≤ n) (most : n + 1 ≤ 2 ^ 24) (h : T (le (f32_of n) s)) (k : T (le s (f32_of (n + 1)))) where
  lower : HasValue (f32_of n) false n 1
  lower = whole_value n (omega arith)

  upper : HasValue (f32_of (n + 1)) false (n + 1) 1
  upper = whole_value (n + 1) most

  above_zero : T (positive s)
  above_zero = between (f32_of n) s (f32_of (n + 1)) (positive_of_value (f32_of n) n 1 lower (omega arith)) (positive_of_value (f32_of (n + 1)) (n + 1) 1 upper (omega arith)) h k

  from : n * den s ≤ num s
  from = le_trans (values_of_le (f32_of n) s n 1 (num s) (den s) (positive_of_value (f32_of n) n 1 lower (omega arith)) above_zero lower (own_value s above_zero) h) (le_of_eq (mul-one (num s)))

  to : num s ≤ (n + 1) * den s
  to = le_trans (le_of_eq (sym (mul-one (num s)))) (values_of_le s (f32_of (n + 1)) (num s) (den s) (n + 1) 1 above_zero (positive_of_value (f32_of (n + 1)) (n + 1) 1 upper (omega arith)) (own_value s above_zero) upper k)

  one : den s ≡ 1
  one = no_fraction s f above_zero (le_trans (mul-le-mul_right (den s) least) from)

  is : (m : ℕ) → m ≤ 2 ^ 24 → num s ≡ m → s ≡ f32_of m
  is m l e =
      whole_unique binary32 s (f32_of m) false m f (of_int-fits binary32 (pos m))
      (subst (λ (d : ℕ). HasValue s false m d) one (subst (λ (a : ℕ). HasValue s false a (den s)) e (own_value s above_zero))) (whole_value m l)

  neighbour : (s ≡ f32_of n) ⊎ (s ≡ f32_of (n + 1))
  neighbour =
      let a : n ≤ num s = le_trans (le_of_eq (sym (mul-one n) ∙ ap (λ (d : ℕ). n * d) (sym one))) from in
      let b : num s ≤ n + 1 = le_trans to (le_of_eq (ap (λ (d : ℕ). (n + 1) * d) one ∙ mul-one (n + 1))) in
      elim (eq-or-lt_of_le a) [ inl e ↦ inl (is n (omega arith) (sym e)) | inr l ↦ inr (is (n + 1) most (omega arith)) ]

-- ---- the sum, between the neighbours of x + 2^23
floor_low : (q n d : ℕ) → q * d ≤ n → (q + 2 ^ 23) * (d * 1) ≤ (n * 1 + 2 ^ 23 * d) * 1
floor_low q n d h = omega (arith, add-mul q (2 ^ 23) d)

floor_high : (q n d : ℕ) → n < (q + 1) * d → (n * 1 + 2 ^ 23 * d) * 1 ≤ (q + 2 ^ 23 + 1) * (d * 1)
floor_high q n d h = omega (arith, add-mul q (2 ^ 23 + 1) d, add-mul q 1 d)

past : (n d : ℕ) → 0 < d → n < (n / d + 1) * d
past n d D = (div-lt_iff_lt-mul D).0 (omega arith)

module _ (x : Float) (p : T (nonneg x)) where
  sum_is : add binary32 x two_23 ≡ round binary32 false (num x * 1 + 2 ^ 23 * den x) (den x * 1)
  unfolding of_bits
  sum_is = add_is binary32 x two_23 p tt

  sum_low : T (le (f32_of (num x / den x + 2 ^ 23)) (add binary32 x two_23))
  unfolding of_int
  sum_low = rw sum_is (round_mono binary32 (num x / den x + 2 ^ 23) 1 (num x * 1 + 2 ^ 23 * den x) (den x * 1) (lit< tt) (mul-pos (den_pos x) (lit< tt)) (floor_low (num x / den x) (num x) (den x) (div-mul-le_self (num x) (den x))))

  sum_high : T (le (add binary32 x two_23) (f32_of (num x / den x + 2 ^ 23 + 1)))
  unfolding of_int
  sum_high = rw sum_is (round_mono binary32 (num x * 1 + 2 ^ 23 * den x) (den x * 1) (num x / den x + 2 ^ 23 + 1) 1 (mul-pos (den_pos x) (lit< tt)) (lit< tt) (floor_high (num x / den x) (num x) (den x) (past (num x) (den x) (den_pos x))))

-- ---- which of the two is above x
lt_is : (x y : Float) → T (nonneg x) → T (nonneg y) → lt x y ≡ ltb (num x * den y) (num y * den x)
unfolding lt
lt_is nan y p q = absurd p
lt_is (inf s) y p q = absurd p
lt_is (fin true m e) y p q = absurd p
lt_is (fin false m e) nan p q = absurd q
lt_is (fin false m e) (inf t) p q = absurd q
lt_is (fin false m e) (fin true n d) p q = absurd q
lt_is (fin false m e) (fin false n d) p q = refl

lt_whole : (x : Float) (n : ℕ) → T (nonneg x) → n ≤ 2 ^ 24 → lt x (f32_of n) ≡ ltb (num x * den (f32_of n)) (n * den x * den (f32_of n))
lt_whole x n p h =
    let v = whole_value n h in
    lt_is x (f32_of n) p (nonneg_of_value (f32_of n) n 1 v)
    ∙ ap (ltb (num x * den (f32_of n))) (ap (λ (a : ℕ). a * den x) (num_of (f32_of n) n v) ∙ mul_right_comm n (den (f32_of n)) (den x))

module _ (x : Float) (n : ℕ) (p : T (nonneg x)) (h : n ≤ 2 ^ 24) where
  not_above : n * den x ≤ num x → lt x (f32_of n) ≡ false
  not_above l = lt_whole x n p h ∙ le-ltb (num x * den (f32_of n)) (n * den x * den (f32_of n)) (mul-le-mul_right (den (f32_of n)) l)

  above : num x < n * den x → lt x (f32_of n) ≡ true
  above l = lt_whole x n p h ∙ lt-ltb (num x * den (f32_of n)) (n * den x * den (f32_of n)) (mul-lt-mul_of_pos_right l (den_pos (f32_of n)))

-- ---- the whole part, of a value with a clear sign
near_is : (x : Float) (n : ℕ) → n + 2 ^ 23 ≤ 2 ^ 24 → add binary32 x two_23 ≡ f32_of (n + 2 ^ 23) → near_of x ≡ f32_of n
near_is x n h e =
    let c : two_23 ≡ f32_of (2 ^ 23) = unfold of_bits of_int in refl in
    let d : n + 2 ^ 23 - 2 ^ 23 ≡ n = omega arith in
    ap (λ (s : Float). sub binary32 s two_23) e ∙ ap (sub binary32 (f32_of (n + 2 ^ 23))) c ∙ sub_whole (n + 2 ^ 23) (2 ^ 23) (omega arith) h ∙ ap f32_of d

less_one : (n : ℕ) → n + 1 ≤ 2 ^ 24 → sub binary32 (f32_of (n + 1)) (of_bits binary32 0x3f80_0000) ≡ f32_of n
less_one n h =
    let c : of_bits binary32 0x3f80_0000 ≡ f32_of 1 = unfold of_bits of_int in refl in
    let d : n + 1 - 1 ≡ n = omega arith in
    ap (sub binary32 (f32_of (n + 1))) c ∙ sub_whole (n + 1) 1 (omega arith) h ∙ ap f32_of d

-- the result, by what is near
chosen : (x y z : Float) (b : Bool) → near_of x ≡ y → lt x y ≡ b → cond b (sub binary32 y (of_bits binary32 0x3f80_0000)) y ≡ z → whole_by x ≡ z
chosen x y z b e l r = rw (e, l) r

module _ (x : Float) (p : T (nonneg x)) (small : num x / den x < 2 ^ 23) where
  whole_clear : whole_by x ≡ f32_of (num x / den x)
  whole_clear =
      let n = num x / den x in
      elim (neighbour (add binary32 x two_23) (n + 2 ^ 23) (add-fits binary32 x two_23) (omega arith) (omega arith) (sum_low x p) (sum_high x p)) [
        | inl e ↦ chosen x (f32_of n) (f32_of n) false (near_is x n (omega arith) e) (not_above x n p (omega arith) (div-mul-le_self (num x) (den x))) refl
        | inr e ↦
            let f : n + 2 ^ 23 + 1 ≡ n + 1 + 2 ^ 23 = omega arith in
            chosen x (f32_of (n + 1)) (f32_of n) true (near_is x (n + 1) (omega arith) (e ∙ ap f32_of f)) (above x (n + 1) p (omega arith) (past (num x) (den x) (den_pos x))) (less_one n (omega arith))
      ]

-- ---- -0 has the whole part 0
minus_sum : (a b c : ℕ) → a ≡ 0 → 0 < b → sum binary32 true a false b c ≡ round binary32 false b c
unfolding sum
minus_sum a b c z B =
    let e : b - a ≡ b = omega arith in
    ap (λ (t : Bool). cond t (round binary32 false (b - a) c) (round binary32 (ltb b a) (a - b) c)) (lt-ltb a b (omega arith))
    ∙ ap (λ (n : ℕ). round binary32 false n c) e

module _ (m : ℕ) (e : ℤ) where
  none : T (le (of_bits binary32 0) (fin true m e)) → m * up e ≡ 0
  unfolding le of_bits
  none h = omega (arith, eqb→eq (0 * 1 * down e) (m * up e * 1) (and_l (eqb (0 * 1 * down e) (m * up e * 1)) (eqb (0 * 1 * down e) 0) h))

  minus_add : m * up e ≡ 0 → add binary32 (fin true m e) two_23 ≡ f32_of (0 + 2 ^ 23)
  unfolding add of_bits of_int
  minus_add z =
      minus_sum (m * up e * 1) (2 ^ 23 * down e) (down e * 1) (omega arith) (omega (arith, down_pos e))
      ∙ round_same binary32 false (2 ^ 23 * down e) (down e * 1) (2 ^ 23) 1 (omega (arith, down_pos e)) (lit< tt) (omega arith)

  minus_lt : m * up e ≡ 0 → lt (fin true m e) (f32_of 0) ≡ false
  unfolding lt of_int
  minus_lt z = le-ltb 0 (m * up e * 1 + 0 * 1 * down e) (omega arith)

  whole_minus : m * up e ≡ 0 → whole_by (fin true m e) ≡ f32_of 0
  whole_minus z = chosen (fin true m e) (f32_of 0) (f32_of 0) false (near_is (fin true m e) 0 (lit≤ tt) (minus_add z)) (minus_lt z) refl

  -- what is left without the fraction
  small_of : T (lt (fin false m e) two_23) → m * up e / down e < 2 ^ 23
  unfolding lt of_bits
  small_of h = (div-lt_iff_lt-mul (down_pos e)).1 (omega (arith, ltb→lt (m * up e * 1) (2 ^ 23 * down e) h))

  cut_is : m * up e / down e < 2 ^ 23 → to_unsigned 64 (fin false m e) ≡ m * up e / down e
  unfolding to_unsigned
  cut_is h = min-eq_left (omega arith)

-- ---- the law
whole_of : (x : Float) → T (le (of_bits binary32 0) x) → T (lt x two_23) → whole_by x ≡ f32_of (to_unsigned 64 x)
whole_of nan h k = absurd (unfold lt in k)
whole_of (inf true) h k = absurd (unfold le of_bits in h)
whole_of (inf false) h k = absurd (unfold lt of_bits in k)
whole_of (fin true m e) h k = unfold to_unsigned in whole_minus m e (none m e h)
whole_of (fin false m e) h k = whole_clear (fin false m e) tt (small_of m e k) ∙ ap f32_of (sym (cut_is m e (small_of m e k)))

-- as code has it: b says whether what is near is above x
pub whole_is : (x : Float) (b : Bool) → le (of_bits binary32 0) x ≡ true → lt x two_23 ≡ true → lt x (near_of x) ≡ b → cond b (sub binary32 (near_of x) (of_bits binary32 0x3f80_0000)) (near_of x) ≡ f32_of (to_unsigned 64 x)
whole_is x b h k e =
    ap (λ (t : Bool). cond t (sub binary32 (near_of x) (of_bits binary32 0x3f80_0000)) (near_of x)) (sym e)
    ∙ whole_of x (subst T (sym h) tt) (subst T (sym k) tt)

-- and its cast loses nothing
pub whole_cast : (x w : Float) → lt x two_23 ≡ true → w ≡ f32_of (to_unsigned 64 x) → T (in_unsigned binary32 32 w) × (to_unsigned 32 w ≡ to_unsigned 64 x)
whole_cast x w k e =
    let n = to_unsigned 64 x in
    let h : n ≤ 2 ^ 23 = unfold of_bits to_unsigned in cut_under 64 x two_23 tt (subst T (sym k) tt) in
    rw e (unsigned_back binary32 32 n (exact n (omega arith)) (omega arith))
