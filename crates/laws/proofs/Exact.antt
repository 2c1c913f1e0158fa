-- Where a conversion or a division is exact, and the order of exact values. Assumes nothing.
use mathlib.Core.Path.{◌≡◌, sym, ap, ap₂, ◌∙◌, subst}
use Prim.Native.Nat.{ℕ, zero, suc, ◌+◌, ◌-◌, ◌*◌, ◌^◌, ◌≤◌, ◌<◌}
use native.Mathlib.Nat.{lt_of_not-le, not-le_of_lt, le_of_eq, le_of_lt, lt_of_lt_of_le, zero-lt-suc, zero-mul, mul-one, mul_comm, mul_assoc, mul_left_comm, mul-mul-mul_comm, mul-pos}
use native.Mathlib.Omega.{arith}
use mathlib.Core.Bool.{Bool, true, false, cond, true≢false}
use lib.IntN.{pos}
use lib.Dec.{T, eqb, eqb-suc-zero, le→leb, lt→ltb}
use lib.Pow.{pow-add, pow_pos, pow_mono, shl_lt}
use lib.Ieee.{Float, nan, inf, fin, Format, binary32, up, down, round, div, of_int, in_float, lt}
use lib.Ieee.Back.{round_whole}
use lib.Ieee.Exact.{HasValue, round_exact}
use lib.Ieee.Order.{transfer}
use lib.Ieee.Positive.{num, den, den_pos, value→cross, first_pos}
use lib.Ieee.Scale.{round_same}
use Rattle.laws.specs.Floats.{f32_of, nonneg}

-- a whole number up to 2 ^ 24 is an f32, as `as f32` asks
pub exact : (n : ℕ) → n ≤ 2 ^ 24 → T (in_float binary32 (pos n))
unfolding in_float
exact n h = le→leb n (2 ^ 24) h

pub whole_value : (n : ℕ) → n ≤ 2 ^ 24 → HasValue (f32_of n) false n 1
unfolding of_int
whole_value n h = round_whole binary32 false n h

pub nonneg_of_value : (x : Float) (a c : ℕ) → HasValue x false a c → T (nonneg x)
nonneg_of_value nan a c h = absurd h
nonneg_of_value (inf s) a c h = absurd h
nonneg_of_value (fin true m e) a c h = absurd (true≢false h.0)
nonneg_of_value (fin false m e) a c h = tt

none_below : (u : ℕ) → 0 < 0 * u → ⊥
none_below u h = not-le_of_lt h (le_of_eq (zero-mul u))

-- a quotient is one rounding of a fraction
pub div_is : (f : Format) (x y : Float) → T (nonneg x) → T (nonneg y) → 0 < num y → div f x y ≡ round f false (num x * den y) (num y * den x)
div_is f nan y p q h = absurd p
div_is f (inf s) y p q h = absurd p
div_is f (fin true m e) y p q h = absurd p
div_is f (fin false m e) nan p q h = absurd q
div_is f (fin false m e) (inf t) p q h = absurd q
div_is f (fin false m e) (fin true n d) p q h = absurd q
div_is f (fin false m e) (fin false zero d) p q h = absurd (none_below (up d) h)
div_is f (fin false m e) (fin false (suc n) d) p q h =
    unfold div in ap (λ (b : Bool). cond b (cond (eqb m 0) nan (inf false)) (round f false (m * up e * down d) (suc n * up d * down e))) (eqb-suc-zero n)

module _ (x y : Float) (a c b d : ℕ) (C : 0 < c) (D : 0 < d) (h : HasValue x false a c) (k : HasValue y false b d) where
  -- the same, by any fractions that the operands equal
  pub div_at : (f : Format) → 0 < b → div f x y ≡ round f false (a * d) (b * c)
  div_at f B =
      let hx : num x * c ≡ a * den x = value→cross x a c h in
      let hy : num y * d ≡ b * den y = value→cross y b d k in
      let ny : 0 < num y = first_pos (num y) d (subst (λ (z : ℕ). 0 < z) (sym hy) (mul-pos B (den_pos y))) in
      div_is f x y (nonneg_of_value x a c h) (nonneg_of_value y b d k) ny
      ∙ round_same f false (num x * den y) (num y * den x) (a * d) (b * c) (mul-pos ny (den_pos x)) (mul-pos B C)
      (ap (λ (z : ℕ). num x * den y * z) (mul_comm b c) ∙ mul-mul-mul_comm (num x) (den y) c b ∙ ap (λ (z : ℕ). z * (den y * b)) hx
      ∙ ap (λ (z : ℕ). a * den x * z) (mul_comm (den y) b ∙ sym hy) ∙ simp (mul_assoc, mul_comm, mul_left_comm))

-- a whole number of at most 24 binary digits over a power of two is exact: the one rounding of the quotient drops none
pub over_power : (k p : ℕ) (y : Float) → k < 2 ^ 24 → p ≤ 149 → HasValue y false (2 ^ p) 1 → HasValue (div binary32 (f32_of k) y) false k (2 ^ p)
over_power k p y h l v =
    let e : div binary32 (f32_of k) y ≡ round binary32 false k (2 ^ p) =
    div_at (f32_of k) y k 1 (2 ^ p) 1 (zero-lt-suc 0) (zero-lt-suc 0) (whole_value k (le_of_lt h)) v binary32 (pow_pos p)
    ∙ ap₂ (λ (a b : ℕ). round binary32 false a b) (mul-one k) (mul-one (2 ^ p)) in
    let q : 149 ≡ 149 - p + p = omega arith in
    let r : 24 + (149 - p) ≤ 277 = omega arith in
    subst (λ (x : Float). HasValue x false k (2 ^ p)) (sym e)
    (round_exact binary32 false k (2 ^ p) k (149 - p) (pow_pos p) h (lt_of_lt_of_le (shl_lt 24 (149 - p) h) (pow_mono r))
    (ap (λ (d : ℕ). k * 2 ^ d) q ∙ ap (λ (d : ℕ). k * d) (pow-add 2 (149 - p) p) ∙ sym (mul_assoc k (2 ^ (149 - p)) (2 ^ p))))

-- the strict order of two values is that of their fractions
cross→lt : (x y : Float) → T (nonneg x) → T (nonneg y) → num x * den y < num y * den x → T (lt x y)
unfolding lt
cross→lt nan y p q h = absurd p
cross→lt (inf s) y p q h = absurd p
cross→lt (fin true m e) y p q h = absurd p
cross→lt (fin false m e) nan p q h = absurd q
cross→lt (fin false m e) (inf t) p q h = absurd q
cross→lt (fin false m e) (fin true n d) p q h = absurd q
cross→lt (fin false m e) (fin false n d) p q h = lt→ltb (m * up e * down d) (n * up d * down e) h

pub lt_of_values : (x y : Float) (a c b d : ℕ) → HasValue x false a c → HasValue y false b d → a * d < b * c → T (lt x y)
lt_of_values x y a c b d h k l =
    cross→lt x y (nonneg_of_value x a c h) (nonneg_of_value y b d k)
    (lt_of_not-le (λ (g : num y * den x ≤ num x * den y).
    not-le_of_lt l (transfer b a d c (num y) (num x) (den y) (den x) (den_pos y) (den_pos x) (sym (value→cross y b d k)) (sym (value→cross x a c h)) g)))
