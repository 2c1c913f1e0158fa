-- Rounding to a whole number keeps between whole numbers. Assumes nothing.
use mathlib.Core.Path.{◌≡◌, refl, sym, ap, subst}
use mathlib.Core.Bool.{Bool, true, false, not, cond}
use mathlib.Core.Logic.{inl, inr}
use Prim.Native.Nat.{ℕ, ◌+◌, ◌-◌, ◌*◌, ◌/◌, ◌^◌, ◌≤◌}
use native.Mathlib.Nat.{le_of_eq, le_trans, eq-or-lt_of_le, mul-one, mul-le-mul_right, div-mul-le_self, min-le_left}
use native.Mathlib.Omega.{arith}
use lib.Dec.{T, T_not, le→leb, lit<}
use lib.Ieee.{Float, nan, inf, fin, binary32, sub, of_bits, to_unsigned, le, up, down, in_float}
use lib.Ieee.Fits.{down_pos}
use lib.Ieee.Back.{unsigned_back}
use lib.Ieee.Order.{le_of_values}
use Rattle.laws.specs.Floats.{f32_of, nonneg, In, round_of}
use Rattle.laws.proofs.Exact.{whole_value}
use Rattle.laws.proofs.Bounds.{here, le_trans_nn, sub_in, cut_most, cut_least}

-- what is cut off is not negative
cut_below : (x : Float) → T (nonneg x) → to_unsigned 64 x ≤ 2 ^ 24 → T (le (f32_of (to_unsigned 64 x)) x)
cut_below nan p h = absurd p
cut_below (inf s) p h = absurd p
cut_below (fin true m e) p h = absurd p
cut_below (fin false m e) p h =
    le_of_values (f32_of (to_unsigned 64 (fin false m e))) (fin false m e) (to_unsigned 64 (fin false m e)) 1 (m * up e) (down e) (lit< tt) (down_pos e) (whole_value (to_unsigned 64 (fin false m e)) h) (refl, refl)
    (unfold to_unsigned in le_trans (mul-le-mul_right (down e) (min-le_left (m * up e / down e) (2 ^ 64 - 1))) (le_trans (div-mul-le_self (m * up e) (down e)) (le_of_eq (sym (mul-one (m * up e))))))

-- a whole number as a float and back
pub whole_back : (n : ℕ) → n ≤ 2 ^ 24 → to_unsigned 64 (f32_of n) ≡ n
unfolding in_float
whole_back n h = (unsigned_back binary32 64 n (le→leb n (2 ^ 24) h) (omega arith)).1

-- x from a to b, whole numbers: so is what it rounds to
module _ (x : Float) (a b : ℕ) (B : b ≤ 2 ^ 24) (A : a ≤ 2 ^ 24) (i : In (f32_of a) (f32_of b) x) where
  cut_ge : a ≤ to_unsigned 64 x
  cut_ge = subst (λ (n : ℕ). n ≤ to_unsigned 64 x) (whole_back a A) (cut_least 64 i)

  pub cut_le : to_unsigned 64 x ≤ b
  cut_le = subst (λ (n : ℕ). to_unsigned 64 x ≤ n) (whole_back b B) (cut_most 64 i)

  -- at the top there is nothing to round up
  top : T (not (le (of_bits binary32 0x3f00_0000) (sub binary32 (f32_of b) (f32_of b)))) → T (nonneg (sub binary32 (f32_of b) (f32_of b))) → to_unsigned 64 x ≡ b → T (le (of_bits binary32 0x3f00_0000) (sub binary32 x (f32_of (to_unsigned 64 x)))) → ⊥
  top n z e t =
      let h : T (le (f32_of b) x) = subst (λ (k : ℕ). T (le (f32_of k) x)) e (cut_below x i.ok (le_trans cut_le B)) in
      let j : In (f32_of b) (f32_of b) x = record { lo_ok = i.hi_ok; hi_ok = i.hi_ok; ok = i.ok; least = h; most = i.most } in
      let d = sub_in binary32 j (here (f32_of b) i.hi_ok) (here (f32_of b) i.hi_ok).least z in
      T_not (le (of_bits binary32 0x3f00_0000) (sub binary32 (f32_of b) (f32_of b))) n
      (le_trans_nn (of_bits binary32 0x3f00_0000) (sub binary32 x (f32_of b)) (sub binary32 (f32_of b) (f32_of b)) (unfold of_bits in tt) d.ok d.hi_ok
      (subst (λ (k : ℕ). T (le (of_bits binary32 0x3f00_0000) (sub binary32 x (f32_of k)))) e t) d.most)

  pub round_within : T (not (le (of_bits binary32 0x3f00_0000) (sub binary32 (f32_of b) (f32_of b)))) → T (nonneg (sub binary32 (f32_of b) (f32_of b))) → (a ≤ round_of x) × (round_of x ≤ b)
  unfolding round_of
  round_within n z = go (le (of_bits binary32 0x3f00_0000) (sub binary32 x (f32_of (to_unsigned 64 x)))) (top n z)
    where
      go : (t : Bool) → (to_unsigned 64 x ≡ b → T t → ⊥) → (a ≤ cond t (to_unsigned 64 x + 1) (to_unsigned 64 x)) × (cond t (to_unsigned 64 x + 1) (to_unsigned 64 x) ≤ b)
      go false h = (cut_ge, cut_le)
      go true h = elim (eq-or-lt_of_le cut_le) [ inl e ↦ absurd (h e tt) | inr l ↦ (omega (arith, cut_ge), omega arith) ]

-- as code has it: t is the truncated x
pub round_is : (x : Float) (t : ℕ) (b : Bool) → t ≡ to_unsigned 64 x → le (of_bits binary32 0x3f00_0000) (sub binary32 x (f32_of t)) ≡ b → round_of x ≡ cond b (t + 1) t
unfolding round_of
round_is x t b e h =
    subst (λ (n : ℕ). cond (le (of_bits binary32 0x3f00_0000) (sub binary32 x (f32_of n))) (n + 1) n ≡ cond b (t + 1) t) e
    (ap (λ (v : Bool). cond v (t + 1) t) h)
