-- Bounds on float expressions. Each operation goes one way in each operand, so the bounds of a result are the
-- operation at the operands' bounds, which computes. Assumes nothing.
use mathlib.Core.Path.{◌≡◌, refl, sym, ap, ◌∙◌, subst}
use mathlib.Core.Logic.{◌⊎◌, inl, inr}
use Prim.Native.Nat.{ℕ, zero, suc, ◌+◌, ◌-◌, ◌*◌, ◌/◌, ◌^◌, ◌≤◌, ◌<◌, min}
use native.Mathlib.Nat.{le_trans, le_refl, le_of_eq, le_of_lt, lt_of_lt_of_le, not-le_of_lt, mul_comm, mul_assoc, mul_left_comm, mul-le-mul_right, mul-le-mul, mul-pos, add-mul, mul-sub, mul-mul-mul_comm, add-le-add}
use native.Mathlib.Omega.{arith}
use mathlib.Core.Bool.{Bool, true, false, not, ◌&&◌, ◌||◌, cond}
use lib.IntN.{ℤ}
use borrow.Author.Tests.{ltb-false, le-ltb}
use lib.Dec.{T, ltb, eqb, eqb→eq, ltb→lt, lit<}
use lib.Ieee.{Float, nan, inf, fin, Format, prec, emax, low, up, down, odd, units, round, sum, add, sub, mul, div, le, lt, is_nan, to_unsigned}
use lib.Ieee.Fits.{down_pos, and_l, round_is}
use lib.Ieee.Exact.{HasValue}
use lib.Ieee.Nearest.{div_mono}
use lib.Ieee.Order.{le_of_values, round_mono}
use lib.Ieee.Scale.{finite}
use lib.Ieee.Positive.{num, den, den_pos, through, first_pos}
use Rattle.laws.specs.Floats.{f32_of, nonneg, In}
use Rattle.laws.proofs.Exact.{whole_value, nonneg_of_value, div_is}

-- finite or infinite, with a clear sign
abbrev pub plain : Float → Bool
plain nan = false
plain (inf s) = not s
plain (fin s m e) = not s

nn_value : (x : Float) → T (nonneg x) → HasValue x false (num x) (den x)
nn_value nan p = absurd p
nn_value (inf s) p = absurd p
nn_value (fin true m e) p = absurd p
nn_value (fin false m e) p = (refl, refl)

pub nonneg_finite : (x : Float) → T (nonneg x) → T (finite x)
nonneg_finite nan p = absurd p
nonneg_finite (inf s) p = absurd p
nonneg_finite (fin s m e) p = tt

-- what asking for the bits needs
pub no_nan : (x : Float) → T (finite x) → T (not (is_nan x))
unfolding is_nan
no_nan nan p = absurd p
no_nan (inf s) p = absurd p
no_nan (fin s m e) p = tt

or_split : (a b : Bool) → T (a || b) → T a ⊎ T b
or_split true b t = inl tt
or_split false b t = inr t

lt_or_eq : (a b : ℕ) → T (ltb a b || (eqb a b && true)) → a ≤ b
lt_or_eq a b t = elim (or_split (ltb a b) (eqb a b && true) t) [ inl u ↦ le_of_lt (ltb→lt a b u) | inr u ↦ le_of_eq (eqb→eq a b (and_l (eqb a b) true u)) ]

-- ---- the order, as one of fractions
le→cross : (x y : Float) → T (nonneg x) → T (nonneg y) → T (le x y) → num x * den y ≤ num y * den x
unfolding le
le→cross nan y p q h = absurd p
le→cross (inf s) y p q h = absurd p
le→cross (fin true m e) y p q h = absurd p
le→cross (fin false m e) nan p q h = absurd q
le→cross (fin false m e) (inf t) p q h = absurd q
le→cross (fin false m e) (fin true n d) p q h = absurd q
le→cross (fin false m e) (fin false n d) p q h = lt_or_eq (m * up e * down d) (n * up d * down e) h

pub cross→le : (x y : Float) → T (nonneg x) → T (nonneg y) → num x * den y ≤ num y * den x → T (le x y)
cross→le x y p q h = le_of_values x y (num x) (den x) (num y) (den y) (den_pos x) (den_pos y) (nn_value x p) (nn_value y q) h

pub le_refl_nn : (x : Float) → T (nonneg x) → T (le x x)
le_refl_nn x p = cross→le x x p p (le_refl (num x * den x))

pub le_trans_nn : (x y z : Float) → T (nonneg x) → T (nonneg y) → T (nonneg z) → T (le x y) → T (le y z) → T (le x z)
le_trans_nn x y z p q r h k = cross→le x z p r (through (num x) (num y) (num z) (den x) (den y) (den z) (den_pos y) (le→cross x y p q h) (le→cross y z q r k))

-- ---- what `round` makes with the sign clear is plain; below a finite value it is finite
odd_plain : (d q k l : ℕ) → T (plain (odd d false q k l))
unfolding odd
odd_plain d zero k l = tt
odd_plain d (suc q) k l = tt

units_plain : (f : Format) (q k : ℕ) → T (plain (units f false q k))
unfolding units
units_plain f q k = go (ltb (q * 2 ^ k) (2 ^ (low f + suc (emax f))))
  where
    go : (b : Bool) → T (plain (cond b (odd (suc (prec f)) false q k (low f)) (inf false)))
    go true = odd_plain (suc (prec f)) q k (low f)
    go false = tt

pub round_plain : (f : Format) (a c : ℕ) → T (plain (round f false a c))
round_plain f a c = subst (λ (z : Float). T (plain z)) (sym (round_is f false a c)) (units_plain f _ _)

pub under : (z hi : Float) → T (plain z) → T (nonneg hi) → T (le z hi) → T (nonneg z)
unfolding le
under nan hi a p h = absurd a
under (inf true) hi a p h = absurd a
under (inf false) nan a p h = absurd p
under (inf false) (inf t) a p h = absurd p
under (inf false) (fin t n d) a p h = absurd h
under (fin s m e) hi a p h = a

-- ---- each operation, as one rounding of a fraction
pub add_is : (f : Format) (x y : Float) → T (nonneg x) → T (nonneg y) → add f x y ≡ round f false (num x * den y + num y * den x) (den x * den y)
add_is f nan y p q = absurd p
add_is f (inf s) y p q = absurd p
add_is f (fin true m e) y p q = absurd p
add_is f (fin false m e) nan p q = absurd q
add_is f (fin false m e) (inf t) p q = absurd q
add_is f (fin false m e) (fin true n d) p q = absurd q
add_is f (fin false m e) (fin false n d) p q = unfold add sum in refl

mul_is : (f : Format) (x y : Float) → T (nonneg x) → T (nonneg y) → mul f x y ≡ round f false (num x * num y) (den x * den y)
mul_is f nan y p q = absurd p
mul_is f (inf s) y p q = absurd p
mul_is f (fin true m e) y p q = absurd p
mul_is f (fin false m e) nan p q = absurd q
mul_is f (fin false m e) (inf t) p q = absurd q
mul_is f (fin false m e) (fin true n d) p q = absurd q
mul_is f (fin false m e) (fin false n d) p q = unfold mul in refl

-- for a difference, y ≤ x
pick : (f : Format) (a b c : ℕ) → b ≤ a → sum f false a true b c ≡ round f false (a - b) c
unfolding sum
pick f a b c h = go (ltb a b) (ltb→lt a b)
  where
    go : (t : Bool) → (T t → a < b) → cond t (round f true (b - a) c) (round f false (a - b) c) ≡ round f false (a - b) c
    go true k = absurd (not-le_of_lt (k tt) h)
    go false k = refl

opened : (f : Format) (m : ℕ) (e : ℤ) (n : ℕ) (d : ℤ) → sub f (fin false m e) (fin false n d) ≡ sum f false (m * up e * down d) true (n * up d * down e) (down e * down d)
unfolding sub
opened f m e n d = refl

pub sub_is : (f : Format) (x y : Float) → T (nonneg x) → T (nonneg y) → T (le y x) → sub f x y ≡ round f false (num x * den y - num y * den x) (den x * den y)
sub_is f nan y p q h = absurd p
sub_is f (inf s) y p q h = absurd p
sub_is f (fin true m e) y p q h = absurd p
sub_is f (fin false m e) nan p q h = absurd q
sub_is f (fin false m e) (inf t) p q h = absurd q
sub_is f (fin false m e) (fin true n d) p q h = absurd q
sub_is f (fin false m e) (fin false n d) p q h = opened f m e n d ∙ pick f (m * up e * down d) (n * up d * down e) (down e * down d) (le→cross (fin false n d) (fin false m e) q p h)

-- ---- each operation goes one way in each operand
cross_add : (a p b q a' p' b' q' : ℕ) → a * p' ≤ a' * p → b * q' ≤ b' * q → (a * q + b * p) * (p' * q') ≤ (a' * q' + b' * p') * (p * q)
cross_add a p b q a' p' b' q' h k =
    let l : a * q * (p' * q') ≤ a' * q' * (p * q) = simp (mul_assoc, mul_comm, mul_left_comm) (simp (mul_assoc, mul_comm, mul_left_comm) at (mul-le-mul_right (q * q') h)) in
    let r : b * p * (p' * q') ≤ b' * p' * (p * q) = simp (mul_assoc, mul_comm, mul_left_comm) (simp (mul_assoc, mul_comm, mul_left_comm) at (mul-le-mul_right (p * p') k)) in
    le_trans (le_of_eq (add-mul (a * q) (b * p) (p' * q'))) (le_trans (add-le-add l r) (le_of_eq (sym (add-mul (a' * q') (b' * p') (p * q)))))

less : (a b c d : ℕ) → a ≤ c → d ≤ b → a - b ≤ c - d
less a b c d h k = omega arith

pub sub_mul : (a b k : ℕ) → (a - b) * k ≡ a * k - b * k
sub_mul a b k = mul_comm (a - b) k ∙ mul-sub k a b ∙ ap (λ (z : ℕ). z - k * b) (mul_comm k a) ∙ ap (λ (z : ℕ). a * k - z) (mul_comm k b)

cross_sub : (a p b q a' p' b' q' : ℕ) → a * p' ≤ a' * p → b' * q ≤ b * q' → (a * q - b * p) * (p' * q') ≤ (a' * q' - b' * p') * (p * q)
cross_sub a p b q a' p' b' q' h k =
    let l : a * q * (p' * q') ≤ a' * q' * (p * q) = simp (mul_assoc, mul_comm, mul_left_comm) (simp (mul_assoc, mul_comm, mul_left_comm) at (mul-le-mul_right (q * q') h)) in
    let r : b' * p' * (p * q) ≤ b * p * (p' * q') = simp (mul_assoc, mul_comm, mul_left_comm) (simp (mul_assoc, mul_comm, mul_left_comm) at (mul-le-mul_right (p * p') k)) in
    le_trans (le_of_eq (sub_mul (a * q) (b * p) (p' * q'))) (le_trans (less (a * q * (p' * q')) (b * p * (p' * q')) (a' * q' * (p * q)) (b' * p' * (p * q)) l r) (le_of_eq (sym (sub_mul (a' * q') (b' * p') (p * q)))))

module _ (f : Format) (x x' y y' : Float) (p : T (nonneg x)) (p' : T (nonneg x')) (q : T (nonneg y)) (q' : T (nonneg y')) where
  pub add_mono : T (le x x') → T (le y y') → T (le (add f x y) (add f x' y'))
  add_mono h k =
      subst (λ (z : Float). T (le z (add f x' y'))) (sym (add_is f x y p q))
      (subst (λ (z : Float). T (le (round f false (num x * den y + num y * den x) (den x * den y)) z)) (sym (add_is f x' y' p' q'))
      (round_mono f (num x * den y + num y * den x) (den x * den y) (num x' * den y' + num y' * den x') (den x' * den y') (mul-pos (den_pos x) (den_pos y)) (mul-pos (den_pos x') (den_pos y'))
      (cross_add (num x) (den x) (num y) (den y) (num x') (den x') (num y') (den y') (le→cross x x' p p' h) (le→cross y y' q q' k))))

  pub mul_mono : T (le x x') → T (le y y') → T (le (mul f x y) (mul f x' y'))
  mul_mono h k =
      subst (λ (z : Float). T (le z (mul f x' y'))) (sym (mul_is f x y p q))
      (subst (λ (z : Float). T (le (round f false (num x * num y) (den x * den y)) z)) (sym (mul_is f x' y' p' q'))
      (round_mono f (num x * num y) (den x * den y) (num x' * num y') (den x' * den y') (mul-pos (den_pos x) (den_pos y)) (mul-pos (den_pos x') (den_pos y'))
      (le_trans (le_of_eq (mul-mul-mul_comm (num x) (num y) (den x') (den y')))
      (le_trans (mul-le-mul (le→cross x x' p p' h) (le→cross y y' q q' k)) (le_of_eq (mul-mul-mul_comm (num x') (den x) (num y') (den y)))))))

  -- x - y ≤ x' - y', for y' ≤ y ≤ x
  sub_mono : T (le x x') → T (le y' y) → T (le y x) → T (le (sub f x y) (sub f x' y'))
  sub_mono h k l =
      let m : T (le y' x') = le_trans_nn y' x x' q' p p' (le_trans_nn y' y x q' q p k l) h in
      subst (λ (z : Float). T (le z (sub f x' y'))) (sym (sub_is f x y p q l))
      (subst (λ (z : Float). T (le (round f false (num x * den y - num y * den x) (den x * den y)) z)) (sym (sub_is f x' y' p' q' m))
      (round_mono f (num x * den y - num y * den x) (den x * den y) (num x' * den y' - num y' * den x') (den x' * den y') (mul-pos (den_pos x) (den_pos y)) (mul-pos (den_pos x') (den_pos y'))
      (cross_sub (num x) (den x) (num y) (den y) (num x') (den x') (num y') (den y') (le→cross x x' p p' h) (le→cross y' y q' q k))))

  -- x / y ≤ x' / y', for 0 < y' ≤ y
  div_mono_nn : 0 < num y' → T (le x x') → T (le y' y) → T (le (div f x y) (div f x' y'))
  div_mono_nn N' h k =
      let kc : num y' * den y ≤ num y * den y' = le→cross y' y q' q k in
      let N : 0 < num y = first_pos (num y) (den y') (lt_of_lt_of_le (mul-pos N' (den_pos y)) kc) in
      subst (λ (z : Float). T (le z (div f x' y'))) (sym (div_is f x y p q N))
      (subst (λ (z : Float). T (le (round f false (num x * den y) (num y * den x)) z)) (sym (div_is f x' y' p' q' N'))
      (round_mono f (num x * den y) (num y * den x) (num x' * den y') (num y' * den x') (mul-pos N (den_pos x)) (mul-pos N' (den_pos x'))
      (simp (mul_assoc, mul_comm, mul_left_comm) (simp (mul_assoc, mul_comm, mul_left_comm) at (mul-le-mul (le→cross x x' p p' h) kc)))))

-- ---- between two values
-- a literal, and a value known to be in
pub here : (c : Float) → T (nonneg c) → In c c c
here c p = record { lo_ok = p; hi_ok = p; ok = p; least = le_refl_nn c p; most = le_refl_nn c p }

pub wider : {lo hi x : Float} (lo' hi' : Float) → In lo hi x → T (nonneg lo') → T (nonneg hi') → T (le lo' lo) → T (le hi hi') → In lo' hi' x
wider {lo} {hi} {x} lo' hi' i p q h k = record {
  lo_ok = p;
  hi_ok = q;
  ok = i.ok;
  least = le_trans_nn lo' lo x p i.lo_ok i.ok h i.least;
  most = le_trans_nn x hi hi' i.ok i.hi_ok q i.most k;
}

-- three results in order, each plain, the last finite
three : {a b c : Float} → T (plain a) → T (plain b) → T (nonneg c) → T (le a b) → T (le b c) → In a c b
three {a} {b} {c} pa pb nc h k =
    let nb : T (nonneg b) = under b c pb nc k in
    record { lo_ok = under a b pa nb h; hi_ok = nc; ok = nb; least = h; most = k }

plain_add : (f : Format) (x y : Float) → T (nonneg x) → T (nonneg y) → T (plain (add f x y))
plain_add f x y p q = subst (λ (z : Float). T (plain z)) (sym (add_is f x y p q)) (round_plain f (num x * den y + num y * den x) (den x * den y))

plain_mul : (f : Format) (x y : Float) → T (nonneg x) → T (nonneg y) → T (plain (mul f x y))
plain_mul f x y p q = subst (λ (z : Float). T (plain z)) (sym (mul_is f x y p q)) (round_plain f (num x * num y) (den x * den y))

plain_sub : (f : Format) (x y : Float) → T (nonneg x) → T (nonneg y) → T (le y x) → T (plain (sub f x y))
plain_sub f x y p q h = subst (λ (z : Float). T (plain z)) (sym (sub_is f x y p q h)) (round_plain f (num x * den y - num y * den x) (den x * den y))

plain_div : (f : Format) (x y : Float) → T (nonneg x) → T (nonneg y) → 0 < num y → T (plain (div f x y))
plain_div f x y p q h = subst (λ (z : Float). T (plain z)) (sym (div_is f x y p q h)) (round_plain f (num x * den y) (num y * den x))

pub add_in : (f : Format) {xl xh x yl yh y : Float} → In xl xh x → In yl yh y → T (nonneg (add f xh yh)) → In (add f xl yl) (add f xh yh) (add f x y)
add_in f {xl} {xh} {x} {yl} {yh} {y} i j t =
    three (plain_add f xl yl i.lo_ok j.lo_ok) (plain_add f x y i.ok j.ok) t
    (add_mono f xl x yl y i.lo_ok i.ok j.lo_ok j.ok i.least j.least)
    (add_mono f x xh y yh i.ok i.hi_ok j.ok j.hi_ok i.most j.most)

pub mul_in : (f : Format) {xl xh x yl yh y : Float} → In xl xh x → In yl yh y → T (nonneg (mul f xh yh)) → In (mul f xl yl) (mul f xh yh) (mul f x y)
mul_in f {xl} {xh} {x} {yl} {yh} {y} i j t =
    three (plain_mul f xl yl i.lo_ok j.lo_ok) (plain_mul f x y i.ok j.ok) t
    (mul_mono f xl x yl y i.lo_ok i.ok j.lo_ok j.ok i.least j.least)
    (mul_mono f x xh y yh i.ok i.hi_ok j.ok j.hi_ok i.most j.most)

-- x - y where all of y's bounds are at most x's
pub sub_in : (f : Format) {xl xh x yl yh y : Float} → In xl xh x → In yl yh y → T (le yh xl) → T (nonneg (sub f xh yl)) → In (sub f xl yh) (sub f xh yl) (sub f x y)
sub_in f {xl} {xh} {x} {yl} {yh} {y} i j h t =
    let l : T (le yh x) = le_trans_nn yh xl x j.hi_ok i.lo_ok i.ok h i.least in
    let m : T (le y x) = le_trans_nn y yh x j.ok j.hi_ok i.ok j.most l in
    three (plain_sub f xl yh i.lo_ok j.hi_ok h) (plain_sub f x y i.ok j.ok m) t
    (sub_mono f xl x yh y i.lo_ok i.ok j.hi_ok j.ok i.least j.most h)
    (sub_mono f x xh y yl i.ok i.hi_ok j.ok j.lo_ok i.most j.least m)

-- x / y where y's lower bound is above zero
pub div_in : (f : Format) {xl xh x yl yh y : Float} → In xl xh x → In yl yh y → T (ltb 0 (num yl)) → T (nonneg (div f xh yl)) → In (div f xl yh) (div f xh yl) (div f x y)
div_in f {xl} {xh} {x} {yl} {yh} {y} i j h t =
    let N : 0 < num yl = ltb→lt 0 (num yl) h in
    let M : 0 < num y = first_pos (num y) (den yl) (lt_of_lt_of_le (mul-pos N (den_pos y)) (le→cross yl y j.lo_ok j.ok j.least)) in
    let H : 0 < num yh = first_pos (num yh) (den y) (lt_of_lt_of_le (mul-pos M (den_pos yh)) (le→cross y yh j.ok j.hi_ok j.most)) in
    three (plain_div f xl yh i.lo_ok j.hi_ok H) (plain_div f x y i.ok j.ok M) t
    (div_mono_nn f xl x yh y i.lo_ok i.ok j.hi_ok j.ok M i.least j.most)
    (div_mono_nn f x xh y yl i.ok i.hi_ok j.ok j.lo_ok N i.most j.least)

-- a whole number between two others
pub whole_in : (a b n : ℕ) → a ≤ n → n ≤ b → b ≤ 2 ^ 24 → In (f32_of a) (f32_of b) (f32_of n)
whole_in a b n h k l = record {
  lo_ok = nonneg_of_value (f32_of a) a 1 (whole_value a (omega arith));
  hi_ok = nonneg_of_value (f32_of b) b 1 (whole_value b l);
  ok = nonneg_of_value (f32_of n) n 1 (whole_value n (omega arith));
  least = le_of_values (f32_of a) (f32_of n) a 1 n 1 (lit< tt) (lit< tt) (whole_value a (omega arith)) (whole_value n (omega arith)) (omega arith);
  most = le_of_values (f32_of n) (f32_of b) n 1 b 1 (lit< tt) (lit< tt) (whole_value n (omega arith)) (whole_value b l) (omega arith);
}

-- what is not below is not above
pub not_lt→le : (x y : Float) → T (nonneg x) → T (nonneg y) → lt x y ≡ false → T (le y x)
unfolding lt
not_lt→le nan y p q h = absurd p
not_lt→le (inf s) y p q h = absurd p
not_lt→le (fin true m e) y p q h = absurd p
not_lt→le (fin false m e) nan p q h = absurd q
not_lt→le (fin false m e) (inf t) p q h = absurd q
not_lt→le (fin false m e) (fin true n d) p q h = absurd q
not_lt→le (fin false m e) (fin false n d) p q h = cross→le (fin false n d) (fin false m e) tt tt (ltb-false (m * up e * down d) (n * up d * down e) h)

-- and what is at most y, y is not below
pub le→not_lt : (x y : Float) → T (nonneg x) → T (nonneg y) → T (le x y) → lt y x ≡ false
unfolding lt
le→not_lt nan y p q h = absurd p
le→not_lt (inf s) y p q h = absurd p
le→not_lt (fin true m e) y p q h = absurd p
le→not_lt (fin false m e) nan p q h = absurd q
le→not_lt (fin false m e) (inf t) p q h = absurd q
le→not_lt (fin false m e) (fin true n d) p q h = absurd q
le→not_lt (fin false m e) (fin false n d) p q h = le-ltb (n * up d * down e) (m * up e * down d) (le→cross (fin false m e) (fin false n d) p q h)

-- the lesser of two
pub lesser_in : {lo hi top x y : Float} → In lo hi x → In lo top y → In lo hi (cond (lt x y) x y)
lesser_in {lo} {hi} {top} {x} {y} i j = go (lt x y) refl
  where
    go : (t : Bool) → lt x y ≡ t → In lo hi (cond t x y)
    go true e = i
    go false e = record {
      lo_ok = i.lo_ok;
      hi_ok = i.hi_ok;
      ok = j.ok;
      least = j.least;
      most = le_trans_nn y x hi j.ok i.ok i.hi_ok (not_lt→le x y i.ok j.ok e) i.most;
    }

caps : (a b c : ℕ) → a ≤ b → min a c ≤ min b c
caps a b c h = omega arith

cut_mono : (w : ℕ) (x y : Float) → T (nonneg x) → T (nonneg y) → T (le x y) → to_unsigned w x ≤ to_unsigned w y
cut_mono w nan y p q h = absurd p
cut_mono w (inf s) y p q h = absurd p
cut_mono w (fin true m e) y p q h = absurd p
cut_mono w (fin false m e) nan p q h = absurd q
cut_mono w (fin false m e) (inf t) p q h = absurd q
cut_mono w (fin false m e) (fin true n d) p q h = absurd q
cut_mono w (fin false m e) (fin false n d) p q h =
    unfold to_unsigned in caps (m * up e / down e) (n * up d / down d) (2 ^ w - 1) (div_mono (m * up e) (down e) (n * up d) (down d) (down_pos e) (down_pos d) (le→cross (fin false m e) (fin false n d) p q h))

pub cut_least : {lo hi x : Float} (w : ℕ) → In lo hi x → to_unsigned w lo ≤ to_unsigned w x
cut_least {lo} {hi} {x} w i = cut_mono w lo x i.lo_ok i.ok i.least

pub cut_most : {lo hi x : Float} (w : ℕ) → In lo hi x → to_unsigned w x ≤ to_unsigned w hi
cut_most {lo} {hi} {x} w i = cut_mono w x hi i.ok i.hi_ok i.most

-- below a whole number, so is what is left without the fraction
pub cut_under : (w : ℕ) (x hi : Float) → T (nonneg hi) → T (lt x hi) → to_unsigned w x ≤ to_unsigned w hi
unfolding lt to_unsigned
cut_under w nan hi q h = absurd h
cut_under w (inf true) hi q h = omega arith
cut_under w (inf false) nan q h = absurd q
cut_under w (inf false) (inf t) q h = absurd q
cut_under w (inf false) (fin t n d) q h = absurd h
cut_under w (fin true m e) hi q h = omega arith
cut_under w (fin false m e) nan q h = absurd q
cut_under w (fin false m e) (inf t) q h = absurd q
cut_under w (fin false m e) (fin true n d) q h = absurd q
cut_under w (fin false m e) (fin false n d) q h =
    caps (m * up e / down e) (n * up d / down d) (2 ^ w - 1) (div_mono (m * up e) (down e) (n * up d) (down d) (down_pos e) (down_pos d) (le_of_lt (ltb→lt (m * up e * down d) (n * up d * down e) h)))
