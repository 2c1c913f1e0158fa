-- A sum, a difference and a product of values of either sign: the size of each is at most the sum and the product of the sizes. Assumes nothing.
use mathlib.Core.Path.{◌≡◌, refl, sym, ap, ◌∙◌, subst}
use Prim.Native.Nat.{ℕ, zero, suc, ◌+◌, ◌-◌, ◌*◌, ◌^◌, ◌≤◌, ◌<◌, zero-le}
use native.Mathlib.Nat.{zero-mul, le_trans, le_refl, le_of_eq, mul-le-mul_right, mul-pos, le-add_right, le-add_left, sub-le}
use mathlib.Core.Bool.{Bool, true, false, ◌&&◌, cond}
use lib.Dec.{T, ltb}
use lib.Ieee.{Float, nan, inf, fin, Format, binary32, prec, emax, low, up, down, unlike, odd, units, round, sum, add, sub, mul, neg, le, lt, of_bits}
use lib.Ieee.Fits.{down_pos, round_is}
use lib.Ieee.Order.{round_mono}
use lib.Ieee.Positive.{den}
use lib.Ieee.Scale.{finite}
use Rattle.laws.specs.Floats.{nonneg, In, abs, Size}
use Rattle.laws.proofs.Bounds.{plain, under, round_plain, le_trans_nn, add_is, add_mono, mul_mono, cross→le}

-- ---- the size of a rounding is the rounding of the size
odd_abs : (d : ℕ) (s : Bool) (q k l : ℕ) → abs (odd d s q k l) ≡ odd d false q k l
unfolding odd
odd_abs d s zero k l = refl
odd_abs d s (suc q) k l = refl

units_abs : (f : Format) (s : Bool) (q k : ℕ) → abs (units f s q k) ≡ units f false q k
unfolding units
units_abs f s q k = go (ltb (q * 2 ^ k) (2 ^ (low f + suc (emax f))))
  where
    go : (b : Bool) → abs (cond b (odd (suc (prec f)) s q k (low f)) (inf s)) ≡ cond b (odd (suc (prec f)) false q k (low f)) (inf false)
    go true = odd_abs (suc (prec f)) s q k (low f)
    go false = refl

round_abs : (f : Format) (s : Bool) (a c : ℕ) → abs (round f s a c) ≡ round f false a c
round_abs f s a c = ap abs (round_is f s a c) ∙ units_abs f s _ _ ∙ sym (round_is f false a c)

at_most : (f : Format) (s : Bool) (a b c : ℕ) → 0 < c → a ≤ b → T (le (abs (round f s a c)) (round f false b c))
at_most f s a b c C h = subst (λ (z : Float). T (le z (round f false b c))) (sym (round_abs f s a c)) (round_mono f a c b c C C (mul-le-mul_right c h))

apart : (f : Format) (s t : Bool) (a b c : ℕ) → 0 < c → (p q : Bool) → T (le (abs (cond p (round f t (b - a) c) (round f (s && q) (a - b) c))) (round f false (a + b) c))
apart f s t a b c C true q = at_most f t (b - a) (a + b) c C (le_trans (sub-le b a) (le-add_left b a))
apart f s t a b c C false q = at_most f (s && q) (a - b) (a + b) c C (le_trans (sub-le a b) (le-add_right a b))

sum_size : (f : Format) (s : Bool) (a : ℕ) (t : Bool) (b c : ℕ) → 0 < c → T (le (abs (sum f s a t b c)) (round f false (a + b) c))
unfolding sum
sum_size f true a true b c C = at_most f true (a + b) (a + b) c C (le_refl (a + b))
sum_size f false a false b c C = at_most f false (a + b) (a + b) c C (le_refl (a + b))
sum_size f true a false b c C = apart f true false a b c C (ltb a b) (ltb b a)
sum_size f false a true b c C = apart f false true a b c C (ltb a b) (ltb b a)

-- ---- sizes
abs_nn : (x : Float) → T (finite x) → T (nonneg (abs x))
abs_nn nan p = absurd p
abs_nn (inf s) p = absurd p
abs_nn (fin s m e) p = tt

nn_abs : (x : Float) → T (nonneg (abs x)) → T (finite x)
nn_abs nan p = absurd p
nn_abs (inf s) p = absurd p
nn_abs (fin s m e) p = tt

add_abs : (f : Format) (x y : Float) → T (finite x) → T (finite y) → T (le (abs (add f x y)) (add f (abs x) (abs y)))
add_abs f nan y p q = absurd p
add_abs f (inf s) y p q = absurd p
add_abs f (fin s m e) nan p q = absurd q
add_abs f (fin s m e) (inf t) p q = absurd q
add_abs f (fin s m e) (fin t n d) p q =
    unfold add sum in sum_size f s (m * up e * down d) t (n * up d * down e) (down e * down d) (mul-pos (down_pos e) (down_pos d))

mul_abs : (f : Format) (x y : Float) → T (finite x) → T (finite y) → abs (mul f x y) ≡ mul f (abs x) (abs y)
mul_abs f nan y p q = absurd p
mul_abs f (inf s) y p q = absurd p
mul_abs f (fin s m e) nan p q = absurd q
mul_abs f (fin s m e) (inf t) p q = absurd q
mul_abs f (fin s m e) (fin t n d) p q = unfold mul in round_abs f (unlike s t) (m * up e * (n * up d)) (down e * down d)

abs_plain : (z hi : Float) → T (nonneg hi) → T (le (abs z) hi) → T (nonneg (abs z))
unfolding le
abs_plain nan hi p h = absurd h
abs_plain (inf s) nan p h = absurd p
abs_plain (inf s) (inf t) p h = absurd p
abs_plain (inf s) (fin t n d) p h = absurd h
abs_plain (fin s m e) hi p h = tt

-- ---- the laws
pub size_of_in : {lo hi x : Float} → In lo hi x → Size hi x
size_of_in {lo} {hi} {x} i = go x i.ok i.most
  where
    go : (x : Float) → T (nonneg x) → T (le x hi) → Size hi x
    go nan p h = absurd p
    go (inf s) p h = absurd p
    go (fin true m e) p h = absurd p
    go (fin false m e) p h = record { hi_ok = i.hi_ok; ok = tt; most = h }

pub add_size : (f : Format) {hx x hy y : Float} → Size hx x → Size hy y → T (nonneg (add f hx hy)) → Size (add f hx hy) (add f x y)
add_size f {hx} {x} {hy} {y} i j t =
    let ax = abs_nn x i.ok in
    let ay = abs_nn y j.ok in
    let m : T (le (add f (abs x) (abs y)) (add f hx hy)) = add_mono f (abs x) hx (abs y) hy ax i.hi_ok ay j.hi_ok i.most j.most in
    let p : T (plain (add f (abs x) (abs y))) = subst (λ (z : Float). T (plain z)) (sym (add_is f (abs x) (abs y) ax ay)) (round_plain f _ _) in
    let n : T (nonneg (add f (abs x) (abs y))) = under (add f (abs x) (abs y)) (add f hx hy) p t m in
    let h : T (le (abs (add f x y)) (add f (abs x) (abs y))) = add_abs f x y i.ok j.ok in
    let az : T (nonneg (abs (add f x y))) = abs_plain (add f x y) (add f (abs x) (abs y)) n h in
    record { hi_ok = t; ok = nn_abs (add f x y) az; most = le_trans_nn (abs (add f x y)) (add f (abs x) (abs y)) (add f hx hy) az n t h m }

pub mul_size : (f : Format) {hx x hy y : Float} → Size hx x → Size hy y → T (nonneg (mul f hx hy)) → Size (mul f hx hy) (mul f x y)
mul_size f {hx} {x} {hy} {y} i j t =
    let m : T (le (abs (mul f x y)) (mul f hx hy)) =
    subst (λ (z : Float). T (le z (mul f hx hy))) (sym (mul_abs f x y i.ok j.ok))
    (mul_mono f (abs x) hx (abs y) hy (abs_nn x i.ok) i.hi_ok (abs_nn y j.ok) j.hi_ok i.most j.most) in
    record { hi_ok = t; ok = nn_abs (mul f x y) (abs_plain (mul f x y) (mul f hx hy) t m); most = m }

neg_size : {hx x : Float} → Size hx x → Size hx (neg x)
unfolding neg
neg_size {hx} {x} i = go x i.ok i.most
  where
    go : (x : Float) → T (finite x) → T (le (abs x) hx) → Size hx (neg x)
    go nan p h = absurd p
    go (inf s) p h = absurd p
    go (fin s m e) p h = record { hi_ok = i.hi_ok; ok = tt; most = h }

pub sub_size : (f : Format) {hx x hy y : Float} → Size hx x → Size hy y → T (nonneg (add f hx hy)) → Size (add f hx hy) (sub f x y)
unfolding sub
sub_size f i j t = add_size f i (neg_size j) t

-- ---- held at zero from below: no -0, whatever x is
abbrev nought : Float
nought = of_bits binary32 0

pub held_in : {hi x : Float} → Size hi x → In nought hi (cond (lt nought x) x nought)
unfolding lt of_bits
held_in {hi} {x} i = go x i.ok i.most
  where
    nought_le : (y : Float) → T (nonneg y) → T (le nought y)
    nought_le y p = cross→le nought y tt p (le_trans (le_of_eq (zero-mul (den y))) zero-le)

    kept : (b : Bool) (y : Float) → T (nonneg y) → T (le y hi) → In nought hi (cond b y nought)
    kept true y p h = record { lo_ok = tt; hi_ok = i.hi_ok; ok = p; least = nought_le y p; most = h }
    kept false y p h = record { lo_ok = tt; hi_ok = i.hi_ok; ok = tt; least = nought_le nought tt; most = nought_le hi i.hi_ok }

    go : (x : Float) → T (finite x) → T (le (abs x) hi) → In nought hi (cond (lt nought x) x nought)
    go nan p h = absurd p
    go (inf s) p h = absurd p
    go (fin true m e) p h = record { lo_ok = tt; hi_ok = i.hi_ok; ok = tt; least = nought_le nought tt; most = nought_le hi i.hi_ok }
    go (fin false m e) p h = kept (lt nought (fin false m e)) (fin false m e) tt h
