-- The mixer is a bijection of the numbers below 2^64, with `unmix_of` as its inverse. So a draw and its number tell the
-- stream's seed, and a draw and the seed the number. Assumes nothing.
use Rattle.std.proofs.Common.{◌≡◌, ℕ, ◌+◌, ◌*◌, ◌%◌, ◌^◌, ◌<◌, ◌≤◌, sym, refl, ap, ◌∙◌, mul_comm, add_comm, mul-add, arith, lit≤}
use Rattle.laws.specs.Bits.{xor_shift, unshift}
use Rattle.laws.proofs.Inverses.{wrapped, mul_back, mul_injective}
use Rattle.laws.proofs.Xors.{unshift_xor_shift, xor_shift_unshift, xor_shift_lt, unshift_lt}
use Rattle.streams.specs.Mix.{golden_gamma, splitmix64_m1, splitmix64_m2, splitmix64_of, splitmix_draw_of}
use Rattle.streams.specs.Unmix.{un_m1, un_m2, minus_gamma, unmix_of, undraw_of}

-- ---- the factors and their inverses, by computation
m1_back : splitmix64_m1 * un_m1 ≡ 8125545580553827436 * 2 ^ 64 + 1
m1_back = refl

m2_back : splitmix64_m2 * un_m2 ≡ 2077064247507883091 * 2 ^ 64 + 1
m2_back = refl

abbrev un_gamma : ℕ
un_gamma = 0xf1de_83e1_9937_733d

gamma_back : golden_gamma * un_gamma ≡ 10771413168148108919 * 2 ^ 64 + 1
gamma_back = refl

-- ---- one step of the mixer: a shift by k, and a product with c, whose inverse is d
abbrev stir : ℕ → ℕ → ℕ → ℕ
stir k c z = xor_shift z k * c % 2 ^ 64

abbrev unstir : ℕ → ℕ → ℕ → ℕ
unstir k d y = unshift (y * d % 2 ^ 64) k

module _ (k c d q : ℕ) (K : 64 ≤ k + k + k) (e : c * d ≡ q * 2 ^ 64 + 1) where
  unstir_stir : (z : ℕ) → z < 2 ^ 64 → unstir k d (stir k c z) ≡ z
  unstir_stir z h =
      ap (λ (n : ℕ). unshift n k) (mul_back (2 ^ 64) c d q e (xor_shift z k) (xor_shift_lt k z h)) ∙ unshift_xor_shift k z K h

  stir_unstir : (y : ℕ) → y < 2 ^ 64 → stir k c (unstir k d y) ≡ y
  stir_unstir y h =
      ap (λ (n : ℕ). n * c % 2 ^ 64) (xor_shift_unshift k (y * d % 2 ^ 64) K (wrapped (y * d))) ∙ mul_back (2 ^ 64) d c q (mul_comm d c ∙ e) y h

-- ---- the mixer
pub unmix_lt : (y : ℕ) → unmix_of y < 2 ^ 64
unfolding unmix_of
unmix_lt y = unshift_lt 30 _ (wrapped (unshift (unshift y 31 * un_m2 % 2 ^ 64) 27 * un_m1))

pub unmix_mix : (z : ℕ) → z < 2 ^ 64 → unmix_of (splitmix64_of z) ≡ z
unfolding unmix_of splitmix64_of
unmix_mix z h =
    let a = stir 30 splitmix64_m1 z in
    let b = stir 27 splitmix64_m2 a in
    ap (λ (n : ℕ). unstir 30 un_m1 (unstir 27 un_m2 n)) (unshift_xor_shift 31 b (lit≤ tt) (wrapped (xor_shift a 27 * splitmix64_m2)))
    ∙ ap (unstir 30 un_m1) (unstir_stir 27 splitmix64_m2 un_m2 2077064247507883091 (lit≤ tt) m2_back a (wrapped (xor_shift z 30 * splitmix64_m1)))
    ∙ unstir_stir 30 splitmix64_m1 un_m1 8125545580553827436 (lit≤ tt) m1_back z h

pub mix_unmix : (y : ℕ) → y < 2 ^ 64 → splitmix64_of (unmix_of y) ≡ y
unfolding unmix_of splitmix64_of
mix_unmix y h =
    let x = unshift y 31 in
    let b = unstir 27 un_m2 x in
    ap (λ (n : ℕ). xor_shift (stir 27 splitmix64_m2 n) 31) (stir_unstir 30 splitmix64_m1 un_m1 8125545580553827436 (lit≤ tt) m1_back b (unshift_lt 27 _ (wrapped (x * un_m2))))
    ∙ ap (λ (n : ℕ). xor_shift n 31) (stir_unstir 27 splitmix64_m2 un_m2 2077064247507883091 (lit≤ tt) m2_back x (unshift_lt 31 y h))
    ∙ xor_shift_unshift 31 y (lit≤ tt) h

pub mix_injective : (x y : ℕ) → x < 2 ^ 64 → y < 2 ^ 64 → splitmix64_of x ≡ splitmix64_of y → x ≡ y
mix_injective x y h k e = sym (unmix_mix x h) ∙ ap unmix_of e ∙ unmix_mix y k

-- ---- a draw and its seed
-- so many gammas and as many of their negatives come to nothing
gammas : (n : ℕ) → n * golden_gamma + n * minus_gamma ≡ n * 2 ^ 64
gammas n = sym (mul-add n golden_gamma minus_gamma)

there_and_back : (u a b n : ℕ) → a + b ≡ n * 2 ^ 64 → u < 2 ^ 64 → ((u + a) % 2 ^ 64 + b) % 2 ^ 64 ≡ u
there_and_back u a b n e h = omega arith

pub undraw_lt : (w n : ℕ) → undraw_of w n < 2 ^ 64
unfolding undraw_of
undraw_lt w n = wrapped (unmix_of w + n * minus_gamma)

pub draw_undraw : (w n : ℕ) → w < 2 ^ 64 → splitmix_draw_of (undraw_of w n) n ≡ w
unfolding undraw_of splitmix_draw_of
draw_undraw w n h =
    ap splitmix64_of (there_and_back (unmix_of w) (n * minus_gamma) (n * golden_gamma) n (add_comm (n * minus_gamma) (n * golden_gamma) ∙ gammas n) (unmix_lt w))
    ∙ mix_unmix w h

pub undraw_draw : (seed n : ℕ) → seed < 2 ^ 64 → undraw_of (splitmix_draw_of seed n) n ≡ seed
unfolding undraw_of splitmix_draw_of
undraw_draw seed n h =
    ap (λ (u : ℕ). (u + n * minus_gamma) % 2 ^ 64) (unmix_mix ((seed + n * golden_gamma) % 2 ^ 64) (wrapped (seed + n * golden_gamma)))
    ∙ there_and_back seed (n * golden_gamma) (n * minus_gamma) n (gammas n) h

-- ---- a draw and its number
same_step : (seed a b : ℕ) → (seed + a) % 2 ^ 64 ≡ (seed + b) % 2 ^ 64 → a % 2 ^ 64 ≡ b % 2 ^ 64
same_step seed a b e = omega arith

-- two draws of a stream, by numbers below 2^64, are equal only if their numbers are
pub draw_injective : (seed i j : ℕ) → i < 2 ^ 64 → j < 2 ^ 64 → splitmix_draw_of seed i ≡ splitmix_draw_of seed j → i ≡ j
unfolding splitmix_draw_of
draw_injective seed i j h k e =
    let a = seed + i * golden_gamma in
    let b = seed + j * golden_gamma in
    let f = mix_injective (a % 2 ^ 64) (b % 2 ^ 64) (wrapped a) (wrapped b) e in
    mul_injective (2 ^ 64) golden_gamma un_gamma 10771413168148108919 gamma_back i j h k (same_step seed (i * golden_gamma) (j * golden_gamma) f)
