-- What every stream keeps: a draw is below 2^64, takes the counter one on and keeps the seed, and a unit is exact.
-- Assumes nothing.
use Rattle.std.proofs.Common.{◌≡◌, ℕ, ◌+◌, ◌/◌, ◌%◌, ◌^◌, ◌<◌, false, refl, ap, ◌∙◌, add-zero, mod-eq_of_lt, arith, lit<, lit≤}
use lib.Ieee.{Float, binary32, of_bits, of_int}
use lib.Ieee.Exact.{HasValue}
use lib.Ieee.Order.{le_of_values}
use Rattle.laws.specs.Floats.{f32_of, In}
use Rattle.laws.proofs.Exact.{whole_value, nonneg_of_value, over_power, lt_of_values}
use Rattle.streams.specs.Mix.{splitmix_draw_of}
use Rattle.streams.specs.Stream.{new_of, after, word_at, next_u64_of, unit_by, unit_at, unit_of, IsUnit}
use Rattle.streams.specs.declared.stream.NoiseStream.{NoiseStream}
use Rattle.streams.proofs.MixLaws.{splitmix_draw_lt}

module _ (s : NoiseStream) where
  pub after_seed : (n : ℕ) → (after s n).seed ≡ s.seed
  unfolding after
  after_seed n = refl

  pub after_counter : (n : ℕ) → (after s n).counter ≡ (s.counter + n) % 2 ^ 64
  unfolding after
  after_counter n = refl

  pub after_none : s.counter < 2 ^ 64 → after s 0 ≡ s
  unfolding after
  after_none h = rw (add-zero s.counter, mod-eq_of_lt h)

  -- the counter wraps once, however the draws are counted
  wraps : (m n : ℕ) → ((s.counter + m) % 2 ^ 64 + n) % 2 ^ 64 ≡ (s.counter + (m + n)) % 2 ^ 64
  wraps m n = omega arith

  pub after_after : (m n : ℕ) → after (after s m) n ≡ after s (m + n)
  unfolding after
  after_after m n = rw (wraps m n)

  -- one draw more, however it is counted
  pub after_on : (t : NoiseStream) (m n : ℕ) → t ≡ after s m → m + 1 ≡ n → after t 1 ≡ after s n
  after_on t m n e k = ap (λ (u : NoiseStream). after u 1) e ∙ after_after m 1 ∙ ap (after s) k

  -- after m draws comes draw m + 1
  pub next_u64_number : (m : ℕ) → next_u64_of (after s m) ≡ record { value = word_at s (m + 1); stream = after s (m + 1) }
  unfolding next_u64_of after word_at
  next_u64_number m = rw (wraps m 1)

  pub unit_number : (m : ℕ) → unit_of (after s m) ≡ record { value = unit_at s (m + 1); stream = after s (m + 1) }
  unfolding unit_of unit_at after word_at
  unit_number m = rw (wraps m 1)

  pub word_lt : (n : ℕ) → word_at s n < 2 ^ 64
  unfolding word_at
  word_lt n = splitmix_draw_lt s.seed ((s.counter + n) % 2 ^ 64)

  pub next_u64_advances : (next_u64_of s).stream ≡ after s 1
  unfolding next_u64_of
  next_u64_advances = refl

  pub unit_advances : (unit_of s).stream ≡ after s 1
  unfolding unit_of
  unit_advances = refl

-- draw n of the stream seeded at `seed`
pub new_word : (seed n : ℕ) → n < 2 ^ 64 → word_at (new_of seed) n ≡ splitmix_draw_of seed n
unfolding word_at
new_word seed n h = ap (splitmix_draw_of seed) (omega arith)

two24_value : HasValue (of_bits binary32 0x4b80_0000) false (2 ^ 24) 1
unfolding of_bits
two24_value = (refl, refl)

unit_exact : (k : ℕ) → k < 2 ^ 24 → HasValue (unit_by k) false k (2 ^ 24)
unfolding unit_by
unit_exact k h = over_power k 24 (of_bits binary32 0x4b80_0000) h (lit≤ tt) two24_value

unit_by_lem : (k : ℕ) → k < 2 ^ 24 → IsUnit k (unit_by k)
unit_by_lem k h = record {
  digits = h;
  exact = unit_exact k h;
  least = le_of_values (f32_of 0) (unit_by k) 0 1 k (2 ^ 24) (lit< tt) (lit< tt) (whole_value 0 (lit≤ tt)) (unit_exact k h) (omega arith);
  most = lt_of_values (unit_by k) (f32_of 1) k (2 ^ 24) 1 1 (unit_exact k h) (whole_value 1 (lit≤ tt)) (omega arith);
}

pub unit_at_lem : (s : NoiseStream) (n : ℕ) → IsUnit (word_at s n / 2 ^ 40) (unit_at s n)
unfolding unit_at
unit_at_lem s n = unit_by_lem (word_at s n / 2 ^ 40) (omega (arith, word_lt s n))

pub unit_is : (s : NoiseStream) → IsUnit (word_at s 1 / 2 ^ 40) (unit_of s).value
unfolding unit_of
unit_is s = unit_at_lem s 1

pub unit_in : (k : ℕ) (u : Float) → IsUnit k u → In (f32_of 0) (f32_of 1) u
unit_in k u i = record {
  lo_ok = unfold of_int in tt;
  hi_ok = unfold of_int in tt;
  ok = nonneg_of_value u k (2 ^ 24) i.exact;
  least = i.least;
  most = le_of_values u (f32_of 1) k (2 ^ 24) 1 1 (lit< tt) (lit< tt) i.exact (whole_value 1 (lit≤ tt)) (omega (arith, i.digits));
}
