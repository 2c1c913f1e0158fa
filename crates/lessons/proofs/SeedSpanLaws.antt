-- Which starts and counts are spans, by the test and by the promise. Assumes nothing.
use mathlib.Core.Path.{◌≡◌}
use mathlib.Core.Bool.{true, false, ◌||◌, or-true}
use Prim.Native.Nat.{ℕ, ◌+◌, ◌-◌, ◌^◌, ◌≤◌, ◌<◌}
use native.Mathlib.Omega.{arith}
use borrow.Author.Tests.{ltb-false, lt-ltb, le-ltb}
use lib.Dec.{ltb}
use Rattle.laws.proofs.Bools.{neither}
use Rattle.lessons.specs.Lesson.{is_no_span}
use Rattle.lessons.specs.Promise.{SeedSpan}

module _ (start count : ℕ) where
  pub seeds_none : count < 1 → is_no_span start count ≡ true
  unfolding is_no_span
  seeds_none h = rw (lt-ltb count 1 h)

  pub seeds_many : 65536 < count → is_no_span start count ≡ true
  unfolding is_no_span
  seeds_many h = rw (le-ltb count 1 (omega arith), lt-ltb 65536 count h)

  -- no span
  pub seeds_past : 1 ≤ count → 2 ^ 64 < start + count → is_no_span start count ≡ true
  unfolding is_no_span
  seeds_past l h = rw (le-ltb count 1 l, lt-ltb (2 ^ 64 - 1) (start + count - 1) (omega arith)) (or-true (ltb 65536 count))

  -- a span
  pub seeds_are : SeedSpan start count → is_no_span start count ≡ false
  unfolding is_no_span
  seeds_are s = rw (le-ltb count 1 s.least, le-ltb 65536 count s.most, le-ltb (2 ^ 64 - 1) (start + count - 1) (omega (arith, s.least, s.last)))

  pub seeds_told : is_no_span start count ≡ false → SeedSpan start count
  unfolding is_no_span
  seeds_told e =
      let t = neither (ltb count 1 || ltb 65536 count) (ltb (2 ^ 64 - 1) (start + count - 1)) e in
      let u = neither (ltb count 1) (ltb 65536 count) t.0 in
      let least = ltb-false count 1 u.0 in
      let last = ltb-false (2 ^ 64 - 1) (start + count - 1) t.1 in
      record { least = least; most = ltb-false 65536 count u.1; last = omega arith }
