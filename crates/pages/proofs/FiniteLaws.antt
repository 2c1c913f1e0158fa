-- Which patterns are a finite value's. Assumes nothing.
use mathlib.Core.Path.{◌≡◌, refl, sym, ap, ◌∙◌}
use Prim.Native.Nat.{ℕ, zero, suc, ◌+◌, ◌*◌, ◌/◌, ◌%◌, ◌<◌}
use native.Mathlib.Omega.{arith}
use mathlib.Core.Bool.{Bool, true, false, not, ◌||◌, cond}
use lib.Dec.{eqb, ltb, leb}
use lib.Ieee.{nan, inf, binary32, odd, of_fields, of_bits}
use lib.Ieee.Scale.{finite}
use borrow.Author.Tests.{ltb-true, ltb-false, lt-ltb, le-ltb, ne_eqb, eq-eqb}

odd_finite : (d : ℕ) (s : Bool) (q k l : ℕ) → finite (odd d s q k l) ≡ true
unfolding odd
odd_finite d s zero k l = refl
odd_finite d s (suc q) k l = refl

-- by the exponent's field
fields_finite : (s : Bool) (x t : ℕ) → finite (of_fields binary32 s x t) ≡ not (eqb x 255)
unfolding of_fields
fields_finite s zero t = odd_finite 24 s t 0 149
fields_finite s (suc x) t = go (eqb (suc x) 255) (eqb t 0)
  where
    go : (b c : Bool) → finite (cond b (cond c (inf s) nan) (odd 24 s (8388608 + t) x 149)) ≡ not b
    go true true = refl
    go true false = refl
    go false c = odd_finite 24 s (8388608 + t) x 149

field_is : (n : ℕ) → n < 4294967296 → not (eqb (n % 2147483648 / 8388608) 255) ≡ ltb (n % 2147483648) 2139095040
field_is n h = go (ltb (n % 2147483648) 2139095040) refl
  where
    go : (b : Bool) → ltb (n % 2147483648) 2139095040 ≡ b → not (eqb (n % 2147483648 / 8388608) 255) ≡ b
    go true e = let l = ltb-true (n % 2147483648) 2139095040 e in ap not (ne_eqb (n % 2147483648 / 8388608) 255 (λ (z : n % 2147483648 / 8388608 ≡ 255). omega arith))
    go false e = let l = ltb-false (n % 2147483648) 2139095040 e in ap not (eq-eqb (n % 2147483648 / 8388608) 255 (omega arith))

finite_bits : (n : ℕ) → n < 4294967296 → finite (of_bits binary32 n) ≡ ltb (n % 2147483648) 2139095040
unfolding of_bits
finite_bits n h = fields_finite (leb 2147483648 n) (n % 2147483648 / 8388608) (n % 8388608) ∙ field_is n h

-- ---- of a pattern by its first two bytes
low_bits : (a b rest : ℕ) → a < 256 → b < 256 → rest < 65536 → ((a * 256 + b) * 65536 + rest) % 2147483648 ≡ (a % 128 * 256 + b) * 65536 + rest
low_bits a b rest h k l = omega arith

pub finite_first : (a b rest : ℕ) → a < 256 → b < 256 → rest < 65536 → (ltb (a % 128) 127 || ltb b 128) ≡ finite (of_bits binary32 ((a * 256 + b) * 65536 + rest))
finite_first a b rest h k l =
    same (ltb (a % 128) 127) (ltb b 128) refl refl
    ∙ sym (finite_bits ((a * 256 + b) * 65536 + rest) (omega arith) ∙ ap (λ (n : ℕ). ltb n 2139095040) (low_bits a b rest h k l))
  where
    same : (s t : Bool) → ltb (a % 128) 127 ≡ s → ltb b 128 ≡ t → (s || t) ≡ ltb ((a % 128 * 256 + b) * 65536 + rest) 2139095040
    same true t e f = sym (lt-ltb ((a % 128 * 256 + b) * 65536 + rest) 2139095040 (omega (arith, ltb-true (a % 128) 127 e)))
    same false true e f = sym (lt-ltb ((a % 128 * 256 + b) * 65536 + rest) 2139095040 (omega (arith, ltb-true b 128 f)))
    same false false e f = sym (le-ltb ((a % 128 * 256 + b) * 65536 + rest) 2139095040 (omega (arith, ltb-false (a % 128) 127 e, ltb-false b 128 f)))
