-- Numbers of bytes below 256: how large they are, and written again as they were read. Assumes nothing.
use mathlib.Core.Path.{◌≡◌, refl, sym, subst}
use mathlib.Core.Bool.{true}
use mathlib.Core.List.{List}
use Prim.Native.Nat.{ℕ, ◌+◌, ◌/◌, ◌%◌, ◌<◌}
use native.Mathlib.Omega.{arith}
use lib.Dec.{T}
use lib.Ieee.{binary32, to_bits, of_bits}
use lib.Ieee.Bits.{to_bits-of_bits}
use lib.Ieee.Scale.{finite}
use Rattle.laws.proofs.Bounds.{no_nan}
use Rattle.pages.specs.Bytes.{byte_at, be16, be32, be64, be16_at, be32_at, be64_at, f32_bytes, f32_at}
use Rattle.reader.proofs.SpanLaws.{Span, span_then, span_byte, span_cons}

-- ---- a finite float keeps its pattern
finite_again : (n : ℕ) → n < 4294967296 → finite (of_bits binary32 n) ≡ true → to_bits binary32 (of_bits binary32 n) ≡ n
finite_again n h e = to_bits-of_bits binary32 n h (no_nan (of_bits binary32 n) (subst T (sym e) tt))

module _ (bytes : List ℕ) (octets : (i : ℕ) → byte_at bytes i < 256) where
  -- ---- how large they are
  be16_few : (at : ℕ) → be16_at bytes at < 65536
  be16_few at = omega (arith, octets at, octets (at + 1))

  be32_few : (at : ℕ) → be32_at bytes at < 4294967296
  be32_few at = omega (arith, be16_few at, be16_few (at + 2))

  pub be64_few : (at : ℕ) → be64_at bytes at < 18446744073709551616
  be64_few at = omega (arith, be32_few at, be32_few (at + 4))

  -- ---- written again: the halves of a number are what stands before and behind its middle
  pub be16_span : (at next : ℕ) → next ≡ at + 2 → Span bytes at next (be16 (be16_at bytes at))
  be16_span at next e =
      let few = octets (at + 1) in
      span_cons at (be16_at bytes at / 256) refl (omega arith) (span_byte (at + 1) next (be16_at bytes at % 256) (omega arith) (omega arith))

  be32_span : (at next : ℕ) → next ≡ at + 4 → Span bytes at next (be32 (be32_at bytes at))
  be32_span at next e =
      let few = be16_few (at + 2) in
      let h : be32_at bytes at / 65536 ≡ be16_at bytes at = omega arith in
      let l : be32_at bytes at % 65536 ≡ be16_at bytes (at + 2) = omega arith in
      rw (h, l) (span_then (be16_span at (at + 2) refl) (be16_span (at + 2) next (omega arith)))

  pub be64_span : (at next : ℕ) → next ≡ at + 8 → Span bytes at next (be64 (be64_at bytes at))
  be64_span at next e =
      let few = be32_few (at + 4) in
      let h : be64_at bytes at / 4294967296 ≡ be32_at bytes at = omega arith in
      let l : be64_at bytes at % 4294967296 ≡ be32_at bytes (at + 4) = omega arith in
      rw (h, l) (span_then (be32_span at (at + 4) refl) (be32_span (at + 4) next (omega arith)))

  pub f32_span : (at next : ℕ) → next ≡ at + 4 → finite (f32_at bytes at) ≡ true → Span bytes at next (f32_bytes (f32_at bytes at))
  f32_span at next e f = rw (finite_again (be32_at bytes at) (be32_few at) f) (be32_span at next e)
