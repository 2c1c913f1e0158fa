-- How long a field is, the bytes of a number that is turned round, and numbers read back. Assumes nothing.
use mathlib.Core.Path.{◌≡◌, refl, sym, ap, ◌∙◌}
use mathlib.Core.List.{List, [], ◌∷◌, ◌++◌}
use Prim.Native.Nat.{ℕ, ◌+◌, ◌*◌, ◌/◌, ◌%◌, ◌<◌}
use native.Mathlib.Omega.{arith}
use lib.ListN.{length}
use Rattle.pages.specs.Bytes.{be32, be64, be64_at, field}
use Rattle.pages.specs.Edition.{edition_field, edition_size}
use Rattle.pages.specs.declared.edition.Edition.{Edition}

pub length_field : (tag : ℕ) (body : List ℕ) → length (field tag body) ≡ 3 + length body
unfolding field
length_field tag body = omega arith

pub edition_length : (edition : Edition) → length (edition_field edition) ≡ edition_size edition
edition_length Edition.One = refl
edition_length Edition.Two = length_field 0x00 (2 ∷ [])

next_byte : (n d : ℕ) → d < 256 → ((n * 256 + d) % 256 ≡ d) × ((n * 256 + d) / 256 ≡ n)
next_byte n d h = (omega arith, omega arith)

middle : (x : ℕ) → (x / 65536 / 256 ≡ x / 16777216) × (x % 65536 / 256 ≡ x / 256 % 256) × (x % 65536 % 256 ≡ x % 256)
middle x = (omega arith, omega arith, omega arith)

-- the low byte of the turned number is the high byte of x, and so on
pub turned_bytes : (x y : ℕ) → x < 4294967296 → y ≡ ((x % 256 * 256 + x / 256 % 256) * 256 + x / 65536 % 256) * 256 + x / 16777216
    → (y % 256 ∷ (y / 256 % 256) ∷ (y / 256 / 256 % 256) ∷ (y / 256 / 256 / 256) ∷ []) ≡ be32 x
turned_bytes x y h e =
    let s = x % 256 in
    let r = x / 256 % 256 in
    let q = x / 65536 % 256 in
    let p = x / 16777216 in
    let one = next_byte ((s * 256 + r) * 256 + q) p (omega arith) in
    let two = next_byte (s * 256 + r) q (omega arith) in
    let three = next_byte s r (omega arith) in
    let m = middle x in
    rw (e, one.0, one.1, two.0, two.1, three.0, three.1, m.0, m.1, m.2) refl

-- ---- back
pub size_back : (x : ℕ) → x / 256 * 256 + x % 256 ≡ x
size_back x = omega arith

pub four_back : (x : ℕ) → (x / 65536 / 256 * 256 + x / 65536 % 256) * 65536 + (x % 65536 / 256 * 256 + x % 65536 % 256) ≡ x
four_back x = rw (size_back (x / 65536), size_back (x % 65536)) (omega arith)

pub be64_back : (x : ℕ) (rest : List ℕ) → be64_at (be64 x ++ rest) 0 ≡ x
be64_back x rest = rw (four_back (x / 4294967296), four_back (x % 4294967296)) (omega arith)

-- so numbers in bytes are told apart
pub be64_injective : (x y : ℕ) → be64 x ≡ be64 y → x ≡ y
be64_injective x y e = sym (be64_back x []) ∙ ap (λ (bytes : List ℕ). be64_at bytes 0) e ∙ be64_back y []
