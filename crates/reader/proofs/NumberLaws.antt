-- Numbers are read back as they were written, and what stands before a place does not matter. Assumes nothing.
use mathlib.Core.Path.{◌≡◌, ap, ◌∙◌}
use mathlib.Core.List.{List, ◌++◌}
use Prim.Native.Nat.{ℕ, ◌+◌}
use native.Mathlib.Nat.{add_assoc}
use lib.ListN.{length}
use lib.Seq.{get_or-append-add}
use lib.Ieee.{Float, binary32, to_bits, of_bits}
use lib.Ieee.Bits.{of_bits-to_bits}
use Rattle.composer.specs.Plain.{Fits32}
use Rattle.pages.specs.Bytes.{be16, byte_at, be16_at, be64_at, f32_bytes, f32_at}
use Rattle.pages.proofs.BytesLaws.{size_back, four_back}

-- reading by f starts at its place, whatever stands before
abbrev pub Shifts : {A : Type 0} → (List ℕ → ℕ → A) → Type 0
Shifts f = (xs ys : List ℕ) (k : ℕ) → f (xs ++ ys) (length xs + k) ≡ f ys k

pub byte_shifts : Shifts byte_at
byte_shifts xs ys k = get_or-append-add xs ys k 0

pub be16_shifts : Shifts be16_at
be16_shifts xs ys k = simp (add_assoc, get_or-append-add)

pub be64_shifts : Shifts be64_at
be64_shifts xs ys k = simp (add_assoc, get_or-append-add)

pub f32_shifts : Shifts f32_at
f32_shifts xs ys k = simp (add_assoc, get_or-append-add)

-- ---- back
pub be16_back : (x : ℕ) (rest : List ℕ) → be16_at (be16 x ++ rest) 0 ≡ x
be16_back x rest = size_back x

pub f32_back : (x : Float) (rest : List ℕ) → Fits32 x → f32_at (f32_bytes x ++ rest) 0 ≡ x
f32_back x rest h = ap (of_bits binary32) (four_back (to_bits binary32 x)) ∙ of_bits-to_bits binary32 x h
