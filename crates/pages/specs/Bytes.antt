-- Bytes: numbers big-endian, written and read, and fields. Definitions only.
use Rattle.std.specs.Prelude.{List, [], ◌∷◌, ◌++◌, ℕ, ◌+◌, ◌*◌, ◌/◌, ◌%◌, length, get_or, Float}
use Rattle.std.specs.Float.{binary32}
use Rattle.std.specs.Float.Ieee.{to_bits, of_bits}

abbrev pub be16 : ℕ → List ℕ
be16 x = (x / 256) ∷ (x % 256) ∷ []

abbrev pub be32 : ℕ → List ℕ
be32 x = be16 (x / 65536) ++ be16 (x % 65536)

abbrev pub be64 : ℕ → List ℕ
be64 x = be32 (x / 4294967296) ++ be32 (x % 4294967296)

-- ---- the number at a place; past the end stand zeros
abbrev pub byte_at : List ℕ → ℕ → ℕ
byte_at bytes at = get_or bytes at 0

abbrev pub be16_at : List ℕ → ℕ → ℕ
be16_at bytes at = byte_at bytes at * 256 + byte_at bytes (at + 1)

abbrev pub be32_at : List ℕ → ℕ → ℕ
be32_at bytes at = be16_at bytes at * 65536 + be16_at bytes (at + 2)

abbrev pub be64_at : List ℕ → ℕ → ℕ
be64_at bytes at = be32_at bytes at * 4294967296 + be32_at bytes (at + 4)

-- ---- floats and fields
-- an f32 as its bits
abbrev pub f32_bytes : Float → List ℕ
f32_bytes x = be32 (to_bits binary32 x)

abbrev pub f32_at : List ℕ → ℕ → Float
f32_at bytes at = of_bits binary32 (be32_at bytes at)

-- a field is a one-byte tag, a two-byte length, a body
abbrev pub head : ℕ → ℕ → List ℕ
head tag size = tag ∷ be16 size

unfoldable pub field : ℕ → List ℕ → List ℕ
field tag body = head tag (length body) ++ body
