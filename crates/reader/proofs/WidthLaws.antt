-- Notes of an edition's width, one after another. Assumes nothing.
use Prim.Native.Nat.{ℕ, ◌+◌, ◌*◌, ◌≤◌, ◌<◌}
use native.Mathlib.Omega.{arith}
use Rattle.pages.specs.Edition.{note_width}
use Rattle.pages.specs.declared.edition.Edition.{Edition}

-- what both editions tell has 14 bytes
pub width_least : (edition : Edition) → 14 ≤ note_width edition
width_least Edition.One = omega arith
width_least Edition.Two = omega arith

-- the i-th of n notes stands among them
pub width_fits : (edition : Edition) (i n : ℕ) → i < n → note_width edition * i + note_width edition ≤ note_width edition * n
width_fits Edition.One i n h = omega arith
width_fits Edition.Two i n h = omega arith
