-- A sound form's parts are its bars, and each of its bars is found and no other. Assumes nothing.
use mathlib.Core.Path.{◌≡◌}
use mathlib.Core.Bool.{true, and-eq-true_iff}
use Prim.Native.Nat.{ℕ, ◌≤◌, ◌<◌}
use native.Mathlib.Omega.{arith}
use borrow.Author.Tests.{eqb-true, leb-true, le-leb, lt-leb}
use lib.Dec.{eqb, leb}
use lib.ListN.{get_or}
use Rattle.std.proofs.Common.{Err}
use Rattle.composer.specs.Refusal.{Gives, answered}
use Rattle.composer.specs.Form.{parts_of}
use Rattle.composer.specs.Form.Plays.{silent}
use Rattle.composer.specs.Form.Ask.{sound_of, plays_of}
use Rattle.composer.specs.declared.refusal.Refusal.{Refusal}
use Rattle.composer.specs.declared.form.Form.{Form}

pub sound_is : (f : Form) → sound_of f ≡ true → (parts_of f ≡ f.bars) × (parts_of f ≤ 64)
unfolding sound_of
sound_is f h =
    let e = (and-eq-true_iff (eqb (parts_of f) f.bars) (leb (parts_of f) 64)).0 h in
    (eqb-true (parts_of f) f.bars e.0, leb-true (parts_of f) 64 e.1)

pub sound_bars : (f : Form) → sound_of f ≡ true → f.bars ≤ 64
sound_bars f h = omega (arith, (sound_is f h).0, (sound_is f h).1)

-- a bar of a sound form is found
pub plays_found : (f : Form) → sound_of f ≡ true → (b : ℕ) → b < f.bars → answered (plays_of f b) ≡ Gives (get_or f.plays b silent)
unfolding plays_of
plays_found f sound b h = rw (sound, lt-leb f.bars b h)

-- and no other
pub plays_past : (f : Form) → sound_of f ≡ true → (b : ℕ) → f.bars ≤ b → plays_of f b ≡ Err Refusal.NoSuchBar
unfolding plays_of
plays_past f sound b h = rw (sound, le-leb f.bars b h)
