-- Each call is its definition. Assumes nothing.
use mathlib.Core.Path.{◌≡◌, ◌∙◌}
use Prim.Native.Nat.{◌^◌, min}
use native.Mathlib.Omega.{arith}
use Rattle.composer.specs.Band.{band_of}
use Rattle.composer.proofs.band.band.Goals as goal

pub returns : goal.returns
unfolding band_of
returns c =
    let t = c.total-sum in
    let few : min t.result (2 ^ 24) ≡ t.result = omega (arith, t.ensures.upper_bound) in
    c.row_at.ensures ∙ rw (c.part-at.ensures, few, t.ensures.value)
