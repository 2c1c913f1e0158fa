-- A pick of 4 is one of the chord's notes. Assumes nothing.
use mathlib.Core.Path.{ap}
use Prim.Native.Nat.{ℕ}
use native.Mathlib.Omega.{arith}
use Rattle.streams.proofs.DrawLaws.{pick_lt}
use Rattle.streams.specs.declared.stream.Draw.{Draw}
use Rattle.composer.proofs.keys.tone_at.Goals as goal

pub bounds-chord-p : goal.bounds-chord-p
bounds-chord-p c =
    omega (arith, ap (λ (d : Draw ℕ). d.value) c.pick-p.ensures, pick_lt c.args.s 4 (omega arith))
