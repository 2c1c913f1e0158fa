-- The walk keeps in the window, so the snap may take any note of it. Assumes nothing.
use native.Mathlib.Omega.{arith}
use Rattle.composer.specs.Lead.Scale.{scale_step_of}
use Rattle.composer.proofs.lead.ScaleLaws.{walk_in}
use Rattle.composer.proofs.lead.scale.scale_step.Goals as goal

pub snapped-requires : goal.snapped-requires
snapped-requires c =
    let w = walk_in c.args.pool.now c.args.up c.args.lo c.args.hi c.args.note c.room-space.result c.args.steps (omega arith) (omega arith) (omega (arith, c.room-space.ensures)) in
    omega (arith, c.walk-n.ensures)

pub returns : goal.returns
unfolding scale_step_of
returns c = rw (← c.room-space.ensures, ← c.walk-n.ensures) c.snapped.ensures
