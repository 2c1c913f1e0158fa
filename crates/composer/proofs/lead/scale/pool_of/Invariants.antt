-- The classes so far are marked. Assumes nothing.
use Rattle.std.proofs.Common.{◌≡◌, take}
use Rattle.composer.specs.Lead.Scale.{pool_by}
use Rattle.composer.proofs.lead.scale.pool_of.Given as goal

abbrev pub invariant-loop-pc : goal.invariant-loop-pc
invariant-loop-pc l = l.pool ≡ pool_by (take l.pc-index l.pc-items)
