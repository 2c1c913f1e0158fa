-- What is left to place lies in the bands from row i on, and the loop stops at the first that holds it. Assumes nothing.
use Rattle.std.proofs.Common.{arith}
use Rattle.std.proofs.lemmas.Grind.{common_steps}
use Rattle.composer.proofs.BandLaws.{row_hit, row_miss, row_last}
use Rattle.composer.proofs.band.row_at.Goals as goal

pub returns-then-left-w : goal.returns-then-left-w
returns-then-left-w c = grind (arith, common_steps, row_hit)

pub loop-i-preserved : goal.loop-i-preserved
loop-i-preserved c = grind (arith, common_steps, row_miss)

pub returns : goal.returns
returns c = grind (arith, common_steps, row_last)
