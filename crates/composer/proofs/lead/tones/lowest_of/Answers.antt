-- The table so far, lowered by what is left, is the whole chord's. Assumes nothing.
use Rattle.std.proofs.Common.{arith}
use Rattle.std.proofs.lemmas.Grind.{common_steps}
use Rattle.composer.proofs.lead.TonesLaws.{lowest_next, lowest_end}
use Rattle.composer.proofs.lead.tones.lowest_of.Goals as goal

pub loop-c-preserved : goal.loop-c-preserved
loop-c-preserved c = grind (arith, common_steps, lowest_next)

pub returns : goal.returns
returns c = grind (arith, common_steps, lowest_end)
