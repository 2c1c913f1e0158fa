-- The fraction and the chance decide as in the definition. Assumes nothing.
use borrow.Author.Rules.{rules}
use Rattle.composer.specs.Lead.Push.{push_of}
use Rattle.composer.proofs.lead.push.push.Goals as goal

pub returns-then-fract : goal.returns-then-fract
unfolding push_of
returns-then-fract c = search rules

pub returns-else-fract : goal.returns-else-fract
unfolding push_of
returns-else-fract c = search rules
