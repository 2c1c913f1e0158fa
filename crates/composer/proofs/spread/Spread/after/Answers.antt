-- One draw, and the definition's own operations. Assumes nothing.
use borrow.Author.Rules.{rules}
use Rattle.composer.specs.Spread.{after_of}
use Rattle.composer.proofs.spread.Spread.after.Goals as goal

pub returns : goal.returns
unfolding after_of
returns c = search rules
