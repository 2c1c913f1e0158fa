-- One draw, and the definition's own operations. Assumes nothing.
use borrow.Author.Rules.{rules}
use Rattle.composer.specs.Spread.{jitter_of}
use Rattle.composer.proofs.spread.Jitter.draw.Goals as goal

pub returns : goal.returns
unfolding jitter_of
returns c = search rules
