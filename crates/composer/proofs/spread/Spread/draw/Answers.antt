-- One draw, and the definition's own operations. Assumes nothing.
use borrow.Author.Rules.{rules}
use Rattle.composer.specs.Spread.{draw_of}
use Rattle.composer.proofs.spread.Spread.draw.Goals as goal

pub returns : goal.returns
unfolding draw_of
returns c = search rules
