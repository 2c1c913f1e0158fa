-- Each call is its definition. Assumes nothing.
use borrow.Author.Rules.{rules}
use Rattle.composer.specs.Bass.Line.{struck_of}
use Rattle.composer.proofs.bass.line.struck.Goals as goal

pub returns : goal.returns
unfolding struck_of
returns c = search rules
