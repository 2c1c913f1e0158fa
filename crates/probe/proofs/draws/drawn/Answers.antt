-- Each arm makes the draw that its case names, and turns it into a number. Assumes nothing.
use borrow.Author.Rules.{rules}
use Rattle.probe.specs.Draws.{drawn_of}
use Rattle.probe.proofs.draws.drawn.Goals as goal

pub returns-in-Word : goal.returns-in-Word
unfolding drawn_of
returns-in-Word c = search rules

pub returns-in-Unit : goal.returns-in-Unit
unfolding drawn_of
returns-in-Unit c = search rules

pub returns-in-Pick : goal.returns-in-Pick
unfolding drawn_of
returns-in-Pick c = search rules

pub returns-in-Chance : goal.returns-in-Chance
unfolding drawn_of
returns-in-Chance c = search rules

pub returns-in-Coin : goal.returns-in-Coin
unfolding drawn_of
returns-in-Coin c = search rules
