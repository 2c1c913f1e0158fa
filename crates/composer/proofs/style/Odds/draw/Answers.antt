-- Either arm is the definition's. Assumes nothing.
use Rattle.composer.specs.Style.{odds_of}
use Rattle.composer.proofs.style.Odds.draw.Goals as goal

pub returns-in-Never : goal.returns-in-Never
unfolding odds_of
returns-in-Never c = rw c.in-Never.is

pub returns-in-Chance : goal.returns-in-Chance
unfolding odds_of
returns-in-Chance c = rw c.in-Chance.is c.chance.ensures
