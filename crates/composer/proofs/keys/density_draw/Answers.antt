-- One draw, or none. Assumes nothing.
use Rattle.composer.specs.Keys.{density_draw_of}
use Rattle.composer.proofs.keys.density_draw.Goals as goal

pub returns-in-Drawn : goal.returns-in-Drawn
unfolding density_draw_of
returns-in-Drawn c = rw c.in-Drawn.is c.draw.ensures

pub returns-in-Fixed : goal.returns-in-Fixed
unfolding density_draw_of
returns-in-Fixed c = rw c.in-Fixed.is
