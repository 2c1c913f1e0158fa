-- The beats as a float. Assumes nothing.
use borrow.Author.Rules.{rules}
use Rattle.composer.specs.Tempo.{tempo_draw_of, tempo_of}
use Rattle.composer.proofs.tempo.tempo.Goals as goal

pub returns : goal.returns
unfolding tempo_of tempo_draw_of
returns c = search rules
