-- Each call is its definition. Assumes nothing.
use borrow.Author.Rules.{rules}
use Rattle.composer.specs.Drums.Kit.{snare_hit_of}
use Rattle.composer.proofs.drums.kit.snare_hit.Goals as goal

pub returns : goal.returns
unfolding snare_hit_of
returns c = search rules
