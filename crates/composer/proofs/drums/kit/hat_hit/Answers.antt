-- Each call is its definition. Assumes nothing.
use borrow.Author.Rules.{rules}
use Rattle.composer.specs.Drums.Kit.{hat_hit_of}
use Rattle.composer.proofs.drums.kit.hat_hit.Goals as goal

pub returns : goal.returns
unfolding hat_hit_of
returns c = search rules
