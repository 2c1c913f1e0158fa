-- Each call is its definition. Assumes nothing.
use borrow.Author.Rules.{rules}
use Rattle.composer.specs.Drums.Kit.{kick_hit_of}
use Rattle.composer.proofs.drums.kit.kick_hit.Goals as goal

pub returns : goal.returns
unfolding kick_hit_of
returns c = search rules
