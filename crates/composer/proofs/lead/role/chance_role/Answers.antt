-- The draw decides. Assumes nothing.
use borrow.Author.Rules.{rules}
use Rattle.composer.specs.Lead.Role.{chance_role_of}
use Rattle.composer.proofs.lead.role.chance_role.Goals as goal

pub returns : goal.returns
unfolding chance_role_of
returns c = search rules
