-- The unit drawn is the one compared. Assumes nothing.
use Rattle.std.proofs.Common.{rules}
use Rattle.streams.specs.Draw.{chance_of}
use Rattle.streams.proofs.draw.chance.Goals as goal

pub returns : goal.returns
unfolding chance_of
returns c = search rules
