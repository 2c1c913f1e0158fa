-- The unit is drawn and picked by the callees. Assumes nothing.
use Rattle.std.proofs.Common.{rules}
use Rattle.streams.specs.Draw.{pick_of}
use Rattle.streams.proofs.draw.pick.Goals as goal

pub returns : goal.returns
unfolding pick_of
returns c = search rules
