-- The law `whole_is`, at each answer of the comparison. Assumes nothing.
use Rattle.std.proofs.Common.{true, false}
use Rattle.laws.proofs.Whole.{whole_is}
use Rattle.streams.proofs.float.whole.Goals as goal

pub returns-then-near-x : goal.returns-then-near-x
returns-then-near-x c = whole_is c.args.x true c.requires.0 c.requires.1 c.if-near-x.true

pub returns-else-near-x : goal.returns-else-near-x
returns-else-near-x c = whole_is c.args.x false c.requires.0 c.requires.1 c.if-near-x.false
