-- The sum wraps once where the code wraps the product and the sum. Assumes nothing.
use Rattle.std.proofs.Common.{arith}
use Rattle.streams.specs.Unmix.{undraw_of}
use Rattle.streams.proofs.unmix.undraw.Goals as goal

pub returns : goal.returns
unfolding undraw_of
returns c = omega arith
