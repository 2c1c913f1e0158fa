-- The code is the definition. Assumes nothing.
use Rattle.laws.specs.Bits.{unshift}
use Rattle.std.proofs.Common.{rules}
use Rattle.streams.proofs.unmix.unshifted.Goals as goal

pub returns : goal.returns
unfolding unshift
returns c = search rules
