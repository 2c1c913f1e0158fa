-- The code's two products are the definition's. Assumes nothing.
use Rattle.streams.specs.Mix.{splitmix64_of}
use Rattle.streams.proofs.mix.splitmix64.Goals as goal

pub returns : goal.returns
unfolding splitmix64_of
returns c = rw (c.wrapping_mul_u64-b.ensures, c.wrapping_mul_u64-a.ensures)
