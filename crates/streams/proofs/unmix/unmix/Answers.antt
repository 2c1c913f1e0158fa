-- Each step backwards is the definition's. Assumes nothing.
use Rattle.streams.specs.Unmix.{unmix_of}
use Rattle.streams.proofs.unmix.unmix.Goals as goal

pub returns : goal.returns
unfolding unmix_of
returns c =
    rw (c.unshifted-3.ensures, c.wrapping_mul_u64-a.ensures, c.unshifted-2.ensures, c.wrapping_mul_u64-b.ensures, c.unshifted.ensures)
