-- The top 24 bits of a draw are an f32 exactly, and the quotient is the definition's. Assumes nothing.
use Rattle.std.proofs.Common.{rules}
use Rattle.streams.specs.Stream.{unit_of, unit_at, unit_by, next_u64_of}
use Rattle.streams.proofs.stream.NoiseStream.unit.Goals as goal

pub returns : goal.returns
unfolding unit_of unit_at unit_by next_u64_of
returns c = search rules
