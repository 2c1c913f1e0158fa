-- The draw and the counter are the callees' results. Assumes nothing.
use Rattle.std.proofs.Common.{rules}
use Rattle.streams.specs.Stream.{next_u64_of, word_at, after}
use Rattle.streams.proofs.stream.NoiseStream.next_u64.Goals as goal

pub returns : goal.returns
unfolding next_u64_of word_at after
returns c = search rules
