-- A chance of 0.5, whose bits the definition has. Assumes nothing.
use Rattle.std.proofs.Common.{rules}
use Rattle.streams.specs.Draw.{coin_of}
use Rattle.streams.proofs.draw.coin.Goals as goal

pub returns : goal.returns
unfolding coin_of
returns c = search rules
