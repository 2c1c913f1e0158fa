-- The sum so far has the bars, each below 2^8, before the index. Assumes nothing.
use Rattle.std.proofs.Common.{◌≡◌, ◌*◌, ◌^◌, ◌≤◌, take}
use Rattle.probe.specs.Songs.{bits_sum}
use Rattle.probe.proofs.songs.bits_sum.Given as goal

abbrev pub invariant-loop-p : goal.invariant-loop-p
invariant-loop-p l = (l.w ≤ 2 ^ 8 * l.p-index) × (l.w ≡ bits_sum (take l.p-index l.plays))
