-- The sum so far has the events, each below 2^34, before the index. Assumes nothing.
use Rattle.std.proofs.Common.{◌≡◌, ◌*◌, ◌^◌, ◌≤◌, take}
use Rattle.probe.specs.Songs.{hits_sum}
use Rattle.probe.proofs.songs.hits_sum.Given as goal

abbrev pub invariant-loop-h : goal.invariant-loop-h
invariant-loop-h l = (l.w ≤ 2 ^ 34 * l.h-index) × (l.w ≡ hits_sum (take l.h-index l.hits))
