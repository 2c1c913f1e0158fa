-- The sum so far has the chords, each below 2^10, before the index. Assumes nothing.
use Rattle.std.proofs.Common.{◌≡◌, ◌*◌, ◌^◌, ◌≤◌, take}
use Rattle.probe.specs.Songs.{chords_sum}
use Rattle.probe.proofs.songs.chords_sum.Given as goal

abbrev pub invariant-loop-c : goal.invariant-loop-c
invariant-loop-c l = (l.w ≤ 2 ^ 10 * l.c-index) × (l.w ≡ chords_sum (take l.c-index l.bars))
