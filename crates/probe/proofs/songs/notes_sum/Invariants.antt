-- The sum so far has the events, each below 2^34, before the index. Assumes nothing.
use Rattle.std.proofs.Common.{◌≡◌, ◌*◌, ◌^◌, ◌≤◌, take}
use Rattle.probe.specs.Songs.{notes_sum}
use Rattle.probe.proofs.songs.notes_sum.Given as goal

abbrev pub invariant-loop-n : goal.invariant-loop-n
invariant-loop-n l = (l.w ≤ 2 ^ 34 * l.n-index) × (l.w ≡ notes_sum (take l.n-index l.notes))
