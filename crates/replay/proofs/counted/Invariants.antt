-- No more lines were read than turns made, nor agree. Assumes nothing.
use Rattle.std.proofs.Common.{◌≤◌}
use Rattle.replay.proofs.counted.Given as goal

abbrev pub invariant-loop : goal.invariant-loop
invariant-loop g l = (l.count.lines ≤ l.counter) × (l.count.agree ≤ l.counter)
