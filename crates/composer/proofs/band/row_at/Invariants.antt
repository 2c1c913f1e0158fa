-- What is left to place lies in the bands from row i on, and the loop stops at the first that holds it. Assumes nothing.
use Rattle.std.proofs.Common.{◌≡◌, ◌+◌, drop}
use Rattle.composer.specs.Band.{row_at_of}
use Rattle.composer.proofs.band.row_at.Given as goal

abbrev pub invariant-loop-i : goal.invariant-loop-i
invariant-loop-i l = row_at_of l.weights l.at ≡ l.i + row_at_of (drop l.i l.weights) l.left
