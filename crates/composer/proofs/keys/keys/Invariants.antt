-- After b bars the lane is the definition's, with at most 16 notes for each; after e eighths of a bar, with at most two for each. Assumes nothing.
use mathlib.Core.Path.{◌≡◌}
use Prim.Native.Nat.{◌+◌, ◌*◌, ◌≤◌}
use Rattle.composer.specs.Keys.{bar_to, bars_to}
use Rattle.composer.proofs.keys.StrokeLaws.{lane_of}
use Rattle.composer.proofs.keys.keys.Given as goal

abbrev pub invariant-loop-e : goal.invariant-loop-e
invariant-loop-e l =
    (l.e ≤ 8) × (l.count ≤ l.initial.count + 2 * l.e) × (lane_of l.notes l.count l.stream ≡ bar_to (lane_of l.initial.notes l.initial.count l.initial.stream) l.chord l.k l.density.value l.b l.beat_s l.e)

abbrev pub invariant-loop-b : goal.invariant-loop-b
invariant-loop-b l =
    (l.b ≤ 8) × (l.count ≤ 16 * l.b) × (lane_of l.notes l.count l.stream ≡ bars_to (lane_of l.initial.notes l.initial.count l.initial.stream) l.h.bars l.k l.density.value l.beat_s l.b)
