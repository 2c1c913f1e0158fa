-- The stream has made as many draws as the index says, and each place before it has its draw. Assumes nothing.
use Rattle.std.proofs.Common.{◌≡◌, ℕ, ◌<◌, get_or}
use Rattle.streams.specs.Stream.{after}
use Rattle.probe.specs.Draws.{stream_at, draw_of}
use Rattle.probe.proofs.draws.fill.Given as goal

abbrev pub invariant-loop-place : goal.invariant-loop-place
invariant-loop-place l =
    let s = stream_at l.seed l.counter in
    (l.s ≡ after s l.place-index) × ((k : ℕ) → k < l.place-index → get_or l.out k 0 ≡ draw_of l.kind s k)
