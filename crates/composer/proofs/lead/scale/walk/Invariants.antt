-- What is left to walk from the note reached is the whole walk. Assumes nothing.
use Rattle.std.proofs.Common.{◌≡◌, ◌+◌, ◌-◌, ◌<◌}
use Rattle.composer.specs.Lead.Scale.{walk_of}
use Rattle.composer.proofs.lead.scale.walk.Given as goal

abbrev pub invariant-loop : goal.invariant-loop
invariant-loop l = record {
  low : l.space - l.counter < l.n;
  high : l.n + (l.space - l.counter) < 256;
  rest : walk_of l.pool l.up l.note l.space l.steps ≡ walk_of l.pool l.up l.n (l.space - l.counter) l.due;
}
