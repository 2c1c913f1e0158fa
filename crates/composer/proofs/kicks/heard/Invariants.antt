-- The kicks among the hits so far stand before the padding. Assumes nothing.
use Rattle.std.proofs.Common.{◌≡◌, ◌≤◌, length, take}
use Rattle.laws.specs.Lists.{pad}
use Rattle.composer.specs.Note.{zero32}
use Rattle.composer.specs.Kicks.{times_of}
use Rattle.composer.proofs.kicks.heard.Given as goal

abbrev pub invariant-loop-hit : goal.invariant-loop-hit
invariant-loop-hit l = record {
  few : l.count ≤ l.hit-index;
  count : l.count ≡ length (times_of (take l.hit-index l.hits));
  times : l.at ≡ pad zero32 98 (times_of (take l.hit-index l.hits));
}
