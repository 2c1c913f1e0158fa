-- The first beat and those of the loop so far are thinned. Assumes nothing.
use Rattle.std.proofs.Common.{◌+◌, ◌≤◌, take}
use Rattle.std.specs.Float.{nan}
use Rattle.composer.specs.Note.{zero32}
use Rattle.composer.specs.Lead.Beats.{thin_of}
use Rattle.laws.proofs.Written.{Written}
use Rattle.composer.proofs.lead.beats.thinned.Given as goal

abbrev pub invariant-loop-x : goal.invariant-loop-x
invariant-loop-x l = record {
  some : 1 ≤ l.m;
  few : l.m ≤ l.x-index + 1;
  kept : Written zero32 7 (thin_of nan (take (l.x-index + 1) l.a)) l.at l.m;
}
