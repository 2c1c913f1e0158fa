-- The array holds the notes below x, at most one for each semitone passed. Assumes nothing.
use Rattle.std.proofs.Common.{◌-◌, ◌≤◌}
use Rattle.composer.specs.Lead.Tones.{has_class, kept}
use Rattle.laws.proofs.Written.{Written}
use Rattle.composer.proofs.lead.tones.scale_notes.Given as goal

abbrev pub invariant-loop-x : goal.invariant-loop-x
invariant-loop-x l = record {
  few : l.n ≤ l.x - l.lo;
  written : Written 0 20 (kept (has_class l.pool) l.lo (l.x - l.lo)) l.at l.n;
}
