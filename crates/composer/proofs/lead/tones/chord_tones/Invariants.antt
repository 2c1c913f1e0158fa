-- The arrays hold the chord's of the notes so far, and those of them that are not its root. Assumes nothing.
use Rattle.std.proofs.Common.{Bool, ◌&&◌, List, ℕ, ◌≤◌, take}
use Rattle.laws.specs.Lists.{filter_of}
use Rattle.composer.specs.Lead.Tones.{in_chord_of, is_other}
use Rattle.laws.proofs.Written.{Written}
use Rattle.composer.proofs.lead.tones.chord_tones.Given as goal

abbrev pub is_upper : List ℕ → ℕ → ℕ → Bool
is_upper chord root x = in_chord_of chord x && is_other root x

abbrev pub invariant-loop-x : goal.invariant-loop-x
invariant-loop-x l = record {
  few : l.n ≤ l.x-index;
  fewer : l.m ≤ l.x-index;
  tones : Written 0 20 (filter_of (in_chord_of l.fn.chord.notes) (take l.x-index l.x-items)) l.at l.n;
  rootless : Written 0 20 (filter_of (is_upper l.fn.chord.notes l.root) (take l.x-index l.x-items)) l.others l.m;
}
