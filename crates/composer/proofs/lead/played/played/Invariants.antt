-- As many notes are played as the loop has passed. Assumes nothing.
use Rattle.std.proofs.Common.{◌≡◌}
use Rattle.composer.specs.Lead.Played.{play_to, silence_of}
use Rattle.composer.proofs.lead.PlayedLaws.{lane_with}
use Rattle.composer.proofs.lead.played.played.Given as goal

abbrev pub invariant-loop-i : goal.invariant-loop-i
invariant-loop-i l = lane_with l.notes l.stream l.i ≡ play_to l.fn.m l.beat_s l.dur (silence_of l.fn.m.line.stream) l.i
