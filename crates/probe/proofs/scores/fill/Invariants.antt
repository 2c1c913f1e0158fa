-- Each place before the index has its word. Assumes nothing.
use Rattle.std.proofs.Common.{◌≡◌, ℕ, ◌<◌, get_or}
use Rattle.probe.specs.Scores.{song_word_of}
use Rattle.probe.proofs.scores.fill.Given as goal

abbrev pub invariant-loop-i : goal.invariant-loop-i
invariant-loop-i l = (k : ℕ) → k < l.i → get_or l.out k 0 ≡ song_word_of l.refusal l.told k
