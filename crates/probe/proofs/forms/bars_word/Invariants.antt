-- The word has the bars before the index, and room for one more. Assumes nothing.
use Rattle.std.proofs.Common.{◌≡◌}
use Rattle.probe.specs.Forms.{bars_word_of}
use Rattle.probe.proofs.forms.bars_word.Given as goal

abbrev pub invariant-loop-p : goal.invariant-loop-p
invariant-loop-p l = l.w ≡ bars_word_of l.plays l.from l.p-index
