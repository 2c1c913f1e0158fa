-- At the end every place has its word. Assumes nothing.
use Rattle.std.proofs.Common.{length, arith, rules}
use Rattle.probe.specs.Scores.{word_of}
use Rattle.probe.proofs.FillLaws.{filled}
use Rattle.probe.proofs.scores.fill.Goals as goal

pub returns : goal.returns
returns c =
    filled (word_of c.args.song) 0 c.loop-i.out (length c.args.out.now) (search rules)
    (λ k h. rw (c.unwrap_or-told.ensures, c.no_song.ensures, c.outcome_number-refusal.ensures) at (c.loop-i.invariant k (omega arith)))
