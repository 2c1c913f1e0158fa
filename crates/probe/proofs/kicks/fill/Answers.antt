-- At the end every place has its word. Assumes nothing.
use Rattle.std.proofs.Common.{length, arith, rules}
use Rattle.laws.specs.Lists.{pad}
use Rattle.probe.specs.Kicks.{kicks_word_of}
use Rattle.probe.proofs.FillLaws.{filled}
use Rattle.probe.proofs.kicks.fill.Goals as goal

pub returns : goal.returns
unfolding pad
returns c =
    filled (kicks_word_of c.args.a) 0 c.loop-i.out (length c.args.out.now) (search rules)
    (λ k h. rw (c.unwrap_or-times.ensures, c.outcome_number-refusal.ensures) at (c.loop-i.invariant k (omega arith)))
