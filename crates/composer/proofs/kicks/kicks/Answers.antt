-- The count decides; the times of the kicks are sorted where they stand. Assumes nothing.
use borrow.Author.Tests.{le-leb, lt-leb}
use Rattle.composer.specs.Kicks.{times_of, kicks_in, kicks_of}
use Rattle.composer.proofs.KicksLaws.{times_sorted}
use Rattle.composer.proofs.kicks.kicks.Goals as goal

pub returns-then-score-gt98 : goal.returns-then-score-gt98
unfolding kicks_of
returns-then-score-gt98 c = rw (lt-leb _ _ c.if-score-gt98.true)

pub returns : goal.returns
unfolding kicks_of kicks_in
returns c =
    let a = c.args.score in
    rw (le-leb a.hits.n 98 c.if-score-gt98.false, ← c.used.ensures.value, times_sorted (times_of c.used.result.now) c.heard-t.result c.sort_front.new.a c.heard-t.ensures.value c.sort_front.ensures)
