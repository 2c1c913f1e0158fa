-- No seed before turn i fits. Assumes nothing.
use Rattle.lessons.specs.Inner.Search.{SuitsIn}
use Rattle.lessons.specs.Lesson.{NoneFits}
use Rattle.lessons.proofs.lesson.search.Given as goal

abbrev pub invariant-loop-i : goal.invariant-loop-i
invariant-loop-i l = NoneFits (SuitsIn l.style l.wishes) l.start l.i
