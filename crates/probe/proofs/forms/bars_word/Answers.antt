-- There is room for one bar more, and the slice ends after 16. Assumes nothing.
use Rattle.std.proofs.Common.{◌≡◌, ◌∙◌, ap, add-one, arith}
use Rattle.std.proofs.lemmas.Grind.{common_steps}
use Rattle.probe.specs.Forms.{bars_word_of}
use Rattle.probe.proofs.FormsLaws.{bits_lt, bars_word_room}
use Rattle.probe.proofs.forms.bars_word.Goals as goal

pub overflow_mul-w : goal.overflow_mul-w
overflow_mul-w c = grind (arith, bars_word_room)

pub overflow_add-w : goal.overflow_add-w
overflow_add-w c = grind (arith, bars_word_room, bits_lt)

pub loop-p-preserved : goal.loop-p-preserved
unfolding bars_word_of
loop-p-preserved c = rw (add-one, ← c.loop-p.invariant) (grind (arith, common_steps))

pub returns : goal.returns
returns c =
    let e : c.loop-p.p-index ≡ 16 = omega arith in
    c.loop-p.invariant ∙ ap (bars_word_of c.args.plays.now c.args.from) e
