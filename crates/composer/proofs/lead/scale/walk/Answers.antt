-- What is left to walk from the note reached is the whole walk. Assumes nothing.
use Rattle.std.proofs.Common.{◌≡◌, sym, ◌∙◌, ◌+◌, ◌-◌, arith}
use Rattle.composer.proofs.lead.ScaleLaws.{walk_turn, walk_edge, walk_done, moved_in}
use Rattle.composer.proofs.lead.scale.walk.Goals as goal
use Rattle.composer.proofs.lead.scale.walk.Goals.{then-has, else-has}

pub loop-preserved : goal.loop-preserved
loop-preserved c =
    let l = c.loop in
    let left = c.args.space - l.counter in
    let one_less : c.args.space - (l.counter + 1) ≡ left - 1 = omega arith in
    let m = moved_in c.args.up l.n left c.moved-n.ensures (omega arith) l.invariant.low l.invariant.high in
    let on = walk_turn c.args.pool.now c.args.up l.n left l.due (omega arith) (omega arith) c.moved-n.ensures c.has.ensures in
    rw one_less (elim c.if-has.branch [
      | then-has w ↦ record { low = m.0; high = m.1; rest = l.invariant.rest ∙ on (rw w.if-has.true w.due-is) }
      | else-has w ↦ record { low = m.0; high = m.1; rest = l.invariant.rest ∙ on (rw w.if-has.false w.due-is) }
    ])

pub returns-then-due-eq0 : goal.returns-then-due-eq0
returns-then-due-eq0 c = sym (c.loop.invariant.rest ∙ rw c.if-due-eq0.true (walk_done _ _ _ _))

pub returns-after-loop : goal.returns-after-loop
returns-after-loop c =
    let e : c.args.space - c.loop.counter ≡ 0 = omega arith in
    sym (c.loop.invariant.rest ∙ rw e (walk_edge _ _ _ _))
