-- The test is the definition's, on the truncated value. Assumes nothing.
use mathlib.Core.Path.{sym}
use Rattle.laws.proofs.Rounding.{round_is}
use Rattle.composer.proofs.tempo.rounded.Goals as goal

pub returns-then-d : goal.returns-then-d
returns-then-d c =
    let t = c.truncated-t in
    sym (round_is c.args.x t.result _ t.ensures c.if-d.true)

pub returns-else-d : goal.returns-else-d
returns-else-d c =
    let t = c.truncated-t in
    sym (round_is c.args.x t.result _ t.ensures c.if-d.false)
