-- The classes so far are marked. Assumes nothing.
use Rattle.std.proofs.Common.{◌∙◌, ap, ◌<◌, Bool, true, List, get_or, set, arith}
use Rattle.std.proofs.lemmas.Grind.{common_steps}
use Rattle.composer.specs.Lead.Scale.{pcs_of}
use Rattle.composer.proofs.lead.ScaleLaws.{pool_none, mark_on}
use Rattle.composer.proofs.lead.scale.pool_of.Goals as goal

pub loop-pc-init : goal.loop-pc-init
loop-pc-init c = pool_none

pub loop-pc-preserved : goal.loop-pc-preserved
loop-pc-preserved c =
    let l = c.loop-pc in
    let pcs = pcs_of c.args.scale in
    let low : get_or pcs l.pc-index 0 < 12 = grind (arith, common_steps) in
    ap (λ (ys : List Bool). set ys (get_or pcs l.pc-index 0) true) l.invariant ∙ mark_on pcs l.pc-index (omega arith) low
