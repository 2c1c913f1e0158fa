-- The loop keeps the lowest rank, which is the nearest note's. Assumes nothing.
use Rattle.std.proofs.Common.{sym, ℕ, min, arith}
use Rattle.std.proofs.lemmas.List.{take_all}
use Rattle.std.proofs.lemmas.List.Sums.{fold_more}
use Rattle.composer.specs.Lead.Tones.{rank_of}
use Rattle.composer.proofs.lead.TonesLaws.{nearest_by_rank}
use Rattle.composer.proofs.lead.tones.nearest.Goals as goal

pub loop-x-preserved : goal.loop-x-preserved
loop-x-preserved c =
    let l = c.loop-x in
    let t = c.args.target in
    rw (c.min-best.ensures, c.rank.ensures, l.invariant) (sym (fold_more (λ (b x : ℕ). min b (rank_of t x)) 65535 c.args.notes.now l.x-index 0 (omega arith)))

pub returns : goal.returns
returns c =
    let l = c.loop-x in
    let xs = c.args.notes.now in
    let t = c.args.target in
    rw (l.invariant, take_all l.x-index xs c.loop-x-test.false) (nearest_by_rank t xs (omega arith) (omega arith) (λ i h. omega (arith, c.type_inv.notes i)))
