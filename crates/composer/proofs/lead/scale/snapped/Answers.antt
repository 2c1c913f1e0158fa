-- What is left to find from a distance and a side on is the answer; the first hit leaves both loops. Assumes nothing.
use Rattle.std.proofs.Common.{◌≡◌, refl, ap, sym, ◌∙◌, ◌-◌, arith}
use Rattle.composer.specs.Lead.Scale.{fits_of, snap_from, snapped_of}
use Rattle.composer.proofs.lead.ScaleLaws.{snap_miss, snap_hit}
use Rattle.composer.proofs.lead.scale.snapped.Goals as goal

pub search-init : goal.search-init
unfolding snapped_of
search-init c = record { out = refl; rest = refl }

pub loop-side-preserved : goal.loop-side-preserved
loop-side-preserved c =
    let l = c.loop-side in
    let f = ap (fits_of c.args.pool.now c.args.lo c.args.hi) (sym c.candidate-x.ensures) ∙ sym c.fits.ensures ∙ c.if-fits.false in
    record { out = l.invariant.out; rest = l.invariant.rest ∙ snap_miss c.args.pool.now c.args.lo c.args.hi c.args.n c.search.d (omega arith) l.side (omega arith) f }

pub search-preserved : goal.search-preserved
search-preserved c =
    let l = c.loop-side in
    let e : l.side ≡ 2 = omega arith in
    record { out = l.invariant.out; rest = (rw e at l.invariant.rest) }

pub returns-after-search : goal.returns-after-search
unfolding snap_from
returns-after-search c =
    let l = c.search in
    let e : 7 - l.d ≡ 0 = omega arith in
    l.invariant.out ∙ sym (rw e at l.invariant.rest)

pub returns-then-fits : goal.returns-then-fits
returns-then-fits c =
    let l = c.loop-side in
    let f = ap (fits_of c.args.pool.now c.args.lo c.args.hi) (sym c.candidate-x.ensures) ∙ sym c.fits.ensures ∙ c.if-fits.true in
    c.candidate-x.ensures ∙ snap_hit c.args.pool.now c.args.lo c.args.hi c.args.n c.search.d (omega arith) l.side (omega arith) f ∙ sym l.invariant.rest
