-- A tonal harmony is ready for a melody, and the callees draw in the definition's order. Assumes nothing.
use Rattle.composer.specs.Lead.{sung_of, lead_of}
use Rattle.composer.specs.Lead.Sound.{Ready}
use Rattle.composer.proofs.lead.GroundLaws.{scale_classes, ready}
use Rattle.composer.proofs.lead.MelodyLaws.{melody_good}
use Rattle.composer.proofs.lead.lead.Goals as goal

pub pool_of-pool-requires : goal.pool_of-pool-requires
pool_of-pool-requires c = scale_classes c.args.h c.requires

pub melody-m-requires : goal.melody-m-requires
melody-m-requires c =
    let style = c.lead_style-l in
    let rhythm = c.rhythm_of-rhythm in
    rw (c.pool_of-pool.ensures, style.ensures) (ready c.args.h c.requires c.args.style rhythm.result.value (λ k b. rhythm.ensures.by_index k))

pub played-requires : goal.played-requires
played-requires c =
    let pool = c.pool_of-pool in
    let style = c.lead_style-l in
    let rhythm = c.rhythm_of-rhythm in
    let r : Ready rhythm.result.value c.args.h.bars pool.result style.result = rw (pool.ensures, style.ensures) (ready c.args.h c.requires c.args.style rhythm.result.value (λ k b. rhythm.ensures.by_index k)) in
    rw c.melody-m.ensures (melody_good rhythm.result.value c.args.h.bars pool.result style.result r rhythm.result.stream).1

pub returns : goal.returns
unfolding lead_of sung_of
returns c =
    rw (c.played.ensures, c.melody-m.ensures, c.pool_of-pool.ensures, c.rhythm_of-rhythm.ensures.value, c.lead_style-l.ensures)
