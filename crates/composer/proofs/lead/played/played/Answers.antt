-- As many notes are played as the loop has passed. Assumes nothing.
use Rattle.std.proofs.Common.{◌≡◌, refl, length, get_or, arith}
use lib.Seq.{get_or-take}
use Rattle.composer.specs.Lead.Melody.{past_lead}
use Rattle.composer.specs.Lead.Played.{play_to}
use Rattle.composer.proofs.lead.PlayedLaws.{lane_more, played_all}
use Rattle.composer.proofs.lead.played.played.Goals as goal

pub loop-i-init : goal.loop-i-init
unfolding play_to
loop-i-init c = refl

pub loop-i-preserved : goal.loop-i-preserved
loop-i-preserved c =
    let l = c.loop-i in
    let m = c.args.m in
    let all : length c.used-x-items.result.now ≡ m.notes.n = c.used-x-items.ensures.size c.requires in
    let x : get_or c.used-x-items.result.now l.i past_lead ≡ get_or m.notes.at l.i past_lead = rw c.used-x-items.ensures.value (get_or-take m.notes.n m.notes.at l.i past_lead (omega (arith, all))) in
    lane_more m c.args.beat_s c.args.dur m.line.stream l.notes l.stream l.i _ c.play-p.result l.invariant x c.play-p.ensures

pub returns : goal.returns
returns c =
    let l = c.loop-i in
    let m = c.args.m in
    let all : length c.used-x-items.result.now ≡ m.notes.n = c.used-x-items.ensures.size c.requires in
    played_all c.args.m c.args.beat_s c.args.dur l.notes l.stream l.i l.invariant (omega (arith, all))
