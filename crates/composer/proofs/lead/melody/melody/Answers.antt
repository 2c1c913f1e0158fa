-- After k turns k bars are sung, and after i more turns i notes of the next; what the turns ask is what a good melody so far gives. Assumes nothing.
use mathlib.Core.Path.{◌≡◌, refl, sym, ◌∙◌}
use native.Mathlib.Omega.{arith}
use lib.ListN.{get_or, replicate}
use Rattle.composer.specs.Chord.{past_chord}
use Rattle.composer.specs.Lead.Beats.{past_beats}
use Rattle.composer.specs.Lead.Ground.{ground_of}
use Rattle.composer.specs.Lead.Melody.{no_lead, bar_to, nothing_sung, bars_to, melody_of}
use Rattle.composer.proofs.lead.MelodyLaws.{bar_more, bars_more, note_asks}
use Rattle.composer.proofs.lead.TonesLaws.{scale_few, ground_from_lem}
use Rattle.composer.proofs.lead.melody.melody.Invariants.{sung_with}
use Rattle.composer.proofs.lead.melody.melody.Goals as goal

pub loop-k-init : goal.loop-k-init
unfolding bars_to
loop-k-init c = (omega arith, omega arith, refl)

-- a bar with no beat sings nothing
pub loop-k-preserved-then-n-eq0 : goal.loop-k-preserved-then-n-eq0
unfolding bar_to
loop-k-preserved-then-n-eq0 c =
    let l = c.loop-k in
    let opened = c.open_line-line.result in
    let sung = sung_with l.notes l.count l.line in (
      omega arith,
      omega arith,
      bars_more c.args.beats c.args.bars c.args.pool.now c.args.style c.requires (sung_with (replicate 56 no_lead) 0 opened) sung sung (ground_of c.args.style (get_or c.args.bars l.k past_chord) c.args.pool.now) l.k 0 l.invariant.2 refl refl (sym c.if-n-eq0.true),
    )

pub ground_of-g-requires : goal.ground_of-g-requires
ground_of-g-requires c =
    rw c.scale_notes-sung.ensures (scale_few c.args.pool.now c.args.style.lo c.args.style.hi c.requires.wide)

pub loop-i-init : goal.loop-i-init
unfolding bar_to
loop-i-init c =
    let l = c.loop-k in
    let few = c.requires.few l.k (omega arith) in
    (omega arith, few, omega arith, omega arith, refl)

pub step-t-requires : goal.step-t-requires
unfolding nothing_sung
step-t-requires c =
    let r = c.requires in
    let start = c.start-first in
    let window = c.scale_notes-sung in
    let opened = c.open_line-line in
    let l = c.loop-k in
    let g = c.ground_of-g in
    let l2 = c.loop-i in
    let ground = g.ensures ∙ ground_from_lem c.args.style (get_or c.args.bars l.k past_chord) c.args.pool.now window.result window.ensures in
    let asks = note_asks c.args.beats c.args.bars c.args.pool.now c.args.style r c.args.s start.result (sung_with (replicate 56 no_lead) 0 opened.result) (sung_with l.notes l.count l.line) (sung_with l2.notes l2.count l2.line) g.result l.k l2.i start.ensures (rw opened.ensures) l.invariant.2 ground l2.invariant.4 (omega arith) (omega arith) in
    record { sound = asks.0; fit = rw c.opening-first.ensures asks.1.line }

pub loop-i-preserved : goal.loop-i-preserved
loop-i-preserved c =
    let l0 = c.loop-k in
    let k = c.loop-k.k in
    let g = c.ground_of-g.result in
    let l = c.loop-i in
    let place = c.place_of-place in
    let first = c.opening-first in
    let t = c.step-t in (
      omega arith,
      omega arith,
      omega arith,
      omega arith,
      bar_more c.args.pool.now g k (get_or c.args.beats k past_beats) (sung_with l0.notes l0.count l0.line) l.i l.notes l.count l.line place.result first.result t.result l.invariant.4 place.ensures first.ensures t.ensures,
    )

pub loop-k-preserved : goal.loop-k-preserved
loop-k-preserved c =
    let window = c.scale_notes-sung in
    let opened = c.open_line-line.result in
    let l = c.loop-k in
    let g = c.ground_of-g in
    let l2 = c.loop-i in
    let ground = g.ensures ∙ ground_from_lem c.args.style (get_or c.args.bars l.k past_chord) c.args.pool.now window.result window.ensures in (
      omega arith,
      omega arith,
      bars_more c.args.beats c.args.bars c.args.pool.now c.args.style c.requires (sung_with (replicate 56 no_lead) 0 opened) (sung_with l.notes l.count l.line) (sung_with l2.notes l2.count l2.line) g.result l.k l2.i l.invariant.2 ground l2.invariant.4 (omega arith),
    )

pub returns : goal.returns
unfolding melody_of nothing_sung
returns c =
    let l = c.loop-k in
    let e : l.k ≡ 8 = omega arith in
    rw (← c.start-first.ensures, ← c.open_line-line.ensures, ← e) l.invariant.2
