-- Each loop lays what its definition lays, and a bar adds at most 13 hits. Assumes nothing.
use mathlib.Core.Path.{◌≡◌, refl, ap, ◌∙◌}
use Prim.Native.Nat.{◌+◌, ◌≤◌}
use native.Mathlib.Numerals.{add-one}
use native.Mathlib.Omega.{arith}
use Rattle.composer.specs.Drums.{no_hits, bars_to, lay_groove_of}
use Rattle.composer.specs.Drums.Kit.{DrumLane, push_kick_of, push_snare_of, snares_to, push_hat_of, lay_hat_of, hats_to}
use Rattle.composer.proofs.drums.KitLaws.{kick_few, kicks_to, bar_laid, bars_most}
use Rattle.composer.proofs.drums.lay_groove.Invariants.{lane}
use Rattle.composer.proofs.drums.lay_groove.Goals as goal

pub loop-number-init : goal.loop-number-init
unfolding bars_to
loop-number-init c = (omega arith, refl)

pub loop-k-init : goal.loop-k-init
unfolding kicks_to
loop-k-init c =
    let l = c.loop-number in
    let few : c.kick_count-kicks.result ≤ 3 = rw c.kick_count-kicks.ensures (kick_few c.args.g c.bar_of-bar.result) in
    let room : l.count + 13 ≤ 98 = omega (arith, ap (λ (m : DrumLane). m.value.n) l.invariant.1, bars_most (no_hits c.args.s) c.args.g c.args.beat_s c.requires l.number) in
    (omega arith, few, room, omega arith, refl)

pub loop-k-preserved : goal.loop-k-preserved
unfolding kicks_to push_kick_of
loop-k-preserved c =
    let l = c.loop-k in
    (omega arith, omega arith, omega arith, omega arith, rw (add-one l.k, ← l.invariant.4, c.kick_hit-d.ensures, c.kick_of.ensures))

pub loop-i-init : goal.loop-i-init
unfolding snares_to
loop-i-init c = (omega arith, omega arith, omega arith, omega arith, refl)

pub loop-i-preserved : goal.loop-i-preserved
unfolding snares_to push_snare_of
loop-i-preserved c =
    let l = c.loop-i in
    (omega arith, omega arith, omega arith, omega arith, rw (add-one l.i, ← l.invariant.4, c.snare_hit-d.ensures))

pub loop-e-init : goal.loop-e-init
unfolding hats_to
loop-e-init c = (omega arith, omega arith, omega arith, refl)

pub loop-e-preserved-then-out_of_play : goal.loop-e-preserved-then-out_of_play
unfolding hats_to lay_hat_of
loop-e-preserved-then-out_of_play c =
    let l = c.loop-e in
    (omega arith, omega arith, omega arith, rw (add-one l.e, ← l.invariant.3, c.if-out_of_play.true))

pub loop-e-preserved-then-skip : goal.loop-e-preserved-then-skip
unfolding hats_to lay_hat_of
loop-e-preserved-then-skip c =
    let l = c.loop-e in
    let e = (rw c.chance-skip.ensures at c.if-skip.true) in
    (omega arith, omega arith, omega arith, rw (add-one l.e, ← l.invariant.3, c.if-out_of_play.false, e, c.chance-skip.ensures))

pub loop-e-preserved : goal.loop-e-preserved
unfolding hats_to lay_hat_of push_hat_of
loop-e-preserved c =
    let l = c.loop-e in
    let e = (rw c.chance-skip.ensures at c.if-skip.false) in
    (omega arith, omega arith, omega arith, rw (add-one l.e, ← l.invariant.3, c.if-out_of_play.false, e, c.hat_hit-d.ensures, c.chance-skip.ensures))

pub loop-number-preserved : goal.loop-number-preserved
unfolding bars_to
loop-number-preserved c =
    let l4 = c.loop-e in
    let l3 = c.loop-i in
    let l2 = c.loop-k in
    let l = c.loop-number in
    let b = c.bar_of-bar in
    let last-kick : l2.k ≡ c.kick_count-kicks.result = omega arith in
    let last-snare : l3.i ≡ c.args.g.snares.n = omega arith in
    let last-hat : l4.e ≡ 8 = omega arith in
    let kicks = l2.invariant.4 ∙ ap (kicks_to (lane l.hits l.count c.draw-w.result.stream) c.args.g b.result) last-kick in
    let snares = l3.invariant.4 ∙ ap (snares_to (lane l2.hits l2.count l2.stream) c.args.g b.result) last-snare in
    let hats = l4.invariant.3 ∙ ap (hats_to (lane l3.hits l3.count l3.stream) c.args.g b.result) last-hat in (
      omega arith,
      rw (add-one l.number, ← l.invariant.1)
          (bar_laid (lane l.hits l.count l.stream) c.args.g c.args.beat_s l.number c.draw-w.result b.result c.kick_count-kicks.result
          (lane l2.hits l2.count l2.stream) (lane l3.hits l3.count l3.stream) (lane l4.hits l4.count l4.stream)
          c.draw-w.ensures b.ensures c.kick_count-kicks.ensures kicks snares hats),
    )

pub returns : goal.returns
unfolding lay_groove_of
returns c =
    let l = c.loop-number in
    let e : l.number ≡ 8 = omega arith in
    l.invariant.1 ∙ ap (bars_to (no_hits c.args.s) c.args.g c.args.beat_s) e
