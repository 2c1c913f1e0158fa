-- A turn makes one draw more and puts it at its place; at the end every place has its draw. Assumes nothing.
use Rattle.std.proofs.Common.{◌≡◌, ℕ, length, sym, ap, ◌∙◌, below_more, arith, rules}
use Rattle.std.proofs.lemmas.Grind.{common_steps}
use Rattle.streams.specs.declared.stream.NoiseStream.{NoiseStream}
use Rattle.streams.specs.declared.stream.Draw.{Draw}
use Rattle.streams.proofs.StreamLaws.{after_none}
use Rattle.probe.specs.Draws.{stream_at, drawn_of, draw_of}
use Rattle.probe.proofs.DrawsLaws.{drawn_on_lem}
use Rattle.probe.proofs.FillLaws.{filled}
use Rattle.probe.proofs.draws.fill.Goals as goal

pub loop-place-init : goal.loop-place-init
loop-place-init c = (sym (after_none (stream_at c.args.seed c.args.counter) (omega arith)), λ k h. absurd (omega arith))

pub loop-place-preserved : goal.loop-place-preserved
loop-place-preserved c =
    let l = c.loop-place in
    let s = stream_at c.args.seed c.args.counter in
    let e = c.drawn-d.ensures ∙ ap (drawn_of c.args.kind) l.invariant.0 in
    let v = ap (λ (d : Draw ℕ). d.value) e in
    (ap (λ (d : Draw ℕ). d.stream) e ∙ drawn_on_lem c.args.kind s l.place-index, below_more _ _ (λ k h. grind (arith, common_steps, l.invariant.1 k)) (grind (arith, common_steps)))

pub returns : goal.returns
returns c =
    let l = c.loop-place in
    let s = stream_at c.args.seed c.args.counter in
    let n = length c.args.out.now in
    let e : l.place-index ≡ n = omega arith in
    record {
      draws = filled (draw_of c.args.kind s) 0 l.out n (search rules) (λ k h. l.invariant.1 k (omega arith));
      counter = ap (λ (t : NoiseStream). t.counter) (rw e at l.invariant.0);
    }
