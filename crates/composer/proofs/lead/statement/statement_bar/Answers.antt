-- The rest decides; the first loop tells which slots sound, and the second pushes those. Assumes nothing.
use Rattle.std.proofs.Common.{◌≡◌, ap, subst, ◌∙◌, false, ℕ, get_or, arith, rules}
use mathlib.Core.List.{foldl}
use Rattle.laws.specs.Lists.{pad}
use Rattle.laws.proofs.Bools.{bit_few}
use Rattle.composer.specs.Lead.Push.{push_of, push_on_of}
use Rattle.composer.specs.Lead.Statement.{empty_from, statement_bar_of}
use Rattle.composer.proofs.lead.StatementLaws.{kept_to, Sounding, sounding_none, sounding_on, Held, held_none, held_turn, statement_done}
use Rattle.composer.proofs.lead.statement.statement_bar.Goals as goal

pub returns-then-rests-clause-value : goal.returns-then-rests-clause-value
unfolding statement_bar_of pad
returns-then-rests-clause-value c = search rules

pub loop-sound-init : goal.loop-sound-init
loop-sound-init c = sounding_none _ _ _

pub loop-sound-preserved : goal.loop-sound-preserved
loop-sound-preserved c =
    let l = c.loop-sound in
    sounding_on _ _ l.sound-items l.stream l.sound-index c.chance-c.result (omega arith) (omega arith) l.invariant c.chance-c.ensures

pub loop-i-init : goal.loop-i-init
unfolding kept_to
loop-i-init c = record { few = omega arith; held = held_none c.loop-sound.stream }

pub loop-i-preserved : goal.loop-i-preserved
loop-i-preserved c =
    let l = c.loop-i in
    let u = c.loop-sound in
    let pushed = c.push-d.ensures ∙ ap (push_of l.stream) c.grid_beat.ensures in
    record {
      few = omega (arith, bit_few (get_or u.sound-items l.i false));
      held = held_turn u.sound-items u.stream l.i l.at l.n l.stream c.push-d.result c.after-stream.result (omega arith) l.invariant.held pushed c.after-stream.ensures;
    }

pub settle-requires : goal.settle-requires
settle-requires c =
    let k = c.loop-i.invariant.held.written.size in
    (omega arith, omega arith)

pub returns : goal.returns
unfolding statement_bar_of
returns c =
    let l = c.loop-i in
    let u = c.loop-sound in
    let p = c.args.style.note_p in
    let s = c.draw-rests.result.stream in
    let e : u.sound-index ≡ 7 = omega arith in
    let f : l.i ≡ 7 = omega arith in
    let sounds = subst (λ (i : ℕ). Sounding p s u.sound-items u.stream i) e u.invariant in
    let held = subst (λ (i : ℕ). Held (foldl push_on_of (empty_from u.stream) (kept_to u.sound-items i)) l.at l.n l.stream) f l.invariant.held in
    record { value = rw (← c.draw-rests.ensures, c.if-rests.false) (statement_done p s u.sound-items u.stream l.at l.n l.stream c.settle.result sounds held c.settle.ensures.value); n_bound = c.settle.ensures.n_bound }
