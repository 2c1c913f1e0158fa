-- After k turns the first k bars are drawn, then answered, each of at most seven beats. Assumes nothing.
use mathlib.Core.Path.{◌≡◌, refl, ap, ◌∙◌}
use mathlib.Core.List.{List}
use Prim.Native.Nat.{◌+◌}
use native.Mathlib.Numerals.{add-one}
use native.Mathlib.Omega.{arith}
use lib.ListN.{set}
use Rattle.laws.specs.Lists.{pad}
use Rattle.streams.specs.declared.stream.Draw.{Draw}
use Rattle.composer.specs.Lead.Rhythm.{state_to, statement_of, reply_to, rhythm_of}
use Rattle.composer.specs.Lead.Beats.{Beats}
use Rattle.composer.proofs.lead.BeatsLaws.{set_short, empty_short}
use Rattle.composer.proofs.lead.TurnLaws.{whole, state_on, reply_on, fallback_by}
use Rattle.composer.proofs.lead.rhythm.rhythm_of.Goals as goal

pub loop-k-init : goal.loop-k-init
unfolding state_to pad
loop-k-init c = (omega arith, empty_short 8, refl)

pub loop-k-preserved : goal.loop-k-preserved
unfolding state_to
loop-k-preserved c =
    let l = c.loop-k in (
      omega arith,
      set_short l.bars l.k c.statement_bar-d.result.value c.statement_bar-d.ensures.n_bound l.invariant.1,
      rw add-one (state_on c.args.style (whole l.bars l.stream) (state_to c.args.style c.args.s l.k) l.k c.statement_bar-d.result l.invariant.2 c.statement_bar-d.ensures.value),
    )

pub loop-k-2-init : goal.loop-k-2-init
unfolding reply_to
loop-k-2-init c =
    let l = c.loop-k in
    (omega arith, set_short (set l.bars 0 c.spared-first.result) 2 c.spared-third.result c.spared-third.ensures.n_bound (set_short l.bars 0 c.spared-first.result c.spared-first.ensures.n_bound l.invariant.1), refl)

pub loop-k-2-preserved : goal.loop-k-2-preserved
unfolding reply_to
loop-k-2-preserved c =
    let l = c.loop-k-2 in (
      omega arith,
      set_short l.bars (4 + l.k) c.answer_bar-d.result.value c.answer_bar-d.ensures.n_bound l.invariant.1,
      rw add-one (reply_on (whole l.bars l.stream) (reply_to (whole (set (set c.loop-k.bars 0 c.spared-first.result) 2 c.spared-third.result) c.loop-k.stream) l.k) l.k c.answer_bar-d.result l.invariant.2 c.answer_bar-d.ensures.value),
    )

pub returns : goal.returns
unfolding rhythm_of statement_of pad
returns c =
    let l = c.loop-k-2 in
    let u = c.loop-k in
    let e : l.k ≡ 4 = omega arith in
    let g : u.k ≡ 4 = omega arith in
    let drawn = u.invariant.2 ∙ ap (state_to c.args.style c.args.s) g in
    let said = fallback_by (whole u.bars u.stream) (state_to c.args.style c.args.s 4) c.spared-first.result c.spared-third.result drawn c.spared-first.ensures.value c.spared-third.ensures.value in
    record { value = l.invariant.2 ∙ ap (reply_to (whole (set (set u.bars 0 c.spared-first.result) 2 c.spared-third.result) u.stream)) e ∙ ap (λ (r : Draw (List Beats)). reply_to r 4) said; by_index = l.invariant.1 }
