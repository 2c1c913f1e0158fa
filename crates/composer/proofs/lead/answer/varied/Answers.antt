-- After i turns the first i beats are varied. Assumes nothing.
use mathlib.Core.Path.{◌≡◌, refl, sym, ap, ◌∙◌}
use mathlib.Core.List.{foldl}
use Prim.Native.Nat.{◌+◌}
use native.Mathlib.Omega.{arith}
use lib.ListN.{length, take, get_or, set}
use lib.Ieee.{nan}
use Rattle.std.proofs.Math.Seq.{take-length}
use Rattle.laws.specs.Lists.{pad}
use Rattle.laws.proofs.Sorts.{fold_on}
use Rattle.composer.specs.Lead.Push.{push_on_of}
use Rattle.composer.specs.Lead.Statement.{empty_from}
use Rattle.composer.specs.Lead.Answer.{vary_of, varied_of}
use Rattle.composer.proofs.lead.answer.varied.Invariants.{held_of}
use Rattle.composer.proofs.lead.answer.varied.Goals as goal

pub loop-i-init : goal.loop-i-init
unfolding pad
loop-i-init c = refl

pub loop-i-preserved : goal.loop-i-preserved
unfolding vary_of push_on_of
loop-i-preserved c =
    let l = c.loop-i in
    let xs = c.used-beat-items.result.now in
    let e : held_of (set l.at l.i c.push-d.result.value) c.push-d.result.stream (l.i + 1) ≡ vary_of (held_of l.at l.stream l.i) (get_or xs l.i nan) = rw (c.push-d.ensures, c.shift-m.ensures) in
    fold_on vary_of (empty_from c.args.s) xs l.i nan _ _ (omega arith) l.invariant e

pub returns : goal.returns
unfolding varied_of
returns c =
    let l = c.loop-i in
    let xs = c.used-beat-items.result.now in
    let e : l.i ≡ length xs = omega arith in
    record {
      value =
          ap (held_of l.at l.stream) (sym (e ∙ c.used-beat-items.ensures.size c.requires)) ∙ l.invariant ∙ ap (λ i. foldl vary_of (empty_from c.args.s) (take i xs)) e
          ∙ ap (foldl vary_of (empty_from c.args.s)) (take-length xs ∙ c.used-beat-items.ensures.value);
      n_bound = omega arith;
    }
