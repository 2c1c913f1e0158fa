-- No seed before turn i fits. Assumes nothing.
use mathlib.Core.Path.{◌≡◌, refl, sym, ◌∙◌, subst}
use Prim.Native.Nat.{ℕ}
use native.Mathlib.Omega.{arith}
use Rattle.lessons.specs.Inner.Search.{SuitsIn}
use Rattle.lessons.specs.Lesson.{NoneFits}
use Rattle.lessons.proofs.SearchLaws.{none_at_first, none_more}
use Rattle.lessons.proofs.SuitLaws.{suits_told, suits_not}
use Rattle.lessons.proofs.lesson.search.Goals as goal

pub loop-i-init : goal.loop-i-init
loop-i-init c = none_at_first (SuitsIn c.args.style c.args.wishes) c.args.start

pub returns-then-suits : goal.returns-then-suits
returns-then-suits c =
    (record { from = omega arith; to = omega arith }, suits_told c.args.style c.args.wishes _ (sym c.suits.ensures ∙ c.if-suits.true))

pub loop-i-preserved : goal.loop-i-preserved
loop-i-preserved c =
    let l = c.loop-i in
    none_more (SuitsIn c.args.style c.args.wishes) c.args.start l.i l.invariant (suits_not c.args.style c.args.wishes _ (omega arith) (sym c.suits.ensures ∙ c.if-suits.false))

pub returns : goal.returns
returns c =
    let l = c.loop-i in
    let e : l.i ≡ c.args.count = omega arith in
    (refl, subst (λ (n : ℕ). NoneFits (SuitsIn c.args.style c.args.wishes) c.args.start n) e l.invariant)
