-- Each call is its definition; a pick of 3 is at most 2. Assumes nothing.
use mathlib.Core.Path.{sym, subst}
use Prim.Native.Nat.{ℕ, ◌≤◌}
use native.Mathlib.Omega.{arith}
use Rattle.composer.specs.Form.Decisions.{decisions_by}
use Rattle.streams.proofs.DrawLaws.{picked_le}
use Rattle.composer.proofs.form.decisions.decisions_by.Goals as goal

pub overflow_add-result : goal.overflow_add-result
overflow_add-result c =
    let e = c.picked-more.ensures in
    let h = subst (λ (n : ℕ). n ≤ 2) (sym e) (picked_le _ 3) in omega arith

pub returns : goal.returns
unfolding decisions_by
returns c =
    rw (c.long_outro_p-share.ensures, c.closing_of-closing.ensures, c.cuts_by-cuts.ensures, c.thinning_of-thinning.ensures, c.picked-more.ensures, c.opening_of-opening.ensures)
