-- The chain tests the first n entries. Assumes nothing.
use mathlib.Core.Path.{◌≡◌, sym, ◌∙◌}
use native.Mathlib.Omega.{arith}
use Rattle.std.proofs.Common.{rules, tests}
use Rattle.std.proofs.lemmas.Grind.{common_steps}
use Rattle.std.proofs.lemmas.Iterator.{YieldsList-from_slice}
use Rattle.std.proofs.lemmas.Iterator.Search.{all_from_yields_List}
use lib.Dec.{ltb}
use lib.ListN.{length, take}
use Rattle.reader.specs.Within.{scale_within}
use Rattle.reader.proofs.LibraryLaws.{each_to}
use Rattle.reader.proofs.within.scale_within.Goals as goal

pub returns-then-s-le6 : goal.returns-then-s-le6
unfolding scale_within
returns-then-s-le6 c =
    let s = c.args.s in
    let used = take s.n s.pcs in
    let size : length s.pcs ≡ 6 = search rules in
    let e = all_from_yields_List (λ k. ltb k 12) _ _ _ c.all.ensures.ran (YieldsList-from_slice used cc) (λ x b q k. search (rules, tests)) ∙ sym (each_to (λ k. ltb k 12) 0 s.pcs s.n (omega arith)) in
    grind (arith, common_steps)
