-- The front is sorted and then thinned. Assumes nothing.
use mathlib.Core.Path.{◌≡◌, ap, ◌∙◌}
use mathlib.Core.List.{List}
use Prim.Native.Nat.{min}
use native.Mathlib.Omega.{arith}
use lib.ListN.{length}
use lib.Ieee.{Float, nan}
use Rattle.laws.specs.Order.{total_le}
use Rattle.laws.proofs.Sorts.{sorted_front}
use Rattle.composer.specs.Lead.Beats.{beats_of, thin_of, settled}
use Rattle.composer.proofs.lead.beats.settle.Goals as goal

pub returns : goal.returns
unfolding settled
returns c =
    let e : c.args.n ≡ min c.args.n (length c.args.a.now) = omega arith in
    record { value = c.thinned.ensures.value ∙ ap (λ (xs : List Float). beats_of (thin_of nan xs)) (sorted_front total_le c.args.a.now c.sort_front.new.a c.args.n c.args.n e c.sort_front.ensures); n_bound = c.thinned.ensures.n_bound }
