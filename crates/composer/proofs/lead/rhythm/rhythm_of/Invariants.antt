-- After k turns the first k bars are drawn, then answered, each of at most seven beats. Assumes nothing.
use mathlib.Core.Path.{◌≡◌}
use Prim.Native.Nat.{ℕ, ◌≤◌}
use lib.ListN.{get_or}
use Rattle.composer.specs.Lead.Beats.{past_beats}
use Rattle.composer.specs.Lead.Rhythm.{state_to, reply_to}
use Rattle.composer.proofs.lead.TurnLaws.{whole}
use Rattle.composer.proofs.lead.rhythm.rhythm_of.Given as goal

abbrev pub invariant-loop-k : goal.invariant-loop-k
invariant-loop-k l = (l.k ≤ 4) × ((j : ℕ) → (get_or l.bars j past_beats).n ≤ 7) × (whole l.bars l.stream ≡ state_to l.style l.initial.stream l.k)

abbrev pub invariant-loop-k-2 : goal.invariant-loop-k-2
invariant-loop-k-2 l = (l.k ≤ 4) × ((j : ℕ) → (get_or l.bars j past_beats).n ≤ 7) × (whole l.bars l.stream ≡ reply_to (whole l.initial.bars l.initial.stream) l.k)
