-- The lowest rank so far. Assumes nothing.
use Rattle.std.proofs.Common.{◌≡◌, ℕ, min, take}
use Rattle.std.specs.List.{fold}
use Rattle.composer.specs.Lead.Tones.{rank_of}
use Rattle.composer.proofs.lead.tones.nearest.Given as goal

abbrev pub invariant-loop-x : goal.invariant-loop-x
invariant-loop-x l = l.best ≡ fold (λ (b x : ℕ). min b (rank_of l.target x)) 65535 (take l.x-index l.notes)
