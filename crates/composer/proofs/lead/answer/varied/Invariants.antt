-- After i turns the first i beats are varied. Assumes nothing.
use mathlib.Core.Path.{◌≡◌}
use mathlib.Core.List.{List, foldl}
use Prim.Native.Nat.{ℕ}
use lib.ListN.{take}
use lib.Ieee.{Float}
use Rattle.streams.specs.declared.stream.NoiseStream.{NoiseStream}
use Rattle.streams.specs.declared.stream.Draw.{Draw}
use Rattle.composer.specs.Lead.Statement.{empty_from}
use Rattle.composer.specs.Lead.Answer.{vary_of}
use Rattle.composer.specs.Lead.Beats.{Beats}
use Rattle.composer.proofs.lead.answer.varied.Given as goal

abbrev pub held_of : List Float → NoiseStream → ℕ → Draw Beats
held_of at stream n = record { value = record { at = at; n = n }; stream = stream }

abbrev pub invariant-loop-i : goal.invariant-loop-i
invariant-loop-i l = held_of l.at l.stream l.i ≡ foldl vary_of (empty_from l.initial.stream) (take l.i l.beat-items)
