-- Each loop lays what its definition lays, and a bar adds at most 13 hits. Assumes nothing.
use mathlib.Core.Path.{◌≡◌}
use mathlib.Core.List.{List}
use Prim.Native.Nat.{ℕ, ◌+◌, ◌≤◌}
use Rattle.streams.specs.declared.stream.NoiseStream.{NoiseStream}
use Rattle.composer.specs.Drums.{bars_to}
use Rattle.composer.specs.Drums.Kit.{DrumLane, snares_to, hats_to}
use Rattle.composer.specs.declared.note.Hit.{Hit}
use Rattle.composer.proofs.drums.KitLaws.{kicks_to}
use Rattle.composer.proofs.drums.lay_groove.Given as goal

-- the loops' variables as a lane
abbrev pub lane : List Hit → ℕ → NoiseStream → DrumLane
lane hits count stream = record { value = record { at = hits; n = count }; stream = stream }

abbrev pub invariant-loop-k : goal.invariant-loop-k
invariant-loop-k l =
    (l.k ≤ l.kicks) × (l.kicks ≤ 3) × (l.initial.count + 13 ≤ 98) × (l.count ≡ l.initial.count + l.k) × (lane l.hits l.count l.stream ≡ kicks_to (lane l.initial.hits l.initial.count l.initial.stream) l.g l.bar l.k)

abbrev pub invariant-loop-i : goal.invariant-loop-i
invariant-loop-i l =
    (l.i ≤ l.i-end) × (l.i-end ≤ 2) × (l.initial.count + 10 ≤ 98) × (l.count ≡ l.initial.count + l.i) × (lane l.hits l.count l.stream ≡ snares_to (lane l.initial.hits l.initial.count l.initial.stream) l.g l.bar l.i)

abbrev pub invariant-loop-e : goal.invariant-loop-e
invariant-loop-e l =
    (l.e ≤ 8) × (l.initial.count + 8 ≤ 98) × (l.count ≤ l.initial.count + l.e) × (lane l.hits l.count l.stream ≡ hats_to (lane l.initial.hits l.initial.count l.initial.stream) l.g l.bar l.e)

abbrev pub invariant-loop-number : goal.invariant-loop-number
invariant-loop-number l =
    (l.number ≤ 8) × (lane l.hits l.count l.stream ≡ bars_to (lane l.initial.hits l.initial.count l.initial.stream) l.g l.beat_s l.number)
