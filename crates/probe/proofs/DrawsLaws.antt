-- A draw of any kind takes its stream one draw on. Assumes nothing.
use mathlib.Core.Path.{◌≡◌, ◌∙◌}
use Prim.Native.Nat.{ℕ, ◌+◌}
use Rattle.streams.specs.Stream.{after}
use Rattle.streams.specs.declared.stream.NoiseStream.{NoiseStream}
use Rattle.streams.proofs.StreamLaws.{after_after, next_u64_advances, unit_advances}
use Rattle.streams.proofs.DrawLaws.{pick_advances, chance_advances, coin_advances}
use Rattle.probe.specs.Draws.{drawn_of}
use Rattle.probe.specs.declared.draws.Kind.{Kind}

drawn_advances : (kind : Kind) (s : NoiseStream) → (drawn_of kind s).stream ≡ after s 1
unfolding drawn_of
drawn_advances Kind.Word s = next_u64_advances s
drawn_advances Kind.Unit s = unit_advances s
drawn_advances (Kind.Pick n) s = pick_advances s n
drawn_advances (Kind.Chance p) s = chance_advances s p
drawn_advances Kind.Coin s = coin_advances s

pub drawn_on_lem : (kind : Kind) (s : NoiseStream) (i : ℕ) → (drawn_of kind (after s i)).stream ≡ after s (i + 1)
drawn_on_lem kind s i = drawn_advances kind (after s i) ∙ after_after s i 1
