-- A spread, a delay and a jitter make one draw each. Assumes nothing.
use mathlib.Core.Path.{◌≡◌}
use lib.Ieee.{Float}
use Rattle.streams.specs.Stream.{after}
use Rattle.streams.specs.declared.stream.NoiseStream.{NoiseStream}
use Rattle.streams.proofs.StreamLaws.{unit_advances}
use Rattle.composer.specs.Spread.{draw_of, after_of, jitter_of}
use Rattle.composer.specs.declared.spread.Spread.{Spread}
use Rattle.composer.specs.declared.spread.Jitter.{Jitter}

module _ (s : NoiseStream) where
  pub draw_advances : (p : Spread) → (draw_of p s).stream ≡ after s 1
  unfolding draw_of
  draw_advances p = unit_advances s

  pub after_advances : (p : Spread) (t : Float) → (after_of p t s).stream ≡ after s 1
  unfolding after_of
  after_advances p t = unit_advances s

  pub jitter_advances : (j : Jitter) → (jitter_of j s).stream ≡ after s 1
  unfolding jitter_of
  jitter_advances j = unit_advances s
