-- Draws of a time or a strength: from a spread, behind a time, or around the grid. Definitions only.
use Rattle.std.specs.Prelude.{Float}
use Rattle.std.specs.Float.{binary32}
use Rattle.std.specs.Float.Ieee.{add, sub, mul}
use Rattle.streams.specs.Stream.{unit_of}
use Rattle.streams.specs.declared.stream.NoiseStream.{NoiseStream}
use Rattle.streams.specs.declared.stream.Draw.{Draw}
use Rattle.composer.specs.declared.spread.Spread.{Spread}
use Rattle.composer.specs.declared.spread.Jitter.{Jitter}

abbrev pub between_of : Float → Float → Spread
between_of lo hi = record { base = lo; span = sub binary32 hi lo }

abbrev pub spread_by : Spread → Float → Float
spread_by p u = add binary32 p.base (mul binary32 p.span u)

-- t delayed: t + base first, then the share of the span
abbrev pub delayed_by : Spread → Float → Float → Float
delayed_by p t u = add binary32 (add binary32 t p.base) (mul binary32 p.span u)

abbrev pub jitter_by : Jitter → Float → Float
jitter_by j u = mul binary32 (sub binary32 u j.early) j.width

unfoldable pub draw_of : Spread → NoiseStream → Draw Float
draw_of p s = record { value = spread_by p (unit_of s).value; stream = (unit_of s).stream }

unfoldable pub after_of : Spread → Float → NoiseStream → Draw Float
after_of p t s = record { value = delayed_by p t (unit_of s).value; stream = (unit_of s).stream }

unfoldable pub jitter_of : Jitter → NoiseStream → Draw Float
jitter_of j s = record { value = jitter_by j (unit_of s).value; stream = (unit_of s).stream }
