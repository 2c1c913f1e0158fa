-- The tempo stage: beats per minute, drawn once a song and rounded. Definitions only.
use Rattle.std.specs.Prelude.{ℕ, Float}
use Rattle.laws.specs.Floats.{f32_of, round_of}
use Rattle.streams.specs.declared.stream.NoiseStream.{NoiseStream}
use Rattle.streams.specs.declared.stream.Draw.{Draw}
use Rattle.composer.specs.Spread.{draw_of}
use Rattle.composer.specs.Style.{bpm_of}
use Rattle.composer.specs.declared.style.Style.{Style}
use Rattle.composer.specs.declared.style.Style.TheVariants.{Hiphop, Sleep}

-- in whole beats per minute
unfoldable pub beats_of : NoiseStream → Style → ℕ
beats_of s style = round_of (draw_of (bpm_of style) s).value

unfoldable pub tempo_draw_of : NoiseStream → Style → Draw ℕ
tempo_draw_of s style = record { value = beats_of s style; stream = (draw_of (bpm_of style) s).stream }

unfoldable pub tempo_of : NoiseStream → Style → Draw Float
tempo_of s style = record { value = f32_of (beats_of s style); stream = (draw_of (bpm_of style) s).stream }

-- the slowest and the fastest
abbrev pub slowest_of : Style → ℕ
slowest_of Hiphop = 70
slowest_of Sleep = 73

abbrev pub fastest_of : Style → ℕ
fastest_of Hiphop = 82
fastest_of Sleep = 77
