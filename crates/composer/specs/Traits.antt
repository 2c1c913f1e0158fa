-- What a teacher asks of a song: its key, its tempo and its lead voice. Definitions only.
use Rattle.std.specs.Prelude.{ℕ, get_or}
use Rattle.std.specs.Float.Ieee.{to_unsigned}
use Rattle.streams.specs.Draw.{picked_of}
use Rattle.streams.specs.Stage.{stream_of}
use Rattle.streams.specs.Stream.{unit_at}
use Rattle.streams.specs.declared.stage.Stage.{Stage}
use Rattle.composer.specs.Tempo.{beats_of}
use Rattle.composer.specs.Voice.{voice_by}
use Rattle.composer.specs.declared.compose.Composed.{Composed}
use Rattle.composer.specs.declared.style.Style.{Style}
use Rattle.composer.specs.declared.traits.Traits.{Traits}

-- of a song: the scale's first entry, the tempo as a whole number, the voice
unfoldable pub traits_in : Composed → Traits
traits_in c = record { key = get_or c.scale.pcs 0 0; tempo = to_unsigned 64 c.score.bpm; voice = c.score.lead_voice }

-- ---- the same by three draws: the harmony's third, the tempo's first, the voice's first
unfoldable pub drawn_key : ℕ → ℕ
drawn_key seed = picked_of (unit_at (stream_of Stage.Harmony seed) 3) 12

unfoldable pub drawn_traits : Style → ℕ → Traits
drawn_traits style seed = record {
  key = drawn_key seed;
  tempo = beats_of (stream_of Stage.Tempo seed) style;
  voice = voice_by style (unit_at (stream_of Stage.LeadVoice seed) 1);
}
