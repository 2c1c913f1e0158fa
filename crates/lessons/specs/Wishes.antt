-- What a teacher wishes of a song. Definitions only.
use Rattle.std.specs.Prelude.{◌≡◌, Bool, not, ◌&&◌, ◌||◌, ◌⊎◌, ltb, eqb, get_or}
use Rattle.laws.specs.Floats.{f32_of}
use Rattle.composer.specs.Voice.{voice_number_of}
use Rattle.composer.specs.declared.compose.Composed.{Composed}
use Rattle.lessons.specs.declared.wishes.Wishes.{Wishes}

-- the song has all three: the key is the first entry of its scale, the tempo its own, the voice its lead's; 12, 0 and
-- 255 are any
pub record Has (w : Wishes) (c : Composed) : Type 0 where
  pub key : (w.key ≡ 12) ⊎ (w.key ≡ get_or c.scale.pcs 0 0)
  pub tempo : (w.tempo ≡ 0) ⊎ (f32_of w.tempo ≡ c.score.bpm)
  pub voice : (w.voice ≡ 255) ⊎ (w.voice ≡ voice_number_of c.score.lead_voice)

-- outside the codes: a key above 12, or a voice that is neither 0 to 3 nor 255; every tempo is a code
abbrev pub is_unknown : Wishes → Bool
is_unknown w = ltb 12 w.key || (ltb 3 w.voice && not (eqb w.voice 255))
