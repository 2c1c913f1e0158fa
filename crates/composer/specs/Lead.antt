-- The lead stage: a melody over the harmony, as played behind the grid. Definitions only.
use Rattle.std.specs.Prelude.{Float}
use Rattle.streams.specs.declared.stream.NoiseStream.{NoiseStream}
use Rattle.composer.specs.Style.{lead_style_of}
use Rattle.composer.specs.Lead.Rhythm.{rhythm_of}
use Rattle.composer.specs.Lead.Scale.{pool_of}
use Rattle.composer.specs.Lead.Melody.{melody_of}
use Rattle.composer.specs.Lead.Played.{LeadLane, played_of}
use Rattle.composer.specs.declared.style.Style.{Style}
use Rattle.composer.specs.declared.harmony.Harmony.{Harmony}
use Rattle.composer.specs.declared.lead.melody.Sung.{Sung}
pub mod Answer
pub mod Beats
pub mod Grid
pub mod Ground
pub mod Line
pub mod Melody
pub mod Pitch
pub mod Played
pub mod Push
pub mod Rhythm
pub mod Role
pub mod Rule
pub mod Scale
pub mod Settled
pub mod Sound
pub mod Statement
pub mod Tones

-- the melody over its rhythm
unfoldable pub sung_of : NoiseStream → Harmony → Style → Sung
sung_of s h style =
    let l = lead_style_of style in
    let r = rhythm_of s l in
    melody_of r.stream r.value h.bars (pool_of h.scale) l

-- after all notes of the melody, each is played
unfoldable pub lead_of : NoiseStream → Harmony → Style → Float → LeadLane
lead_of s h style beatS = played_of (sung_of s h style) beatS (lead_style_of style).dur
