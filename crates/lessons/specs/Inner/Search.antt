-- The test of one seed, as the search makes it. Definitions only.
use Rattle.std.specs.Prelude.{Bool, ◌&&◌, ◌||◌, ℕ, eqb}
use Rattle.composer.specs.Compose.{composed_of}
use Rattle.composer.specs.Traits.{traits_in}
use Rattle.composer.specs.Voice.{voice_number_of}
use Rattle.composer.specs.declared.style.Style.{Style}
use Rattle.composer.specs.declared.traits.Traits.{Traits}
use Rattle.lessons.specs.Wishes.{Has}
use Rattle.lessons.specs.declared.wishes.Wishes.{Wishes}

-- each is any or the song's
abbrev pub met_by : Wishes → Traits → Bool
met_by w t =
    (eqb w.key 12 || eqb w.key t.key) && (eqb w.tempo 0 || eqb w.tempo t.tempo) && (eqb w.voice 255 || eqb w.voice (voice_number_of t.voice))

unfoldable pub is_suited : Style → Wishes → ℕ → Bool
is_suited style w seed = met_by w (traits_in (composed_of style seed))

-- the song of the style and the seed has what is wished
abbrev pub SuitsIn : Style → Wishes → ℕ → Type 0
SuitsIn style w seed = Has w (composed_of style seed)
