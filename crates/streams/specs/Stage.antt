-- The eight stages and their streams. Definitions only.
use Rattle.std.specs.Prelude.{[], ◌∷◌, ℕ, get_or, Result, Ok, Err}
use Rattle.streams.specs.Mix.{splitmix64_of, splitmix_draw_of}
use Rattle.streams.specs.Stream.{new_of}
use Rattle.streams.specs.declared.stream.NoiseStream.{NoiseStream}
use Rattle.streams.specs.declared.stage.Stage.{Stage}
use Rattle.streams.specs.declared.stage.UnknownStage.{UnknownStage}
use Rattle.streams.specs.declared.stage.Stage.TheVariants.{Form, Harmony, Tempo, Lead, Keys, Drums, Bass, LeadVoice}

abbrev pub id_of : Stage → ℕ
id_of Form = 1
id_of Harmony = 2
id_of Tempo = 3
id_of Lead = 4
id_of Keys = 5
id_of Drums = 6
id_of Bass = 7
id_of LeadVoice = 8

abbrev no_stage : UnknownStage
no_stage = record {}

-- the stage of a number; there are eight, from 1 on
abbrev pub stage_named : ℕ → Result Stage UnknownStage
stage_named n =
    get_or
    (Err no_stage ∷ Ok Form ∷ Ok Harmony ∷ Ok Tempo ∷ Ok Lead ∷ Ok Keys ∷ Ok Drums ∷ Ok Bass ∷ Ok LeadVoice ∷ [])
    n (Err no_stage)

unfoldable pub stream_of : Stage → ℕ → NoiseStream
stream_of stage seed = new_of (splitmix_draw_of (splitmix64_of seed) (id_of stage))
