-- The instrument that sings the lead. Definitions only.
use Rattle.std.specs.Prelude.{List, [], ◌∷◌, ℕ, get_or, Float, Result, Ok, Err}
use Rattle.streams.specs.Stream.{after, unit_at}
use Rattle.streams.specs.declared.stream.NoiseStream.{NoiseStream}
use Rattle.streams.specs.declared.stream.Draw.{Draw}
use Rattle.composer.specs.Band.{band_of}
use Rattle.composer.specs.declared.refusal.Refusal.{Refusal}
use Rattle.composer.specs.declared.style.Style.{Style}
use Rattle.composer.specs.declared.voice.LeadVoice.{LeadVoice}
use Rattle.composer.specs.declared.voice.LeadVoice.TheVariants.{EpVel, Pluck, Kalimba, Vibraphone}

-- document 01's number of each voice
abbrev pub voice_number_of : LeadVoice → ℕ
voice_number_of EpVel = 0
voice_number_of Pluck = 1
voice_number_of Kalimba = 2
voice_number_of Vibraphone = 3

-- the voice of a number; there are four
abbrev pub voice_named : ℕ → Result LeadVoice Refusal
voice_named n = get_or (Ok EpVel ∷ Ok Pluck ∷ Ok Kalimba ∷ Ok Vibraphone ∷ []) n (Err Refusal.SheetValues)

-- the voices of each style and their weights
abbrev pub voices_of : Style → List LeadVoice
voices_of Style.Hiphop = Pluck ∷ Kalimba ∷ EpVel ∷ []
voices_of Style.Sleep = Vibraphone ∷ EpVel ∷ []

abbrev pub voice_weights_of : Style → List ℕ
voice_weights_of Style.Hiphop = 35 ∷ 25 ∷ 40 ∷ []
voice_weights_of Style.Sleep = 35 ∷ 65 ∷ []

unfoldable pub voice_by : Style → Float → LeadVoice
voice_by style u = get_or (voices_of style) (band_of u (voice_weights_of style)) EpVel

-- draw 1
unfoldable pub lead_voice_of : NoiseStream → Style → Draw LeadVoice
lead_voice_of s style = record { value = voice_by style (unit_at s 1); stream = after s 1 }
