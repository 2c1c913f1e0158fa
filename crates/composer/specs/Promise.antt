-- What holds of the song of every seed, in both styles. Definitions only.
use Rattle.std.specs.Prelude.{◌≡◌, ℕ, ◌%◌, ◌≤◌, ◌<◌, length, take, get_or}
use Rattle.laws.specs.Floats.{f32_of}
use Rattle.laws.specs.Lanes.{Occurs, EachAtMost, Laid}
use Rattle.composer.specs.Bass.Promise.{SoundsIn}
use Rattle.composer.specs.Chord.{past_chord, RootPosition}
use Rattle.composer.specs.Compose.{compose_of}
use Rattle.composer.specs.Drums.{drum_draws_of}
use Rattle.composer.specs.Early.{EarlyPromise}
use Rattle.composer.specs.Keys.{key_draws_of}
use Rattle.composer.specs.Note.{no_note, past_note, note_bar, no_hit, past_hit, hit_bar}
use Rattle.composer.specs.Plain.{PlainPromise}
use Rattle.composer.specs.Range.{RangePromise}
use Rattle.composer.specs.Refusal.{Gives, answered}
use Rattle.composer.specs.Style.{style_number_of}
use Rattle.composer.specs.Roles.{RolesPromise}
use Rattle.composer.specs.Style.{lead_style_of}
use Rattle.composer.specs.Tempo.{slowest_of, fastest_of}
use Rattle.composer.specs.declared.compose.Composed.{Composed}
use Rattle.composer.specs.declared.harmony.Scale.{Scale}
use Rattle.composer.specs.declared.score.Counters.{Counters}
use Rattle.composer.specs.declared.score.Score.{Score}
use Rattle.composer.specs.declared.style.Style.{Style}

-- a lead note: in the style's window, its class one of the 5 or 6 entries of the scale
pub record Sings (style : Style) (scale : Scale) (midi : ℕ) : Type 0 where
  pub least : (lead_style_of style).lo ≤ midi
  pub most : midi ≤ (lead_style_of style).hi
  pub class : Occurs (λ k. get_or scale.pcs k 0) scale.n (midi % 12)

-- the four lanes
pub record LanesPromise (s : Score) : Type 0 where
  -- each within its capacity, in the order of its bars 0 to 7, unused entries zero
  pub lead : Laid past_note no_note note_bar 56 7 s.lead.at s.lead.n
  pub keys : Laid past_note no_note note_bar 128 7 s.keys.at s.keys.n
  pub hits : Laid past_hit no_hit hit_bar 98 7 s.hits.at s.hits.n
  pub bass : Laid past_note no_note note_bar 104 7 s.bass.at s.bass.n

-- at most so many events of each lane in any one bar
pub record BarsPromise (s : Score) : Type 0 where
  pub lead : EachAtMost note_bar 7 (take s.lead.n s.lead.at)
  pub keys : EachAtMost note_bar 16 (take s.keys.n s.keys.at)
  pub hits : EachAtMost hit_bar 13 (take s.hits.n s.hits.at)
  pub bass : EachAtMost note_bar 13 (take s.bass.n s.bass.at)

-- what writing or summing a score's events draws on: each lane in order, every float a plain number
pub record EventsPromise (s : Score) : Type 0 where
  pub lanes : LanesPromise s
  pub plain : PlainPromise s

pub record ScorePromise (style : Style) (score : Score) (scale : Scale) : Type 0 where
  pub in_style : score.style ≡ style
  -- the tempo is a whole number, within the style's window
  pub beats : ℕ
  pub tempo : score.bpm ≡ f32_of beats
  pub tempo_least : slowest_of style ≤ beats
  pub tempo_most : beats ≤ fastest_of style
  pub chord_count : length score.bar_chords ≡ 8
  pub chords : (b : ℕ) → b < 8 → RootPosition (get_or score.bar_chords b past_chord)
  pub lanes : LanesPromise score
  pub bars : BarsPromise score
  -- the tempo, every time, velocity, gain and duration, and every spare byte
  pub plain : PlainPromise score
  -- every note of every chord and lane
  pub range : RangePromise score
  -- how few hits are early
  pub early : EarlyPromise score
  -- the lead's roles are its six, and all others the seventh
  pub roles : RolesPromise score
  -- every loop bar has a hit and a bass note
  pub hit_in_each : (b : ℕ) → b < 8 → Occurs (λ i. hit_bar (get_or score.hits.at i past_hit)) score.hits.n b
  pub bass_in_each : (b : ℕ) → b < 8 → Occurs (λ i. note_bar (get_or score.bass.at i past_note)) score.bass.n b
  pub lead_sings : (i : ℕ) → i < score.lead.n → Sings style scale (get_or score.lead.at i past_note).midi
  pub bass_sounds : (i : ℕ) → i < score.bass.n → SoundsIn score.bar_chords (get_or score.bass.at i past_note).bar (get_or score.bass.at i past_note).midi
  -- five or six pitch classes, in an array of six with zeros behind them
  pub scale_least : 5 ≤ scale.n
  pub scale_most : scale.n ≤ 6
  pub scale_size : length scale.pcs ≡ 6
  pub scale_classes : (k : ℕ) → get_or scale.pcs k 0 < 12
  pub scale_rest : (k : ℕ) → scale.n ≤ k → get_or scale.pcs k 0 ≡ 0

-- those counters that the paper tells by counts; the lead's and the bass's are their streams' (`song_by`)
pub record DrawsPromise (style : Style) (score : Score) (counters : Counters) : Type 0 where
  pub harmony : counters.harmony ≡ 3
  pub tempo : counters.tempo ≡ 1
  pub keys : counters.keys ≡ key_draws_of style score.keys.n
  pub drums : counters.drums ≡ drum_draws_of style score.hits.n
  pub voice : counters.voice ≡ 1

-- what `compose` answers for the style and the seed is the song c
pub record SongPromise (style : Style) (seed : ℕ) (c : Composed) : Type 0 where
  pub given : answered (compose_of (style_number_of style) seed) ≡ Gives c
  pub score : ScorePromise style c.score c.scale
  pub draws : DrawsPromise style c.score c.counters
