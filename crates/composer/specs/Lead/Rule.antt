-- Why each lead note has its role: the rule of `melody`, told by the rhythm, by the lead's own notes before it and by
-- one draw. Bars, and the notes of a bar and of the lead, count from 0. Definitions only.
use Rattle.std.specs.Prelude.{◌≡◌, Bool, cond, ◌&&◌, ◌||◌, List, ℕ, zero, suc, ◌+◌, ◌-◌, ◌<◌, min, eqb, ltb, get_or}
use Rattle.std.specs.Float.{nan}
use Rattle.laws.specs.Sums.{sum_to}
use Rattle.streams.specs.Draw.{chance_of}
use Rattle.streams.specs.declared.stream.NoiseStream.{NoiseStream}
use Rattle.composer.specs.Chord.{past_chord}
use Rattle.composer.specs.Lead.Beats.{Beats, past_beats}
use Rattle.composer.specs.Lead.Ground.{ground_of}
use Rattle.composer.specs.Lead.Line.{is_strong_of}
use Rattle.composer.specs.Lead.Melody.{bar_to, start_of, nothing_sung, bars_to}
use Rattle.composer.specs.Lead.Rhythm.{rhythm_of}
use Rattle.composer.specs.Lead.Role.{noted_of, tone_chance}
use Rattle.composer.specs.Lead.Scale.{pool_of}
use Rattle.composer.specs.Lead.Tones.{distance_of}
use Rattle.composer.specs.Note.{past_note}
use Rattle.composer.specs.Style.{lead_style_of}
use Rattle.composer.specs.declared.chord.Chord.{Chord}
use Rattle.composer.specs.declared.harmony.Harmony.{Harmony}
use Rattle.composer.specs.declared.note.Note.{Note}
use Rattle.composer.specs.declared.style.LeadStyle.{LeadStyle}
use Rattle.composer.specs.declared.style.Style.{Style}
use Rattle.composer.specs.declared.lead.melody.Sung.{Sung}
use Rattle.composer.specs.declared.lead.role.Role.{Role}
use Rattle.composer.specs.declared.lead.role.Role.TheVariants.{Quote, Close, Peak, Resolve, ChordTone, Passing}

-- note i of the n notes of a bar; `heads` notes of bar 0 are its head, `from` and `prev` are the pitches two notes
-- before and one before, and `tone` is what the draw says. The first that applies: bar 4 quotes the head, bar 7's last
-- note closes, bar 5's first is the peak, a leap of more than four semitones is resolved, a strong beat has a chord
-- tone, and on any other the draw decides
abbrev pub rule_of : (bar i n : ℕ) (strong : Bool) (heads from prev : ℕ) (tone : Bool) → Role
rule_of bar i n strong heads from prev tone =
    cond (eqb bar 4 && ltb i heads) Quote
    (cond (eqb bar 7 && eqb (i + 1) n) Close
    (cond (eqb bar 5 && eqb i 0) Peak
    (cond (ltb 4 (distance_of from prev)) Resolve
    (cond (strong || tone) ChordTone Passing))))

-- how many notes a bar has, and the bars before it
abbrev pub notes_of_bar : List Beats → ℕ → ℕ
notes_of_bar beats k = (get_or beats k past_beats).n

abbrev pub notes_before : List Beats → ℕ → ℕ
notes_before beats k = sum_to (notes_of_bar beats) k

-- the head that bar 4 quotes: bar 0's first two notes, or fewer where it has fewer
abbrev pub heads_in : List Beats → ℕ
heads_in beats = min 2 (notes_of_bar beats 0)

-- the pitch before lead note n: that of the note before it, and before the first the one that the line starts from
unfoldable pub midi_before : ℕ → List Note → ℕ → ℕ
midi_before start notes zero = start
midi_before start notes (suc n) = (get_or notes n past_note).midi

-- a draw with the chance of a chord tone, 0.55
abbrev pub tone_drawn : NoiseStream → Bool
tone_drawn s = (chance_of s tone_chance).value

-- the melody before note i of bar k
abbrev pub sung_before : NoiseStream → List Beats → List Chord → List Bool → LeadStyle → ℕ → ℕ → Sung
sung_before s beats bars pool style k i =
    let start = start_of style (get_or bars 0 past_chord) pool in
    bar_to pool (ground_of style (get_or bars k past_chord) pool) k (get_or beats k past_beats) (bars_to beats bars pool style (nothing_sung start s) k) i

-- ---- of a song, by its lead's stream and its harmony
-- the rhythm of its lead
abbrev pub song_beats : NoiseStream → Style → List Beats
song_beats s style = (rhythm_of s (lead_style_of style)).value

-- the pitch that its melody starts from
abbrev pub song_start : Harmony → Style → ℕ
song_start h style = start_of (lead_style_of style) (get_or h.bars 0 past_chord) (pool_of h.scale)

-- its stream before note i of bar k
abbrev pub song_stream : NoiseStream → Harmony → Style → ℕ → ℕ → NoiseStream
song_stream s h style k i = (sung_before (rhythm_of s (lead_style_of style)).stream (song_beats s style) h.bars (pool_of h.scale) (lead_style_of style) k i).line.stream

-- lead note n is note `place` of bar `bar`, and has its role by the rule
pub record ToldAt (s : NoiseStream) (h : Harmony) (style : Style) (notes : List Note) (n : ℕ) : Type 0 where
  pub bar : ℕ
  pub place : ℕ
  pub in_loop : bar < 8
  pub in_bar : place < notes_of_bar (song_beats s style) bar
  pub stands : n ≡ notes_before (song_beats s style) bar + place
  pub of_bar : (get_or notes n past_note).bar ≡ bar
  pub role : (get_or notes n past_note).role
      ≡ noted_of (rule_of bar place (notes_of_bar (song_beats s style) bar) (is_strong_of (get_or (get_or (song_beats s style) bar past_beats).at place nan))
      (heads_in (song_beats s style)) (midi_before (song_start h style) notes (n - 1)) (midi_before (song_start h style) notes n) (tone_drawn (song_stream s h style bar place)))

-- every note of a lead is told so, and it has as many as its rhythm
pub record LeadTold (s : NoiseStream) (h : Harmony) (style : Style) (notes : List Note) (count : ℕ) : Type 0 where
  pub all : count ≡ notes_before (song_beats s style) 8
  pub each : (n : ℕ) → n < count → ToldAt s h style notes n
