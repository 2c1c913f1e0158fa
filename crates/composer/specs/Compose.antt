-- A song of a style and a seed: each stage draws from its own stream. Definitions only.
use Rattle.std.specs.Prelude.{cond, ℕ, eqb, replicate, Float, Result, Ok, Err}
use Rattle.std.specs.Float.{binary32}
use Rattle.std.specs.Float.Ieee.{of_bits, div}
use Rattle.streams.specs.Stage.{stream_of}
use Rattle.streams.specs.declared.stage.Stage.{Stage}
use Rattle.streams.specs.declared.stream.Draw.{Draw}
use Rattle.composer.specs.Bass.{bass_of}
use Rattle.composer.specs.Chord.{no_chord}
use Rattle.composer.specs.Drums.{drums_of}
use Rattle.composer.specs.Harmony.{harmony_of}
use Rattle.composer.specs.Keys.{KeysLane, keys_of}
use Rattle.composer.specs.Lead.{lead_of}
use Rattle.composer.specs.Note.{zero32, no_note, no_hit}
use Rattle.composer.specs.Style.{style_named}
use Rattle.composer.specs.Tempo.{tempo_of}
use Rattle.composer.specs.Voice.{lead_voice_of}
use Rattle.composer.specs.Bass.Line.{BassLane}
use Rattle.composer.specs.declared.compose.Composed.{Composed}
use Rattle.composer.specs.Drums.Kit.{DrumLane}
use Rattle.composer.specs.Lead.Played.{LeadLane}
use Rattle.composer.specs.declared.refusal.Refusal.{Refusal}
use Rattle.composer.specs.declared.score.Score.{Score}
use Rattle.composer.specs.declared.style.Style.{Style}
use Rattle.composer.specs.declared.voice.LeadVoice.{LeadVoice}
use Rattle.composer.specs.declared.harmony.Harmony.{Harmony}

-- a beat is 60 / tempo
abbrev pub beat_s_of : Float → Float
beat_s_of bpm = div binary32 (of_bits binary32 0x4270_0000) bpm

-- the song of what each stage has drawn
unfoldable pub song_by : Style → Draw Harmony → Draw Float → LeadLane → KeysLane → DrumLane → BassLane → Draw LeadVoice → Composed
song_by style h t l k d b v = record {
  score = record {
    style = style;
    bpm = t.value;
    bar_chords = h.value.bars;
    lead = l.value;
    keys = k.value;
    hits = d.value;
    bass = b.value;
    lead_voice = v.value;
  };
  scale = h.value.scale;
  -- how many draws each stream has made
  counters = record {
    harmony = h.stream.counter;
    tempo = t.stream.counter;
    lead = l.stream.counter;
    keys = k.stream.counter;
    drums = d.stream.counter;
    bass = b.stream.counter;
    voice = v.stream.counter;
  };
}

-- each stage draws from its own stream; the lanes read harmony and tempo
unfoldable pub composed_of : Style → ℕ → Composed
composed_of style seed =
    let h = harmony_of (stream_of Stage.Harmony seed) style in
    let t = tempo_of (stream_of Stage.Tempo seed) style in
    let beatS = beat_s_of t.value in
    let lead = lead_of (stream_of Stage.Lead seed) h.value style beatS in
    let keys = keys_of (stream_of Stage.Keys seed) h.value style beatS in
    let drums = drums_of (stream_of Stage.Drums seed) style beatS in
    let bass = bass_of (stream_of Stage.Bass seed) h.value style beatS in
    let voice = lead_voice_of (stream_of Stage.LeadVoice seed) style in
    song_by style h t lead keys drums bass voice

-- a score with no event
abbrev pub no_score : Score
no_score = record {
  style = Style.Hiphop;
  bpm = zero32;
  bar_chords = replicate 8 no_chord;
  lead = record { at = replicate 56 no_note; n = 0 };
  keys = record { at = replicate 128 no_note; n = 0 };
  hits = record { at = replicate 98 no_hit; n = 0 };
  bass = record { at = replicate 104 no_note; n = 0 };
  lead_voice = LeadVoice.EpVel;
}

-- of 0 and 1; who asks for another number refuses it
abbrev pub style_by : ℕ → Style
style_by n = cond (eqb n 0) Style.Hiphop Style.Sleep

abbrev pub compose_by : Result Style Refusal → ℕ → Result Composed Refusal
compose_by (Ok style) seed = Ok (composed_of style seed)
compose_by (Err r) seed = Err r

-- style 0 is hiphop, 1 sleep; any other is refused
abbrev pub compose_of : ℕ → ℕ → Result Composed Refusal
compose_of n seed = compose_by (style_named n) seed
