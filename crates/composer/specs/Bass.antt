-- The bass stage: a rhythm for each bar of the loop, then the notes of every bar. Definitions only.
use Rattle.std.specs.Prelude.{List, ℕ, zero, suc, ◌+◌, ◌%◌, get_or, replicate, Float}
use Rattle.streams.specs.declared.stream.NoiseStream.{NoiseStream}
use Rattle.composer.specs.Chord.{root_class_of, past_chord}
use Rattle.composer.specs.Note.{no_note}
use Rattle.composer.specs.Style.{bass_style_of}
use Rattle.composer.specs.Bass.Rhythm.{Steps, past_steps, bass_rhythms_of}
use Rattle.composer.specs.Bass.Line.{BassLane, bar_played}
use Rattle.composer.specs.declared.chord.Chord.{Chord}
use Rattle.composer.specs.declared.harmony.Harmony.{Harmony}
use Rattle.composer.specs.declared.style.Style.{Style}
use Rattle.composer.specs.declared.style.BassStyle.{BassStyle}
use Rattle.composer.specs.declared.bass.line.BarPart.{BarPart}
pub mod Line
pub mod Promise
pub mod Rhythm

-- what bar b is played from; bar 0 follows bar 7
unfoldable pub part_of : List Chord → List Steps → ℕ → BarPart
part_of chords rhythms b =
    let next = (b + 1) % 8 in
    record {
      bar = b;
      root_pc = root_class_of (get_or chords b past_chord);
      next_pc = root_class_of (get_or chords next past_chord);
      steps = get_or rhythms b past_steps;
      next_step = get_or (get_or rhythms next past_steps).at 0 0;
    }

-- the first b bars
unfoldable pub bars_played : List Chord → List Steps → BassStyle → Float → BassLane → ℕ → BassLane
bars_played chords rhythms style beatS l zero = l
bars_played chords rhythms style beatS l (suc b) =
    let p = part_of chords rhythms b in
    bar_played (bars_played chords rhythms style beatS l b) p style beatS p.steps.n

abbrev pub no_bass : NoiseStream → BassLane
no_bass s = record { value = record { at = replicate 104 no_note; n = 0 }; stream = s }

-- every bar's rhythm before any note
unfoldable pub bass_of : NoiseStream → Harmony → Style → Float → BassLane
bass_of s h style beatS =
    let r = bass_rhythms_of s in
    bars_played h.bars r.value (bass_style_of style) beatS (no_bass r.stream) 8
