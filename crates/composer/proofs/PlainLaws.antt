-- Every f32 of a song's score is a plain number, at every seed and in both styles. Assumes nothing.
use Prim.Native.Nat.{ℕ}
use lib.IntN.{pos}
use lib.Ieee.{binary32}
use lib.Ieee.Fits.{of_int-fits}
use Rattle.laws.specs.Floats.{f32_of}
use Rattle.streams.specs.Stage.{stream_of}
use Rattle.streams.specs.declared.stage.Stage.{Stage}
use Rattle.composer.specs.Compose.{beat_s_of, song_by, composed_of}
use Rattle.composer.specs.Harmony.{harmony_of}
use Rattle.composer.specs.Plain.{PlainPromise}
use Rattle.composer.specs.Tempo.{beats_of, tempo_of}
use Rattle.composer.specs.declared.style.Style.{Style}
use Rattle.composer.proofs.HarmonyLaws.{harmony_tonal}
use Rattle.composer.proofs.RangeLaws.{tempo_between, tempo_in, beat_in}
use Rattle.composer.proofs.bass.PlainLaws.{bass_plain}
use Rattle.composer.proofs.drums.PlainLaws.{drums_plain}
use Rattle.composer.proofs.keys.PlainLaws.{keys_plain}
use Rattle.composer.proofs.lead.PlainLaws.{lead_plain}

pub plain_numbers : (style : Style) (seed : ℕ) → PlainPromise (composed_of style seed).score
unfolding composed_of song_by tempo_of
plain_numbers style seed =
    let h = (harmony_of (stream_of Stage.Harmony seed) style).value in
    let tonal = harmony_tonal (stream_of Stage.Harmony seed) style in
    let n = beats_of (stream_of Stage.Tempo seed) style in
    let tempo = tempo_between (stream_of Stage.Tempo seed) style in
    let beatS = beat_s_of (f32_of n) in
    let beat = beat_in n tempo in
    record {
      bpm = tempo_in n tempo;
      bpm_fits = of_int-fits binary32 (pos n);
      lead = lead_plain beatS beat (stream_of Stage.Lead seed) h tonal style;
      keys = keys_plain (stream_of Stage.Keys seed) h tonal style beatS beat;
      hits = drums_plain beatS beat (stream_of Stage.Drums seed) style;
      bass = bass_plain (stream_of Stage.Bass seed) h tonal style n tempo;
    }
