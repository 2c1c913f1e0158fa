-- Any other style is refused, and what holds of every song: each stage's laws, at its own stream. Assumes nothing.
use mathlib.Core.Path.{◌≡◌, refl, sym, subst}
use mathlib.Core.Bool.{Bool, true, false}
use mathlib.Core.List.{List, [], ◌∷◌, ◌++◌, map}
use Prim.Native.Nat.{ℕ, zero, suc, ◌-◌, ◌≤◌, ◌<◌}
use native.Mathlib.Omega.{arith}
use lib.Ieee.{Float}
use lib.ListN.{length, get_or, replicate}
use Rattle.std.proofs.Common.{Ok, Err, IfOk}
use Rattle.laws.specs.Lists.{pad}
use Rattle.laws.proofs.Lists.{replicate_at, pad_past}
use Rattle.streams.specs.Stage.{stream_of}
use Rattle.streams.specs.declared.stage.Stage.{Stage}
use Rattle.streams.specs.declared.stream.NoiseStream.{NoiseStream}
use Rattle.streams.specs.declared.stream.Draw.{Draw}
use Rattle.composer.specs.Bass.{bass_of}
use Rattle.composer.specs.Chord.{past_chord}
use Rattle.composer.specs.Compose.{beat_s_of, song_by, composed_of, compose_of}
use Rattle.composer.specs.Drums.{drums_of}
use Rattle.composer.specs.Early.{EarlyPromise}
use Rattle.composer.specs.Harmony.{pentatonic, colour, class_in, classes_of, melody_pcs_of, harmony_of, Tonal}
use Rattle.composer.specs.Keys.{KeysLane, keys_of}
use Rattle.composer.specs.Lead.{lead_of}
use Rattle.composer.specs.Promise.{LanesPromise, BarsPromise, EventsPromise, ScorePromise, DrawsPromise, SongPromise}
use Rattle.composer.specs.Range.{Within, RangePromise}
use Rattle.composer.specs.Roles.{RolesPromise, RolesTold}
use Rattle.composer.specs.Refusal.{Refuses, answered}
use Rattle.composer.specs.Style.{style_number_of, lead_style_of}
use Rattle.composer.specs.Tempo.{beats_of, tempo_of}
use Rattle.composer.specs.Voice.{lead_voice_of}
use Rattle.composer.specs.Bass.Line.{BassLane}
use Rattle.composer.specs.declared.compose.Composed.{Composed}
use Rattle.composer.specs.Drums.Kit.{DrumLane}
use Rattle.composer.specs.declared.harmony.Harmony.{Harmony}
use Rattle.composer.specs.declared.harmony.Scale.{Scale}
use Rattle.composer.specs.Lead.Played.{LeadLane}
use Rattle.composer.specs.declared.refusal.Refusal.{Refusal}
use Rattle.composer.specs.declared.score.Score.{Score}
use Rattle.composer.specs.declared.style.Style.{Style}
use Rattle.composer.specs.declared.voice.LeadVoice.{LeadVoice}
use Rattle.composer.proofs.ChordLaws.{root_size, root_within}
use Rattle.composer.proofs.DrumsLaws.{drums_laid, drums_occur, drums_few, drums_counter}
use Rattle.composer.proofs.HarmonyLaws.{harmony_tonal, harmony_count, harmony_counter, tonal_root}
use Rattle.composer.proofs.PlainLaws.{plain_numbers}
use Rattle.composer.proofs.RangeLaws.{tempo_between, beat_in}
use Rattle.composer.proofs.TempoLaws.{tempo_within, tempo_counter}
use Rattle.composer.proofs.VoiceLaws.{voice_counter}
use Rattle.composer.proofs.bass.PlainLaws.{bass_back}
use Rattle.composer.proofs.bass.PromiseLaws.{bass_laid, bass_occur, bass_few, bass_sounds, bass_within}
use Rattle.composer.proofs.drums.EarlyLaws.{drums_early, drums_first, drums_late}
use Rattle.composer.proofs.keys.DrawLaws.{keys_counter}
use Rattle.composer.proofs.keys.NoteLaws.{keys_laid, keys_few}
use Rattle.composer.proofs.keys.PlainLaws.{keys_within, keys_back}
use Rattle.composer.proofs.lead.LeadLaws.{lead_laid, lead_few, lead_fits, lead_roles}
use Rattle.composer.proofs.lead.RuleLaws.{lead_told}
use Rattle.composer.proofs.lead.ScaleLaws.{has_occurs}

pub unknown_style : (style seed : ℕ) → 2 ≤ style → compose_of style seed ≡ Err Refusal.UnknownStyle
unknown_style zero seed h = absurd (omega arith)
unknown_style (suc zero) seed h = absurd (omega arith)
unknown_style (suc (suc n)) seed h = refl

pub compose_refused : (style seed : ℕ) → 2 ≤ style → answered (compose_of style seed) ≡ Refuses 1
compose_refused style seed h = rw (unknown_style style seed h)

-- the song of draws that are each its definition's
pub composed_by : (style : Style) (seed : ℕ) {hs ts ls ks ds bs vs : NoiseStream} {h : Draw Harmony} {t : Draw Float} {beat : Float} {l : LeadLane} {k : KeysLane} {d : DrumLane} {b : BassLane} {v : Draw LeadVoice}
    → hs ≡ stream_of Stage.Harmony seed → h ≡ harmony_of hs style
    → ts ≡ stream_of Stage.Tempo seed → t ≡ tempo_of ts style → beat ≡ beat_s_of t.value
    → ls ≡ stream_of Stage.Lead seed → l ≡ lead_of ls h.value style beat
    → ks ≡ stream_of Stage.Keys seed → k ≡ keys_of ks h.value style beat
    → ds ≡ stream_of Stage.Drums seed → d ≡ drums_of ds style beat
    → bs ≡ stream_of Stage.Bass seed → b ≡ bass_of bs h.value style beat
    → vs ≡ stream_of Stage.LeadVoice seed → v ≡ lead_voice_of vs style
    → song_by style h t l k d b v ≡ composed_of style seed
unfolding composed_of
composed_by style seed hs h ts t beat ls l ks k ds d bs b vs v = rw (v, vs, b, bs, d, ds, k, ks, l, ls, beat, t, ts, h, hs)

-- a style's number gives its song
pub composed_is : (style : Style) (seed : ℕ) → compose_of (style_number_of style) seed ≡ Ok (composed_of style seed)
composed_is Style.Hiphop seed = refl
composed_is Style.Sleep seed = refl

-- five classes, or six
pcs_least : (key : ℕ) (major : Bool) → 5 ≤ (melody_pcs_of key major).n
unfolding melody_pcs_of
pcs_least key true = omega arith
pcs_least key false = omega arith

pcs_most : (key : ℕ) (major : Bool) → (melody_pcs_of key major).n ≤ 6
unfolding melody_pcs_of
pcs_most key true = omega arith
pcs_most key false = omega arith

pcs_size : (key : ℕ) (major : Bool) → length (melody_pcs_of key major).pcs ≡ 6
unfolding melody_pcs_of pad
pcs_size key true = refl
pcs_size key false = refl

class_lt : (key n : ℕ) (pcs : List ℕ) (k : ℕ) → get_or (map (class_in key) pcs ++ replicate n 0) k 0 < 12
class_lt key n [] k = rw (replicate_at {A = ℕ} n k 0) (omega arith)
class_lt key n (x ∷ pcs) zero = omega arith
class_lt key n (x ∷ pcs) (suc k) = class_lt key n pcs k

pcs_classes : (key : ℕ) (major : Bool) (k : ℕ) → get_or (melody_pcs_of key major).pcs k 0 < 12
unfolding melody_pcs_of pad
pcs_classes key major = class_lt key (6 - length (classes_of key major)) (pentatonic ++ colour major)

pcs_rest : (key : ℕ) (major : Bool) (k : ℕ) → (melody_pcs_of key major).n ≤ k → get_or (melody_pcs_of key major).pcs k 0 ≡ 0
unfolding melody_pcs_of
pcs_rest key major = pad_past {A = ℕ} 0 6 (classes_of key major)

-- either style's window
lead_window : (style : Style) (n : ℕ) → (lead_style_of style).lo ≤ n → n ≤ (lead_style_of style).hi → Within 60 81 n
lead_window Style.Hiphop n l m = record { least = omega arith; most = omega arith }
lead_window Style.Sleep n l m = record { least = omega arith; most = omega arith }

module _ (style : Style) (seed : ℕ) where
  abbrev harmony : Harmony
  harmony = (harmony_of (stream_of Stage.Harmony seed) style).value

  abbrev beat_s : Float
  beat_s = beat_s_of (tempo_of (stream_of Stage.Tempo seed) style).value

  tonal : Tonal harmony
  tonal = harmony_tonal (stream_of Stage.Harmony seed) style

  lanes_promise : LanesPromise (composed_of style seed).score
  unfolding composed_of song_by
  lanes_promise = record {
    lead = lead_laid (stream_of Stage.Lead seed) harmony tonal style beat_s;
    keys = keys_laid (stream_of Stage.Keys seed) harmony style beat_s;
    hits = drums_laid (stream_of Stage.Drums seed) style beat_s;
    bass = bass_laid (stream_of Stage.Bass seed) harmony style beat_s tonal;
  }

  bars_promise : BarsPromise (composed_of style seed).score
  unfolding composed_of song_by
  bars_promise = record {
    lead = lead_few (stream_of Stage.Lead seed) harmony tonal style beat_s;
    keys = keys_few (stream_of Stage.Keys seed) harmony style beat_s;
    hits = drums_few (stream_of Stage.Drums seed) style beat_s;
    bass = bass_few (stream_of Stage.Bass seed) harmony style beat_s tonal;
  }

  range_promise : RangePromise (composed_of style seed).score
  unfolding composed_of song_by tempo_of
  range_promise =
      let beat = beat_in (beats_of (stream_of Stage.Tempo seed) style) (tempo_between (stream_of Stage.Tempo seed) style) in
      record {
        chord_size = λ b h. root_size (get_or harmony.bars b past_chord) (tonal_root harmony tonal b h);
        chords = λ b k h. root_within (get_or harmony.bars b past_chord) (tonal_root harmony tonal b h) k;
        lead = λ i h. let f = lead_fits (stream_of Stage.Lead seed) harmony tonal style beat_s i h in lead_window style _ f.0 f.1;
        keys = keys_within (stream_of Stage.Keys seed) harmony tonal style beat_s beat;
        bass = bass_within (stream_of Stage.Bass seed) harmony style beat_s tonal;
      }

  early_promise : EarlyPromise (composed_of style seed).score
  unfolding composed_of song_by tempo_of
  early_promise =
      let n = beats_of (stream_of Stage.Tempo seed) style in
      let tempo = tempo_between (stream_of Stage.Tempo seed) style in
      let s = stream_of Stage.Drums seed in
      record { few = drums_early n tempo s style; first = drums_first n tempo s style; late = drums_late n tempo s style }

  roles_promise : RolesPromise (composed_of style seed).score
  unfolding composed_of song_by tempo_of
  roles_promise =
      let n = beats_of (stream_of Stage.Tempo seed) style in
      let tempo = tempo_between (stream_of Stage.Tempo seed) style in
      record {
        lead = lead_roles (stream_of Stage.Lead seed) harmony tonal style beat_s;
        keys = keys_back (stream_of Stage.Keys seed) harmony tonal style beat_s (beat_in n tempo);
        bass = bass_back (stream_of Stage.Bass seed) harmony tonal style n tempo;
      }

  score_promise : ScorePromise style (composed_of style seed).score (composed_of style seed).scale
  unfolding composed_of song_by tempo_of
  score_promise =
      let within = tempo_within (stream_of Stage.Tempo seed) style in
      record {
        in_style = refl;
        beats = beats_of (stream_of Stage.Tempo seed) style;
        tempo = refl;
        tempo_least = within.0;
        tempo_most = within.1;
        chord_count = harmony_count (stream_of Stage.Harmony seed) style;
        chords = tonal_root harmony tonal;
        lanes = lanes_promise;
        bars = bars_promise;
        plain = plain_numbers style seed;
        range = range_promise;
        early = early_promise;
        roles = roles_promise;
        hit_in_each = drums_occur (stream_of Stage.Drums seed) style beat_s;
        bass_in_each = bass_occur (stream_of Stage.Bass seed) harmony style beat_s tonal;
        lead_sings = λ i h. let f = lead_fits (stream_of Stage.Lead seed) harmony tonal style beat_s i h in record { least = f.0; most = f.1; class = has_occurs harmony.scale.n harmony.scale.pcs _ f.2 };
        bass_sounds = bass_sounds (stream_of Stage.Bass seed) harmony style beat_s tonal;
        scale_least = subst (λ (x : Scale). 5 ≤ x.n) (sym tonal.scale) (pcs_least tonal.key tonal.major);
        scale_most = subst (λ (x : Scale). x.n ≤ 6) (sym tonal.scale) (pcs_most tonal.key tonal.major);
        scale_size = subst (λ (x : Scale). length x.pcs ≡ 6) (sym tonal.scale) (pcs_size tonal.key tonal.major);
        scale_classes = subst (λ (x : Scale). (k : ℕ) → get_or x.pcs k 0 < 12) (sym tonal.scale) (pcs_classes tonal.key tonal.major);
        scale_rest = subst (λ (x : Scale). (k : ℕ) → x.n ≤ k → get_or x.pcs k 0 ≡ 0) (sym tonal.scale) (pcs_rest tonal.key tonal.major);
      }

  -- every note of the lead has its role by the rule of the melody
  pub song_told : RolesTold style seed
  unfolding composed_of song_by
  song_told = lead_told (stream_of Stage.Lead seed) harmony tonal style beat_s

  draws_promise : DrawsPromise style (composed_of style seed).score (composed_of style seed).counters
  unfolding composed_of song_by
  draws_promise = record {
    harmony = harmony_counter seed style;
    tempo = tempo_counter seed style;
    keys = keys_counter harmony beat_s seed style;
    drums = drums_counter seed style beat_s;
    voice = voice_counter seed style;
  }

  pub song_promise : SongPromise style seed (composed_of style seed)
  song_promise = record { given = rw (composed_is style seed); score = score_promise; draws = draws_promise }

-- whatever is not refused is a song
pub done_promise : (style seed : ℕ) → IfOk (compose_of style seed) (λ (c : Composed). ScorePromise c.score.style c.score c.scale)
unfolding composed_of song_by
done_promise zero seed = (song_promise Style.Hiphop seed).score
done_promise (suc zero) seed = (song_promise Style.Sleep seed).score
done_promise (suc (suc n)) seed = tt

pub events_promise : {style : Style} {s : Score} {scale : Scale} → ScorePromise style s scale → EventsPromise s
events_promise p = record { lanes = p.lanes; plain = p.plain }
