-- Three draws give the traits of a song. Assumes nothing.
use mathlib.Core.Path.{◌≡◌, refl, ap, ◌∙◌}
use mathlib.Core.Bool.{Bool, true, false}
use Prim.Native.Nat.{ℕ, ◌<◌}
use native.Mathlib.Omega.{arith}
use lib.ListN.{get_or}
use lib.Ieee.{to_unsigned}
use Rattle.laws.specs.Floats.{f32_of}
use Rattle.laws.specs.Lists.{pad}
use Rattle.laws.proofs.Rounding.{whole_back}
use Rattle.streams.specs.Draw.{picked_of, pick_of, chance_of}
use Rattle.streams.specs.Stage.{stream_of}
use Rattle.streams.specs.Stream.{unit_at}
use Rattle.streams.specs.declared.stage.Stage.{Stage}
use Rattle.streams.specs.declared.stream.NoiseStream.{NoiseStream}
use Rattle.streams.proofs.DrawLaws.{picked_lt, pick_number}
use Rattle.composer.specs.Compose.{song_by, composed_of}
use Rattle.composer.specs.Harmony.{rows_of, melody_pcs_of, harmony_in, harmony_of}
use Rattle.composer.specs.Style.{major_share_of}
use Rattle.composer.specs.Tempo.{beats_of, tempo_of}
use Rattle.composer.specs.Traits.{traits_in, drawn_key, drawn_traits}
use Rattle.composer.specs.Voice.{lead_voice_of}
use Rattle.composer.specs.declared.style.Style.{Style}
use Rattle.composer.proofs.HarmonyLaws.{key_next}
use Rattle.composer.proofs.TempoLaws.{beats_byte}

-- a scale starts with its key
scale_first : (key : ℕ) (major : Bool) → key < 12 → get_or (melody_pcs_of key major).pcs 0 0 ≡ key
unfolding melody_pcs_of pad
scale_first key true h = omega arith
scale_first key false h = omega arith

-- a harmony's scale starts with what its third draw picks
harmony_first : (s : NoiseStream) (style : Style) → get_or (harmony_of s style).value.scale.pcs 0 0 ≡ picked_of (unit_at s 3) 12
unfolding harmony_of harmony_in
harmony_first s style =
    let a = chance_of s (major_share_of style) in
    let b = pick_of a.stream (rows_of a.value) in
    let third = pick_number s b.stream 2 12 (key_next s style) in
    rw third (scale_first (picked_of (unit_at s 3) 12) a.value (picked_lt (unit_at s 3) 12 (omega arith)))

module _ (style : Style) (seed : ℕ) where
  key_drawn : get_or (composed_of style seed).scale.pcs 0 0 ≡ drawn_key seed
  unfolding composed_of song_by drawn_key
  key_drawn = harmony_first (stream_of Stage.Harmony seed) style

  tempo_drawn : (composed_of style seed).score.bpm ≡ f32_of (beats_of (stream_of Stage.Tempo seed) style)
  unfolding composed_of song_by tempo_of
  tempo_drawn = refl

  beats_drawn : to_unsigned 64 (composed_of style seed).score.bpm ≡ beats_of (stream_of Stage.Tempo seed) style
  beats_drawn = ap (to_unsigned 64) tempo_drawn ∙ whole_back (beats_of (stream_of Stage.Tempo seed) style) (omega (arith, beats_byte (stream_of Stage.Tempo seed) style))

  -- the traits of the song are those of the three draws
  pub traits_drawn : traits_in (composed_of style seed) ≡ drawn_traits style seed
  unfolding traits_in drawn_traits composed_of song_by lead_voice_of
  traits_drawn = rw (key_drawn, beats_drawn)

  -- its tempo is the whole number itself
  pub traits_tempo : (composed_of style seed).score.bpm ≡ f32_of (traits_in (composed_of style seed)).tempo
  unfolding traits_in
  traits_tempo = rw beats_drawn tempo_drawn
