-- The lead's voice takes one draw. Assumes nothing.
use mathlib.Core.Path.{◌≡◌, ap, ◌∙◌}
use Prim.Native.Nat.{ℕ, ◌+◌, ◌%◌, ◌^◌}
use Rattle.streams.specs.Stage.{stream_of}
use Rattle.streams.specs.declared.stage.Stage.{Stage}
use Rattle.streams.proofs.StageLaws.{stream_counter}
use Rattle.streams.proofs.StreamLaws.{after_counter}
use Rattle.composer.specs.Voice.{lead_voice_of}
use Rattle.composer.specs.declared.style.Style.{Style}

pub voice_counter : (seed : ℕ) (style : Style) → (lead_voice_of (stream_of Stage.LeadVoice seed) style).stream.counter ≡ 1
unfolding lead_voice_of
voice_counter seed style = after_counter (stream_of Stage.LeadVoice seed) 1 ∙ ap (λ (n : ℕ). (n + 1) % 2 ^ 64) (stream_counter Stage.LeadVoice seed)
