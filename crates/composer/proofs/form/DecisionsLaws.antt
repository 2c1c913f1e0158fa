-- What holds of every decision, whatever the draws, and that the array of draws is the draws by number. Assumes nothing.
use mathlib.Core.Path.{◌≡◌, refl, ap, ◌∙◌}
use mathlib.Core.List.{[], ◌∷◌}
use Prim.Native.Nat.{ℕ, zero, suc, ◌+◌, ◌%◌, ◌^◌, ◌≤◌}
use native.Mathlib.Omega.{arith}
use lib.Ieee.{Float}
use Rattle.laws.specs.Lists.{list_to}
use Rattle.streams.specs.Stream.{unit_at}
use Rattle.streams.specs.Stage.{stream_of}
use Rattle.streams.specs.declared.stage.Stage.{Stage}
use Rattle.streams.specs.declared.stream.NoiseStream.{NoiseStream}
use Rattle.streams.proofs.StreamLaws.{after_counter}
use Rattle.streams.proofs.StageLaws.{stream_counter}
use Rattle.streams.proofs.DrawLaws.{picked_le}
use Rattle.composer.specs.Form.Body.{cut_at}
use Rattle.composer.specs.Form.Decisions.{cut_of, cuts_by, decisions_by, decide_of, unit_from, listed}
use Rattle.composer.proofs.BandLaws.{band_le}

module _ (draw : ℕ → Float) where
  pub phrases_least : 4 ≤ (decisions_by draw).phrases
  unfolding decisions_by
  phrases_least = omega arith

  pub phrases_most : (decisions_by draw).phrases ≤ 6
  unfolding decisions_by
  phrases_most = omega (arith, picked_le (draw 3) 3)

cut_short : (u v w : Float) → (cut_of u v w).bars ≤ 3
unfolding cut_of
cut_short u v w = omega (arith, band_le v 55 (20 ∷ 25 ∷ []))

-- no cut is longer than three bars
pub cuts_short : (draw : ℕ → Float) (p : ℕ) → (cut_at (decisions_by draw) p).bars ≤ 3
unfolding decisions_by cuts_by
cuts_short draw zero = cut_short (draw 8) (draw 9) (draw 10)
cuts_short draw (suc zero) = cut_short (draw 11) (draw 12) (draw 13)
cuts_short draw (suc (suc zero)) = cut_short (draw 14) (draw 15) (draw 16)
cuts_short draw (suc (suc (suc zero))) = cut_short (draw 17) (draw 18) (draw 19)
cuts_short draw (suc (suc (suc (suc zero)))) = cut_short (draw 20) (draw 21) (draw 22)
cuts_short draw (suc (suc (suc (suc (suc zero))))) = cut_short (draw 23) (draw 24) (draw 25)
cuts_short draw (suc (suc (suc (suc (suc (suc p)))))) = omega arith

-- draw n stands at n - 1 of the array
pub by_number : (s : NoiseStream) → decisions_by (listed (list_to (unit_from s) 29)) ≡ decisions_by (unit_at s)
unfolding list_to decisions_by cuts_by
by_number s = refl

-- 29 draws, always
pub decide_counter : (seed : ℕ) → (decide_of (stream_of Stage.Form seed)).stream.counter ≡ 29
unfolding decide_of
decide_counter seed = after_counter (stream_of Stage.Form seed) 29 ∙ ap (λ (n : ℕ). (n + 29) % 2 ^ 64) (stream_counter Stage.Form seed)
