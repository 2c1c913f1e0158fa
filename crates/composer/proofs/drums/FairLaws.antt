-- What every groove keeps to: its beats, its drag and its swing, and how hard it strikes, as they compute. Assumes
-- nothing.
use mathlib.Core.Bool.{Bool, ◌&&◌}
use Prim.Native.Nat.{ℕ, zero, suc, ◌%◌, ◌<◌}
use native.Mathlib.Omega.{arith}
use lib.Dec.{T, eqb}
use lib.ListN.{get_or}
use lib.Ieee.{Float, nan, binary32, add, mul, of_int, of_bits, le}
use mir.Facts.{and_yes}
use Rattle.laws.specs.Floats.{f32_of, In}
use Rattle.laws.proofs.Bools.{either}
use Rattle.laws.proofs.Runs.{every, every_at}
use Rattle.composer.specs.Drums.Grooves.{ghost_kick, hiphop_groove_of, sleep_groove}
use Rattle.composer.specs.Drums.Kit.{kick_beat_of}
use Rattle.composer.specs.Note.{zero32}
use Rattle.composer.specs.declared.drums.grooves.Kick.{Kick}
use Rattle.composer.specs.declared.drums.grooves.Groove.{Groove}
use Rattle.composer.proofs.RangeLaws.{between, between_in, stays}

-- beats up to 3.75, gains from 0.35 to 0.85
abbrev pub last_beat : Float
last_beat = of_bits binary32 0x4070_0000

abbrev pub least_gain : Float
least_gain = of_bits binary32 0x3eb3_3333

abbrev pub most_gain : Float
most_gain = of_bits binary32 0x3f59_999a

-- a drag from 0.015 to 0.018, a swing from 0.5 to 0.75, hats from 0.4 to 0.65625
abbrev pub least_drag : Float
least_drag = of_bits binary32 0x3c75_c28f

abbrev pub most_drag : Float
most_drag = of_bits binary32 0x3c93_74bc

abbrev pub half : Float
half = of_bits binary32 0x3f00_0000

abbrev pub most_swing : Float
most_swing = of_bits binary32 0x3f40_0000

abbrev pub least_hat : Float
least_hat = of_bits binary32 0x3ecc_cccd

abbrev pub most_hat : Float
most_hat = of_bits binary32 0x3f28_0000

abbrev on_beats : Float → Bool
on_beats x = between zero32 last_beat x

abbrev pub fair_kick : Kick → Bool
fair_kick k = (on_beats k.even && on_beats k.odd) && between least_gain most_gain k.gain

abbrev fair_kicks : Groove → Bool
fair_kicks g = (fair_kick g.first && fair_kick g.second) && between least_drag most_drag g.drag_s

-- no snare before the second beat
abbrev fair_snare : Groove → ℕ → Bool
fair_snare g i = between (f32_of 1) last_beat (get_or g.snares.at i nan)

abbrev fair_snares : Groove → Bool
fair_snares g = every g.snares.n (fair_snare g) && between least_gain most_gain g.snare_gain

abbrev fair_hats : Groove → Bool
fair_hats g = between half most_swing g.hats.swing && stays g.hats.velocity least_hat most_hat

abbrev pub fair : Groove → Bool
fair g = fair_kicks g && (fair_snares g && fair_hats g)

pub hiphop_fair : (n : ℕ) → n < 4 → T (fair (hiphop_groove_of n))
unfolding hiphop_groove_of of_bits of_int mul add le
hiphop_fair zero h = tt
hiphop_fair (suc zero) h = tt
hiphop_fair (suc (suc zero)) h = tt
hiphop_fair (suc (suc (suc zero))) h = tt
hiphop_fair (suc (suc (suc (suc n)))) h = absurd (omega arith)

pub sleep_fair : T (fair sleep_groove)
unfolding of_bits of_int mul add le
sleep_fair = tt

-- ---- a kick
pub ghost_fair : T (fair_kick ghost_kick)
unfolding of_bits le
ghost_fair = tt

module _ (k : Kick) (isFair : T (fair_kick k)) where
  beats_and_gain : T (on_beats k.even && on_beats k.odd) × T (between least_gain most_gain k.gain)
  beats_and_gain = and_yes (on_beats k.even && on_beats k.odd) (between least_gain most_gain k.gain) isFair

  pub kick_beat : (number : ℕ) → In zero32 last_beat (kick_beat_of k number)
  kick_beat number =
      let u = and_yes (on_beats k.even) (on_beats k.odd) beats_and_gain.0 in
      either (In zero32 last_beat) (eqb (number % 2) 0) k.even k.odd (between_in zero32 last_beat k.even u.0) (between_in zero32 last_beat k.odd u.1)

  pub kick_gain : In least_gain most_gain k.gain
  kick_gain = between_in least_gain most_gain k.gain beats_and_gain.1

-- ---- a groove
module _ (g : Groove) (isFair : T (fair g)) where
  kicks_and_others : T (fair_kicks g) × T (fair_snares g && fair_hats g)
  kicks_and_others = and_yes (fair_kicks g) (fair_snares g && fair_hats g) isFair

  snares_and_hats : T (fair_snares g) × T (fair_hats g)
  snares_and_hats = and_yes (fair_snares g) (fair_hats g) kicks_and_others.1

  two_and_drag : T (fair_kick g.first && fair_kick g.second) × T (between least_drag most_drag g.drag_s)
  two_and_drag = and_yes (fair_kick g.first && fair_kick g.second) (between least_drag most_drag g.drag_s) kicks_and_others.0

  pub kicks_fair : T (fair_kick g.first) × T (fair_kick g.second)
  kicks_fair = and_yes (fair_kick g.first) (fair_kick g.second) two_and_drag.0

  pub drag_fair : In least_drag most_drag g.drag_s
  drag_fair = between_in least_drag most_drag g.drag_s two_and_drag.1

  beats_and_snare : T (every g.snares.n (fair_snare g)) × T (between least_gain most_gain g.snare_gain)
  beats_and_snare = and_yes (every g.snares.n (fair_snare g)) (between least_gain most_gain g.snare_gain) snares_and_hats.0

  pub snare_beat : (i : ℕ) → i < g.snares.n → In (f32_of 1) last_beat (get_or g.snares.at i nan)
  snare_beat i h = between_in (f32_of 1) last_beat (get_or g.snares.at i nan) (every_at g.snares.n (fair_snare g) beats_and_snare.0 i h)

  pub snare_gain_lem : In least_gain most_gain g.snare_gain
  snare_gain_lem = between_in least_gain most_gain g.snare_gain beats_and_snare.1

  swing_and_velocity : T (between half most_swing g.hats.swing) × T (stays g.hats.velocity least_hat most_hat)
  swing_and_velocity = and_yes (between half most_swing g.hats.swing) (stays g.hats.velocity least_hat most_hat) snares_and_hats.1

  pub swing_fair : In half most_swing g.hats.swing
  swing_fair = between_in half most_swing g.hats.swing swing_and_velocity.0

  pub velocity_fair : T (stays g.hats.velocity least_hat most_hat)
  velocity_fair = swing_and_velocity.1
