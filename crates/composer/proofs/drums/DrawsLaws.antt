-- How many draws the drums make: two for each hit, one wobble for each bar, and one for each eighth that may strike. Assumes nothing.
use mathlib.Core.Path.{◌≡◌, refl, ap, ◌∙◌}
use mathlib.Core.Bool.{Bool, true, false, ◌&&◌, cond}
use Prim.Native.Nat.{ℕ, zero, suc, ◌+◌, ◌*◌, ◌%◌}
use native.Mathlib.Nat.{zero-mul, suc-mul}
use native.Mathlib.Omega.{arith}
use lib.Dec.{eqb}
use lib.Ieee.{Float}
use Rattle.laws.proofs.Bools.{either}
use Rattle.streams.specs.Stream.{after}
use Rattle.streams.specs.Draw.{chance_of}
use Rattle.streams.specs.declared.stream.NoiseStream.{NoiseStream}
use Rattle.streams.specs.declared.stream.Draw.{Draw}
use Rattle.streams.proofs.StreamLaws.{after_on}
use Rattle.streams.proofs.DrawLaws.{chance_advances}
use Rattle.composer.specs.Spread.{draw_of, jitter_of}
use Rattle.composer.specs.Drums.{wobble, bar_of, lay_bar_of, bars_to}
use Rattle.composer.specs.Drums.Kit.{DrumLane, ends_statement, drawn_on, hit_accent, kick_jitter, kick_hit_of, push_kick_of, lay_kicks_of, snare_jitter, snare_hit_of, push_snare_of, snares_to, lay_snares_of, hat_jitter, hat_hit_of, push_hat_of, lay_hat_of, hats_to}
use Rattle.composer.specs.declared.spread.Spread.{Spread}
use Rattle.composer.specs.declared.spread.Jitter.{Jitter}
use Rattle.composer.specs.declared.drums.grooves.Kick.{Kick}
use Rattle.composer.specs.declared.drums.grooves.Groove.{Groove}
use Rattle.composer.specs.declared.drums.kit.Bar.{Bar}
use Rattle.composer.proofs.SpreadLaws.{draw_advances, jitter_advances}

-- from s on the lane has made n draws, and two for each hit
abbrev pub Made : NoiseStream → ℕ → DrumLane → Type 0
Made s n l = l.stream ≡ after s (n + 2 * l.value.n)

-- the draws of the first e eighths that add no hit of themselves
abbrev pub chances_to : Bool → ℕ → ℕ
chances_to offOnly zero = 0
chances_to offOnly (suc e) = chances_to offOnly e + cond (offOnly && eqb (e % 2) 0) 0 1

module _ (s : NoiseStream) where
  -- a jitter, then an accent
  hit_made : (n : ℕ) (l : DrumLane) (j : Jitter) (p : Spread) → Made s n l → (draw_of p (jitter_of j l.stream).stream).stream ≡ after s (n + 2 * (l.value.n + 1))
  hit_made n l j p m =
      let a = jitter_advances l.stream j ∙ after_on s l.stream (n + 2 * l.value.n) (n + 2 * l.value.n + 1) m refl in
      draw_advances (jitter_of j l.stream).stream p ∙ after_on s (jitter_of j l.stream).stream (n + 2 * l.value.n + 1) (n + 2 * (l.value.n + 1)) a (omega arith)

  kick_made : (n : ℕ) (l : DrumLane) (bar : Bar) (dragS : Float) (k : Kick) → Made s n l → Made s n (push_kick_of l bar dragS k)
  unfolding push_kick_of kick_hit_of
  kick_made n l bar dragS k m = hit_made n l kick_jitter hit_accent m

  snare_made : (n : ℕ) (l : DrumLane) (bar : Bar) (beat gain : Float) → Made s n l → Made s n (push_snare_of l bar beat gain)
  unfolding push_snare_of snare_hit_of
  snare_made n l bar beat gain m = hit_made n l snare_jitter hit_accent m

  module _ (g : Groove) where
    hat_made : (n : ℕ) (l : DrumLane) (bar : Bar) (e : ℕ) → Made s n l → Made s n (push_hat_of l g bar e)
    unfolding push_hat_of hat_hit_of
    hat_made n l bar e m = hit_made n l hat_jitter g.hats.velocity m

    kicks_made : (n : ℕ) (l : DrumLane) (bar : Bar) → Made s n l → Made s n (lay_kicks_of l g bar)
    unfolding lay_kicks_of
    kicks_made n l bar m =
        let two = kick_made n _ bar g.drag_s g.second (kick_made n l bar g.drag_s g.first m) in
        either (λ (k : DrumLane). Made s n k) (g.ghost_pickup && ends_statement bar) _ _ (kick_made n _ bar g.drag_s _ two) two

    snares_made : (n : ℕ) (l : DrumLane) (bar : Bar) (i : ℕ) → Made s n l → Made s n (snares_to l g bar i)
    unfolding snares_to
    snares_made n l bar zero m = m
    snares_made n l bar (suc i) m = snare_made n (snares_to l g bar i) bar _ g.snare_gain (snares_made n l bar i m)

    made_as : (n m : ℕ) (l : DrumLane) → n ≡ m → Made s n l → Made s m l
    made_as n m l e p = p ∙ ap (λ (k : ℕ). after s (k + 2 * l.value.n)) e

    chance_made : (n : ℕ) (l : DrumLane) → Made s n l → Made s (n + 1) (drawn_on l (chance_of l.stream g.hats.skip_p).stream)
    chance_made n l m = chance_advances l.stream g.hats.skip_p ∙ after_on s l.stream (n + 2 * l.value.n) (n + 1 + 2 * l.value.n) m (omega arith)

    lay_hat_made : (n : ℕ) (l : DrumLane) (bar : Bar) (e : ℕ) → Made s n l → Made s (n + cond (g.hats.off_eighths_only && eqb (e % 2) 0) 0 1) (lay_hat_of l g bar e)
    unfolding lay_hat_of
    lay_hat_made n l bar e m = go (g.hats.off_eighths_only && eqb (e % 2) 0)
      where
        skip : Draw Bool
        skip = chance_of l.stream g.hats.skip_p

        drawn : DrumLane
        drawn = drawn_on l (chance_of l.stream g.hats.skip_p).stream

        go : (b : Bool) → Made s (n + cond b 0 1) (cond b l (cond skip.value drawn (push_hat_of drawn g bar e)))
        go true = made_as n (n + 0) l (omega arith) m
        go false = either (λ (k : DrumLane). Made s (n + 1) k) skip.value _ _ (chance_made n l m) (hat_made (n + 1) drawn bar e (chance_made n l m))

    hats_made : (n : ℕ) (l : DrumLane) (bar : Bar) (e : ℕ) → Made s n l → Made s (n + chances_to g.hats.off_eighths_only e) (hats_to l g bar e)
    unfolding hats_to
    hats_made n l bar zero m = made_as n (n + 0) l (omega arith) m
    hats_made n l bar (suc e) m =
        let c = chances_to g.hats.off_eighths_only e in
        let d : ℕ = cond (g.hats.off_eighths_only && eqb (e % 2) 0) 0 1 in
        made_as (n + c + d) (n + (c + d)) (lay_hat_of (hats_to l g bar e) g bar e) (omega arith) (lay_hat_made (n + c) (hats_to l g bar e) bar e (hats_made n l bar e m))

    bar_made : (n : ℕ) (l : DrumLane) (beatS : Float) (k : ℕ) → Made s n l → Made s (n + 1 + chances_to g.hats.off_eighths_only 8) (lay_bar_of l g beatS k)
    unfolding lay_bar_of
    bar_made n l beatS k m =
        let w = draw_of wobble l.stream in
        let bar = bar_of k beatS w.value in
        let a = drawn_on l w.stream in
        let d = draw_advances l.stream wobble ∙ after_on s l.stream (n + 2 * l.value.n) (n + 1 + 2 * l.value.n) m (omega arith) in
        hats_made (n + 1) (lay_snares_of (lay_kicks_of a g bar) g bar) bar 8 (snares_made (n + 1) (lay_kicks_of a g bar) bar g.snares.n (kicks_made (n + 1) a bar d))

    -- k bars, each with its wobble and its eighths
    pub bars_made : (n : ℕ) (l : DrumLane) (beatS : Float) (k : ℕ) → Made s n l → Made s (n + k * (1 + chances_to g.hats.off_eighths_only 8)) (bars_to l g beatS k)
    unfolding bars_to
    bars_made n l beatS zero m = made_as n _ l (rw zero-mul (omega arith)) m
    bars_made n l beatS (suc k) m =
        let c = chances_to g.hats.off_eighths_only 8 in
        let e : n + k * (1 + c) + 1 + c ≡ n + suc k * (1 + c) = rw (suc-mul k (1 + c)) (omega arith) in
        made_as (n + k * (1 + c) + 1 + c) (n + suc k * (1 + c)) (lay_bar_of (bars_to l g beatS k) g beatS k) e (bar_made (n + k * (1 + c)) (bars_to l g beatS k) beatS k (bars_made n l beatS k m))
