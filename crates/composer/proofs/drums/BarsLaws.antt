-- The hits of a bar follow those of the bars before it, all carry its number, and they are two to 13. Assumes nothing.
use mathlib.Core.Path.{◌≡◌, refl}
use mathlib.Core.Bool.{◌&&◌}
use Prim.Native.Nat.{ℕ, zero, suc, ◌+◌, ◌%◌, ◌≤◌, ◌<◌}
use native.Mathlib.Omega.{arith}
use lib.Dec.{eqb}
use lib.ListN.{length, take, get_or}
use lib.Ieee.{Float}
use Rattle.laws.specs.Lanes.{Occurs, EachAtMost, Laid}
use Rattle.laws.specs.Sorts.{count}
use Rattle.laws.proofs.Bools.{either}
use Rattle.laws.proofs.Lanes.{Grown, grown_none, grown_push, grown_then, bars_laid, bars_occur, bars_many, bars_few}
use Rattle.streams.specs.Draw.{chance_of}
use Rattle.streams.specs.declared.stream.NoiseStream.{NoiseStream}
use Rattle.composer.specs.Note.{no_hit, past_hit, hit_bar}
use Rattle.composer.specs.Spread.{draw_of}
use Rattle.composer.specs.Drums.{wobble, bar_of, lay_bar_of, bars_to, no_hits}
use Rattle.composer.specs.Drums.Grooves.{ghost_kick}
use Rattle.composer.specs.Drums.Kit.{DrumLane, ends_statement, drawn_on, kick_hit_of, push_kick_of, lay_kicks_of, snare_hit_of, push_snare_of, snares_to, lay_snares_of, hat_hit_of, push_hat_of, lay_hat_of, hats_to}
use Rattle.composer.specs.declared.note.Hit.{Hit}
use Rattle.composer.specs.declared.drums.grooves.Kick.{Kick}
use Rattle.composer.specs.declared.drums.grooves.Groove.{Groove}
use Rattle.composer.specs.declared.drums.kit.Bar.{Bar}
use Rattle.composer.proofs.drums.KitLaws.{kick_count, kicks_most, snares_count, hats_most, bar_least, bar_most, bars_most}

abbrev InBar : ℕ → Hit → Type 0
InBar b h = h.bar ≡ b

-- m is l with more hits, all of bar b
abbrev Adds : ℕ → DrumLane → DrumLane → Type 0
Adds b l m = Grown past_hit (InBar b) l.value.at m.value.at l.value.n m.value.n

adds_none : (b : ℕ) (l : DrumLane) → Adds b l l
adds_none b l = grown_none past_hit (InBar b) l.value.at l.value.n

adds_then : (b : ℕ) (l m k : DrumLane) → Adds b l m → Adds b m k → Adds b l k
adds_then b l m k = grown_then past_hit (InBar b) l.value.at m.value.at k.value.at l.value.n m.value.n k.value.n

kick_adds : (l : DrumLane) (bar : Bar) (dragS : Float) (k : Kick) → l.value.n < length l.value.at → Adds bar.number l (push_kick_of l bar dragS k)
unfolding push_kick_of kick_hit_of
kick_adds l bar dragS k h = grown_push past_hit (InBar bar.number) l.value.at l.value.n _ h refl

snare_adds : (l : DrumLane) (bar : Bar) (beat gain : Float) → l.value.n < length l.value.at → Adds bar.number l (push_snare_of l bar beat gain)
unfolding push_snare_of snare_hit_of
snare_adds l bar beat gain h = grown_push past_hit (InBar bar.number) l.value.at l.value.n _ h refl

module _ (g : Groove) (bar : Bar) where
  hat_adds : (l : DrumLane) (e : ℕ) → l.value.n < length l.value.at → Adds bar.number l (push_hat_of l g bar e)
  unfolding push_hat_of hat_hit_of
  hat_adds l e h = grown_push past_hit (InBar bar.number) l.value.at l.value.n _ h refl

  kicks_add : (l : DrumLane) → l.value.n + 3 ≤ length l.value.at → Adds bar.number l (lay_kicks_of l g bar)
  unfolding lay_kicks_of
  kicks_add l h =
      let d = g.drag_s in
      let a = push_kick_of l bar d g.first in
      let b = push_kick_of a bar d g.second in
      let one = kick_adds l bar d g.first (omega arith) in
      let two = adds_then bar.number l a b one (kick_adds a bar d g.second (omega (arith, one.size, kick_count l bar d g.first))) in
      either (λ (m : DrumLane). Adds bar.number l m) (g.ghost_pickup && ends_statement bar) _ _
      (adds_then bar.number l b (push_kick_of b bar d ghost_kick) two (kick_adds b bar d ghost_kick (omega (arith, two.size, kick_count a bar d g.second, kick_count l bar d g.first))))
      two

  snares_add : (l : DrumLane) (i : ℕ) → l.value.n + i ≤ length l.value.at → Adds bar.number l (snares_to l g bar i)
  unfolding snares_to
  snares_add l zero h = adds_none bar.number l
  snares_add l (suc i) h =
      let a = snares_add l i (omega arith) in
      adds_then bar.number l (snares_to l g bar i) (snares_to l g bar (suc i)) a (snare_adds (snares_to l g bar i) bar _ g.snare_gain (omega (arith, a.size, snares_count l g bar i)))

  lay_hat_adds : (l : DrumLane) (e : ℕ) → l.value.n < length l.value.at → Adds bar.number l (lay_hat_of l g bar e)
  unfolding lay_hat_of
  lay_hat_adds l e h =
      let skip = chance_of l.stream g.hats.skip_p in
      either (λ (m : DrumLane). Adds bar.number l m) (g.hats.off_eighths_only && eqb (e % 2) 0) _ _ (adds_none bar.number l)
      (either (λ (m : DrumLane). Adds bar.number l m) skip.value _ _ (adds_none bar.number l) (hat_adds (drawn_on l skip.stream) e h))

  hats_add : (l : DrumLane) (e : ℕ) → l.value.n + e ≤ length l.value.at → Adds bar.number l (hats_to l g bar e)
  unfolding hats_to
  hats_add l zero h = adds_none bar.number l
  hats_add l (suc e) h =
      let a = hats_add l e (omega arith) in
      adds_then bar.number l (hats_to l g bar e) (hats_to l g bar (suc e)) a (lay_hat_adds (hats_to l g bar e) e (omega (arith, a.size, hats_most l g bar e)))

module _ (g : Groove) (snares : g.snares.n ≤ 2) (beatS : Float) where
  bar_adds : (l : DrumLane) (n : ℕ) → l.value.n + 13 ≤ length l.value.at → Adds n l (lay_bar_of l g beatS n)
  unfolding lay_bar_of
  bar_adds l n h =
      let w = draw_of wobble l.stream in
      let bar = bar_of n beatS w.value in
      let a = drawn_on l w.stream in
      let k = lay_kicks_of a g bar in
      let t = lay_snares_of k g bar in
      let ka = kicks_add g bar a (omega arith) in
      let sa = snares_add g bar k g.snares.n (omega (arith, ka.size, kicks_most a g bar)) in
      let ha = hats_add g bar t 8 (omega (arith, ka.size, sa.size, kicks_most a g bar, snares_count k g bar g.snares.n)) in
      adds_then n l t (hats_to t g bar 8) (adds_then n l k t ka sa) ha

-- ---- bar after bar
module _ (g : Groove) (snares : g.snares.n ≤ 2) (beatS : Float) (s : NoiseStream) where
  abbrev lane_to : ℕ → DrumLane
  lane_to n = bars_to (no_hits s) g beatS n

  start : (lane_to 0).value.at ≡ (no_hits s).value.at
  start = unfold bars_to in refl

  empty : (lane_to 0).value.n ≡ 0
  empty = unfold bars_to in refl

  few : (n : ℕ) → n ≤ 8 → (lane_to n).value.n ≤ 98
  few n h = omega (arith, bars_most (no_hits s) g beatS snares n)

  lane_bar : (n : ℕ) → n < 8 → length (lane_to n).value.at ≡ 98 → Adds n (lane_to n) (lane_to (suc n))
  unfolding bars_to
  lane_bar n h size = bar_adds g snares beatS (lane_to n) n (omega (arith, bars_most (no_hits s) g beatS snares n))

  pub lane_laid : Laid past_hit no_hit hit_bar 98 7 (lane_to 8).value.at (lane_to 8).value.n
  lane_laid = bars_laid past_hit no_hit hit_bar 98 8 (λ n. (lane_to n).value.at) (λ n. (lane_to n).value.n) start empty few lane_bar 8 (omega arith)

  many : (n : ℕ) → n < 8 → (lane_to n).value.n + 2 ≤ (lane_to (suc n)).value.n
  unfolding bars_to
  many n h = bar_least (lane_to n) g beatS n

  more : (n : ℕ) → n < 8 → (lane_to n).value.n < (lane_to (suc n)).value.n
  more n h = omega (arith, many n h)

  pub lane_occurs : (b : ℕ) → b < 8 → Occurs (λ i. hit_bar (get_or (lane_to 8).value.at i past_hit)) (lane_to 8).value.n b
  lane_occurs b h = bars_occur past_hit no_hit hit_bar 98 8 (λ n. (lane_to n).value.at) (λ n. (lane_to n).value.n) start empty few lane_bar more 8 b (omega arith) h

  pub lane_many : (b : ℕ) → b < 8 → 2 ≤ count (λ h. eqb (hit_bar h) b) (take (lane_to 8).value.n (lane_to 8).value.at)
  lane_many b h = bars_many past_hit no_hit hit_bar 98 8 (λ n. (lane_to n).value.at) (λ n. (lane_to n).value.n) start empty few lane_bar 2 many 8 b (omega arith) h

  bar_few : (n : ℕ) → n < 8 → (lane_to (suc n)).value.n ≤ (lane_to n).value.n + 13
  unfolding bars_to
  bar_few n h = omega (arith, bar_most (lane_to n) g beatS snares n)

  pub lane_few : EachAtMost hit_bar 13 (take (lane_to 8).value.n (lane_to 8).value.at)
  lane_few = bars_few past_hit no_hit hit_bar 98 8 (λ n. (lane_to n).value.at) (λ n. (lane_to n).value.n) start empty few lane_bar 13 bar_few 8 (omega arith)
