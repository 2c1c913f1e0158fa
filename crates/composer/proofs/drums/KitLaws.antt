-- A bar laid hit by hit, and how many hits it adds: two or three kicks, its snares, and at most eight hats. Assumes nothing.
use mathlib.Core.Path.{◌≡◌, refl, sym, subst}
use mathlib.Core.Bool.{Bool, true, false, ◌&&◌, cond}
use Prim.Native.Nat.{ℕ, zero, suc, ◌+◌, ◌*◌, ◌/◌, ◌%◌, ◌≤◌}
use native.Mathlib.Omega.{arith}
use borrow.Author.Tests.{eqb-true}
use lib.Dec.{T, eqb}
use mir.Facts.{and_yes}
use lib.Ieee.{Float}
use Rattle.laws.proofs.Bools.{holds, cond_by, either}
use Rattle.streams.specs.Draw.{chance_of}
use Rattle.streams.specs.declared.stream.Draw.{Draw}
use Rattle.composer.specs.Spread.{draw_of}
use Rattle.composer.specs.Drums.{wobble, bar_of, lay_bar_of, bars_to}
use Rattle.composer.specs.Drums.Grooves.{ghost_kick}
use Rattle.composer.specs.Drums.Kit.{DrumLane, ends_statement, drawn_on, push_kick_of, lay_kicks_of, kick_count_of, kick_of, push_snare_of, snares_to, lay_snares_of, push_hat_of, lay_hat_of, hats_to}
use Rattle.composer.specs.declared.drums.grooves.Kick.{Kick}
use Rattle.composer.specs.declared.drums.grooves.Groove.{Groove}
use Rattle.composer.specs.declared.drums.kit.Bar.{Bar}

pub kick_count : (l : DrumLane) (bar : Bar) (dragS : Float) (k : Kick) → (push_kick_of l bar dragS k).value.n ≡ l.value.n + 1
unfolding push_kick_of
kick_count l bar dragS k = refl

pub kick_few : (g : Groove) (bar : Bar) → kick_count_of g bar ≤ 3
kick_few g bar = either (λ (n : ℕ). n ≤ 3) (g.ghost_pickup && ends_statement bar) 3 2 (omega arith) (omega arith)

module _ (l : DrumLane) (g : Groove) (bar : Bar) where
  pub kicks_least : l.value.n + 2 ≤ (lay_kicks_of l g bar).value.n
  unfolding lay_kicks_of push_kick_of
  kicks_least = either (λ (m : DrumLane). l.value.n + 2 ≤ m.value.n) (g.ghost_pickup && ends_statement bar) _ _ (omega arith) (omega arith)

  statement_ends : (g.ghost_pickup && ends_statement bar) ≡ true → bar.number % 4 ≡ 3
  statement_ends e = eqb-true (bar.number % 4) 3 (holds (ends_statement bar) (and_yes g.ghost_pickup (ends_statement bar) (subst T (sym e) tt)).1)

  -- a third kick only where a statement ends
  pub kicks_most : (lay_kicks_of l g bar).value.n + bar.number / 4 ≤ l.value.n + 2 + (bar.number + 1) / 4
  unfolding lay_kicks_of push_kick_of
  kicks_most =
      cond_by (λ (m : DrumLane). m.value.n + bar.number / 4 ≤ l.value.n + 2 + (bar.number + 1) / 4) (g.ghost_pickup && ends_statement bar) _ _
      (λ e. omega (arith, statement_ends e))
      (λ e. omega arith)

  -- the first k kicks
  unfoldable pub kicks_to : ℕ → DrumLane
  kicks_to zero = l
  kicks_to (suc k) = push_kick_of (kicks_to k) bar g.drag_s (kick_of g k)

  -- a bar's kicks, one after another
  kicks_all : kicks_to (kick_count_of g bar) ≡ lay_kicks_of l g bar
  unfolding kicks_to lay_kicks_of
  kicks_all = go (g.ghost_pickup && ends_statement bar)
    where
      two : DrumLane
      two = push_kick_of (push_kick_of l bar g.drag_s g.first) bar g.drag_s g.second

      go : (b : Bool) → kicks_to (cond b 3 2) ≡ cond b (push_kick_of two bar g.drag_s ghost_kick) two
      go true = refl
      go false = refl

  pub snares_count : (i : ℕ) → (snares_to l g bar i).value.n ≡ l.value.n + i
  unfolding snares_to push_snare_of
  snares_count zero = omega arith
  snares_count (suc i) = omega (arith, snares_count i)

  pub hat_least : (e : ℕ) → l.value.n ≤ (lay_hat_of l g bar e).value.n
  unfolding lay_hat_of push_hat_of
  hat_least e =
      either (λ (m : DrumLane). l.value.n ≤ m.value.n) (g.hats.off_eighths_only && eqb (e % 2) 0) _ _ (omega arith)
      (either (λ (m : DrumLane). l.value.n ≤ m.value.n) (chance_of l.stream g.hats.skip_p).value _ _ (omega arith) (omega arith))

  pub hat_most : (e : ℕ) → (lay_hat_of l g bar e).value.n ≤ l.value.n + 1
  unfolding lay_hat_of push_hat_of
  hat_most e =
      either (λ (m : DrumLane). m.value.n ≤ l.value.n + 1) (g.hats.off_eighths_only && eqb (e % 2) 0) _ _ (omega arith)
      (either (λ (m : DrumLane). m.value.n ≤ l.value.n + 1) (chance_of l.stream g.hats.skip_p).value _ _ (omega arith) (omega arith))

module _ (l : DrumLane) (g : Groove) (bar : Bar) where
  pub hats_least : (e : ℕ) → l.value.n ≤ (hats_to l g bar e).value.n
  unfolding hats_to
  hats_least zero = omega arith
  hats_least (suc e) = omega (arith, hats_least e, hat_least (hats_to l g bar e) g bar e)

  pub hats_most : (e : ℕ) → (hats_to l g bar e).value.n ≤ l.value.n + e
  unfolding hats_to
  hats_most zero = omega arith
  hats_most (suc e) = omega (arith, hats_most e, hat_most (hats_to l g bar e) g bar e)

module _ (l : DrumLane) (g : Groove) (beatS : Float) where
  -- a bar: its wobble w, then its kicks a, its snares b and its hats c
  pub bar_laid :
      (n : ℕ) (w : Draw Float) (bar : Bar) (k : ℕ) (a b c : DrumLane)
      → w ≡ draw_of wobble l.stream → bar ≡ bar_of n beatS w.value → k ≡ kick_count_of g bar
      → a ≡ kicks_to (drawn_on l w.stream) g bar k → b ≡ lay_snares_of a g bar → c ≡ hats_to b g bar 8 → c ≡ lay_bar_of l g beatS n
  unfolding lay_bar_of
  bar_laid n w bar k a b c ew ebar ek ea eb ec = rw (ec, eb, ea, ek, kicks_all (drawn_on l w.stream) g bar, ebar, ew)

  pub bar_least : (n : ℕ) → l.value.n + 2 ≤ (lay_bar_of l g beatS n).value.n
  unfolding lay_bar_of
  bar_least n =
      let w = draw_of wobble l.stream in
      let bar = bar_of n beatS w.value in
      let a = drawn_on l w.stream in
      let k = lay_kicks_of a g bar in
      omega (arith, kicks_least a g bar, snares_count k g bar g.snares.n, hats_least (lay_snares_of k g bar) g bar 8)

  pub bar_most : g.snares.n ≤ 2 → (n : ℕ) → (lay_bar_of l g beatS n).value.n + n / 4 ≤ l.value.n + 12 + (n + 1) / 4
  unfolding lay_bar_of
  bar_most h n =
      let w = draw_of wobble l.stream in
      let bar = bar_of n beatS w.value in
      let a = drawn_on l w.stream in
      let k = lay_kicks_of a g bar in
      omega (arith, kicks_most a g bar, snares_count k g bar g.snares.n, hats_most (lay_snares_of k g bar) g bar 8)

module _ (l : DrumLane) (g : Groove) (beatS : Float) where
  pub bars_most : g.snares.n ≤ 2 → (n : ℕ) → (bars_to l g beatS n).value.n ≤ l.value.n + 12 * n + n / 4
  unfolding bars_to
  bars_most h zero = omega arith
  bars_most h (suc n) = omega (arith, bars_most h n, bar_most (bars_to l g beatS n) g beatS h n)
