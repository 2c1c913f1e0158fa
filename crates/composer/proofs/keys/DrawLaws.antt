-- How many draws the keys make: one for each eighth, and so many for each note. Assumes nothing.
use mathlib.Core.Path.{◌≡◌, refl, sym, ap, ◌∙◌, subst}
use mathlib.Core.List.{List}
use Prim.Native.Nat.{ℕ, zero, suc, ◌+◌, ◌*◌, ◌%◌, ◌^◌, ◌≤◌, ◌<◌}
use native.Mathlib.Omega.{arith}
use lib.Ieee.{Float}
use lib.ListN.{get_or}
use Rattle.laws.proofs.Bools.{either}
use Rattle.streams.specs.Draw.{chance_of, pick_of}
use Rattle.streams.specs.Stage.{stream_of}
use Rattle.streams.specs.Stream.{after}
use Rattle.streams.specs.declared.stage.Stage.{Stage}
use Rattle.streams.specs.declared.stream.NoiseStream.{NoiseStream}
use Rattle.streams.proofs.DrawLaws.{pick_advances, chance_advances}
use Rattle.streams.proofs.StageLaws.{stream_counter}
use Rattle.streams.proofs.StreamLaws.{after_on, after_counter, after_none}
use Rattle.composer.specs.Chord.{past_chord}
use Rattle.composer.specs.Keys.{KeysLane, keys_lag, roll, ninth_p, grid_at, empty_of, moved_of, shell_stroke_of, single_stroke_of, stroke_by, stroke_of, eighth_of, bar_to, bar_of, bars_to, density_draw_of, keys_of, key_draws_of}
use Rattle.composer.specs.Spread.{draw_of, after_of}
use Rattle.composer.specs.Style.{keys_style_of}
use Rattle.composer.specs.declared.chord.Chord.{Chord}
use Rattle.composer.specs.declared.harmony.Harmony.{Harmony}
use Rattle.composer.specs.declared.style.Comp.{Comp}
use Rattle.composer.specs.declared.style.KeysStyle.{KeysStyle}
use Rattle.composer.specs.declared.style.Style.{Style}
use Rattle.composer.proofs.SpreadLaws.{draw_advances, after_advances}
use Rattle.composer.proofs.keys.NoteLaws.{keys_laid}
use Rattle.composer.proofs.keys.StrokeLaws.{lagged, struck_at, stroke_by_lem}

-- one draw more
on : (s t u : NoiseStream) (m : ℕ) → t ≡ after s m → u ≡ after t 1 → u ≡ after s (m + 1)
on s t u m e f = f ∙ after_on s t m (m + 1) e refl

-- the draws for the notes so far
abbrev notes_draws : Comp → ℕ → ℕ
notes_draws Comp.Shell n = 2 * n
notes_draws Comp.Single n = 3 * n

-- the lane's stream has made n draws besides those for its notes
abbrev Drew : Comp → NoiseStream → KeysLane → ℕ → Type 0
Drew comp s l n = l.stream ≡ after s (n + notes_draws comp l.value.n)

module _ (s : NoiseStream) (l : KeysLane) (c : Chord) (k : KeysStyle) (bar : ℕ) (at : Float) (m : ℕ) (e : l.stream ≡ after s m) where
  shell_draws : (shell_stroke_of l c k bar at).stream ≡ after s (m + 1 + 1 + 1)
  unfolding shell_stroke_of
  shell_draws =
      let a = (chance_of l.stream ninth_p).stream in
      let b = (draw_of k.velocity a).stream in
      let d = (after_of roll at b).stream in
      on s b d (m + 1 + 1) (on s a b (m + 1) (on s l.stream a m e (chance_advances l.stream ninth_p)) (draw_advances a k.velocity)) (after_advances b roll at)

  single_draws : (single_stroke_of l c k bar at).stream ≡ after s (m + 1 + 1)
  unfolding single_stroke_of
  single_draws =
      let a = (pick_of l.stream 4).stream in
      let b = (draw_of k.velocity a).stream in
      on s a b (m + 1) (on s l.stream a m e (pick_advances l.stream 4)) (draw_advances a k.velocity)

by_number : (s t : NoiseStream) (m n : ℕ) → m ≡ n → t ≡ after s m → t ≡ after s n
by_number s t m n e f = f ∙ ap (after s) e

stroke_by_drew : (comp : Comp) (s : NoiseStream) (l : KeysLane) (c : Chord) (k : KeysStyle) (bar : ℕ) (at : Float) (n : ℕ) → l.stream ≡ after s (n + notes_draws comp l.value.n + 1) → Drew comp s (stroke_by comp l c k bar at) n
unfolding shell_stroke_of single_stroke_of
stroke_by_drew Comp.Shell s l c k bar at n e =
    by_number s _ (n + 2 * l.value.n + 1 + 1 + 1 + 1) (n + 2 * (l.value.n + 1 + 1)) (omega arith) (shell_draws s l c k bar at (n + 2 * l.value.n + 1) e)
stroke_by_drew Comp.Single s l c k bar at n e =
    by_number s _ (n + 3 * l.value.n + 1 + 1 + 1) (n + 3 * (l.value.n + 1)) (omega arith) (single_draws s l c k bar at (n + 3 * l.value.n + 1) e)

module _ (comp : Comp) (s : NoiseStream) (c : Chord) (k : KeysStyle) (is : k.comp ≡ comp) where
  stroke_drew : (l : KeysLane) (bar : ℕ) (grid : Float) (n : ℕ) → Drew comp s l n → Drew comp s (stroke_of l c k bar grid) n
  stroke_drew l bar grid n d =
      subst (λ (x : KeysLane). Drew comp s x n) (sym (stroke_by_lem l c k bar grid comp is))
      (stroke_by_drew comp s (lagged l) c k bar (struck_at l grid) n
      (on s l.stream (draw_of keys_lag l.stream).stream (n + notes_draws comp l.value.n) d (draw_advances l.stream keys_lag)))

  module _ (density beatS : Float) where
    eighth_drew : (l : KeysLane) (bar e n : ℕ) → Drew comp s l n → Drew comp s (eighth_of l c k density bar e beatS) (n + 1)
    unfolding eighth_of
    eighth_drew l bar e n d =
        let t = chance_of l.stream density in
        let next = moved_of l t.stream in
        let f : Drew comp s next (n + 1) =
        by_number s t.stream (n + notes_draws comp l.value.n + 1) (n + 1 + notes_draws comp l.value.n) (omega arith)
        (on s l.stream t.stream (n + notes_draws comp l.value.n) d (chance_advances l.stream density))
        in
        either (λ (m : KeysLane). Drew comp s m (n + 1)) t.value (stroke_of next c k bar (grid_at bar e beatS)) next (stroke_drew next bar (grid_at bar e beatS) (n + 1) f) f

    bar_drew : (l : KeysLane) (bar n e : ℕ) → Drew comp s l n → Drew comp s (bar_to l c k density bar beatS e) (n + e)
    unfolding bar_to
    bar_drew l bar n zero d = by_number s l.stream _ _ (omega arith) d
    bar_drew l bar n (suc e) d = by_number s _ _ _ (omega arith) (eighth_drew (bar_to l c k density bar beatS e) bar e (n + e) (bar_drew l bar n e d))

module _ (comp : Comp) (s : NoiseStream) (bars : List Chord) (k : KeysStyle) (is : k.comp ≡ comp) (density beatS : Float) where
  bars_drew : (l : KeysLane) (n b : ℕ) → Drew comp s l n → Drew comp s (bars_to l bars k density beatS b) (n + 8 * b)
  unfolding bars_to bar_of
  bars_drew l n zero d = by_number s l.stream (n + notes_draws comp l.value.n) (n + 8 * 0 + notes_draws comp l.value.n) (omega arith) d
  bars_drew l n (suc b) d =
      let so = bars_to l bars k density beatS b in
      let r = bar_to so (get_or bars b past_chord) k density b beatS 8 in
      by_number s r.stream (n + 8 * b + 8 + notes_draws comp r.value.n) (n + 8 * suc b + notes_draws comp r.value.n) (omega arith)
      (bar_drew comp s (get_or bars b past_chord) k is density beatS so b (n + 8 * b) 8 (bars_drew l n b d))

-- so few draws do not wrap
no_wrap : (style : Style) (c n : ℕ) → c ≡ 0 → n ≤ 128 → (c + key_draws_of style n) % 2 ^ 64 ≡ key_draws_of style n
no_wrap Style.Hiphop c n e h = omega arith
no_wrap Style.Sleep c n e h = omega arith

module _ (h : Harmony) (beatS : Float) where
  -- so many draws, whatever the stream
  pub keys_draws : (s : NoiseStream) (style : Style) → s.counter < 2 ^ 64 → (keys_of s h style beatS).stream ≡ after s (key_draws_of style (keys_of s h style beatS).value.n)
  unfolding keys_of density_draw_of
  keys_draws s Style.Hiphop w =
      let k = keys_style_of Style.Hiphop in
      let d = density_draw_of k.density s in
      bars_drew Comp.Shell s h.bars k refl d.value beatS (empty_of d.stream) 1 8 (draw_advances s _)
  keys_draws s Style.Sleep w =
      let k = keys_style_of Style.Sleep in
      let d = density_draw_of k.density s in
      bars_drew Comp.Single s h.bars k refl d.value beatS (empty_of d.stream) 0 8 (sym (after_none s w))

  -- of a song's own stream: the number itself
  pub keys_counter : (seed : ℕ) (style : Style) → (keys_of (stream_of Stage.Keys seed) h style beatS).stream.counter ≡ key_draws_of style (keys_of (stream_of Stage.Keys seed) h style beatS).value.n
  keys_counter seed style =
      let s = stream_of Stage.Keys seed in
      let r = keys_of s h style beatS in
      let e = stream_counter Stage.Keys seed in
      ap (λ (t : NoiseStream). t.counter) (keys_draws s style (omega (arith, e)))
      ∙ after_counter s (key_draws_of style r.value.n) ∙ no_wrap style s.counter r.value.n e (keys_laid s h style beatS).few
