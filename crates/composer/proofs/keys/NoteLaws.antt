-- The keys' notes: at most 128, bar after bar and at most 16 in each, with nothing behind them. Assumes nothing.
use mathlib.Core.Path.{◌≡◌, refl}
use mathlib.Core.List.{List}
use Prim.Native.Nat.{ℕ, zero, suc, ◌+◌, ◌*◌, ◌≤◌, ◌<◌}
use native.Mathlib.Omega.{arith}
use lib.ListN.{length, take, get_or, length-set}
use lib.Ieee.{Float}
use Rattle.laws.specs.Lanes.{EachAtMost, Laid}
use Rattle.laws.proofs.Bools.{either}
use Rattle.laws.proofs.Lanes.{Grown, grown_none, grown_push, grown_then, bars_laid, bars_few}
use Rattle.streams.specs.Draw.{chance_of}
use Rattle.streams.specs.declared.stream.NoiseStream.{NoiseStream}
use Rattle.composer.specs.Chord.{past_chord}
use Rattle.composer.specs.Keys.{KeysLane, grid_at, empty_of, moved_of, shell_stroke_of, single_stroke_of, stroke_by, stroke_of, eighth_of, bar_to, bar_of, bars_to, density_draw_of, keys_of}
use Rattle.composer.specs.Note.{no_note, past_note, note_bar}
use Rattle.composer.specs.Style.{keys_style_of}
use Rattle.composer.specs.declared.chord.Chord.{Chord}
use Rattle.composer.specs.declared.harmony.Harmony.{Harmony}
use Rattle.composer.specs.declared.note.Note.{Note}
use Rattle.composer.specs.declared.style.Comp.{Comp}
use Rattle.composer.specs.declared.style.KeysStyle.{KeysStyle}
use Rattle.composer.specs.declared.style.Style.{Style}
use Rattle.composer.proofs.keys.StrokeLaws.{lagged, struck_at, stroke_count}

abbrev in_bar : ℕ → Note → Type 0
in_bar bar x = x.bar ≡ bar

-- m is l with more notes, all of the bar
abbrev Adds : ℕ → KeysLane → KeysLane → Type 0
Adds bar l m = Grown past_note (in_bar bar) l.value.at m.value.at l.value.n m.value.n

stroke_by_adds : (comp : Comp) (l : KeysLane) (c : Chord) (k : KeysStyle) (bar : ℕ) (at : Float) → l.value.n + 2 ≤ length l.value.at → Adds bar l (stroke_by comp l c k bar at)
unfolding shell_stroke_of single_stroke_of
stroke_by_adds Comp.Shell l c k bar at h =
    grown_then past_note (in_bar bar) l.value.at _ _ l.value.n (l.value.n + 1) (l.value.n + 1 + 1)
    (grown_push past_note (in_bar bar) l.value.at l.value.n _ (omega arith) refl)
    (grown_push past_note (in_bar bar) _ (l.value.n + 1) _ (simp length-set (omega arith)) refl)
stroke_by_adds Comp.Single l c k bar at h = grown_push past_note (in_bar bar) l.value.at l.value.n _ (omega arith) refl

module _ (c : Chord) (k : KeysStyle) (density : Float) (bar : ℕ) (beatS : Float) where
  stroke_adds : (l : KeysLane) (grid : Float) → l.value.n + 2 ≤ length l.value.at → Adds bar l (stroke_of l c k bar grid)
  unfolding stroke_of
  stroke_adds l grid h = stroke_by_adds k.comp (lagged l) c k bar (struck_at l grid) h

  module _ (l : KeysLane) (e : ℕ) where
    abbrev next : KeysLane
    next = moved_of l (chance_of l.stream density).stream

    eighth_adds : l.value.n + 2 ≤ length l.value.at → Adds bar l (eighth_of l c k density bar e beatS)
    unfolding eighth_of
    eighth_adds h =
        either (Adds bar l) (chance_of l.stream density).value (stroke_of next c k bar (grid_at bar e beatS)) next (stroke_adds next (grid_at bar e beatS) h)
        (grown_none past_note (in_bar bar) l.value.at l.value.n)

    eighth_count : (eighth_of l c k density bar e beatS).value.n ≤ l.value.n + 2
    unfolding eighth_of
    eighth_count =
        either (λ (m : KeysLane). m.value.n ≤ l.value.n + 2) (chance_of l.stream density).value (stroke_of next c k bar (grid_at bar e beatS)) next
        (stroke_count next c k bar (grid_at bar e beatS))
        (omega arith)

  bar_count : (l : KeysLane) (e : ℕ) → (bar_to l c k density bar beatS e).value.n ≤ l.value.n + 2 * e
  unfolding bar_to
  bar_count l zero = omega arith
  bar_count l (suc e) = omega (arith, bar_count l e, eighth_count (bar_to l c k density bar beatS e) e)

  bar_adds : (l : KeysLane) (e : ℕ) → l.value.n + 2 * e ≤ length l.value.at → Adds bar l (bar_to l c k density bar beatS e)
  unfolding bar_to
  bar_adds l zero h = grown_none past_note (in_bar bar) l.value.at l.value.n
  bar_adds l (suc e) h =
      let m = bar_to l c k density bar beatS e in
      let a = bar_adds l e (omega arith) in
      grown_then past_note (in_bar bar) l.value.at m.value.at (eighth_of m c k density bar e beatS).value.at l.value.n m.value.n _ a
      (eighth_adds m e (omega (arith, bar_count l e, a.size)))

-- ---- bar after bar
module _ (bars : List Chord) (k : KeysStyle) (density beatS : Float) (s : NoiseStream) where
  abbrev lane_to : ℕ → KeysLane
  lane_to b = bars_to (empty_of s) bars k density beatS b

  bar_few : (b : ℕ) → (lane_to (suc b)).value.n ≤ (lane_to b).value.n + 16
  unfolding bars_to bar_of
  bar_few b = bar_count (get_or bars b past_chord) k density b beatS (lane_to b) 8

  bars_count : (b : ℕ) → (lane_to b).value.n ≤ 16 * b
  unfolding bars_to
  bars_count zero = omega arith
  bars_count (suc b) = omega (arith, bars_count b, bar_few b)

  lane_bar : (b : ℕ) → b < 8 → length (lane_to b).value.at ≡ 128 → Adds b (lane_to b) (lane_to (suc b))
  unfolding bars_to bar_of
  lane_bar b h size = bar_adds (get_or bars b past_chord) k density b beatS (lane_to b) 8 (omega (arith, bars_count b))

  start : (lane_to 0).value.at ≡ (empty_of s).value.at
  start = unfold bars_to in refl

  empty : (lane_to 0).value.n ≡ 0
  empty = unfold bars_to in refl

  few : (b : ℕ) → b ≤ 8 → (lane_to b).value.n ≤ 128
  few b h = omega (arith, bars_count b)

  lane_laid : Laid past_note no_note note_bar 128 7 (lane_to 8).value.at (lane_to 8).value.n
  lane_laid = bars_laid past_note no_note note_bar 128 8 (λ b. (lane_to b).value.at) (λ b. (lane_to b).value.n) start empty few lane_bar 8 (omega arith)

  lane_few : EachAtMost note_bar 16 (take (lane_to 8).value.n (lane_to 8).value.at)
  lane_few = bars_few past_note no_note note_bar 128 8 (λ b. (lane_to b).value.at) (λ b. (lane_to b).value.n) start empty few lane_bar 16 (λ b h. bar_few b) 8 (omega arith)

-- at most 128 notes, bar after bar, and zero behind them
pub keys_laid : (s : NoiseStream) (h : Harmony) (style : Style) (beatS : Float) → Laid past_note no_note note_bar 128 7 (keys_of s h style beatS).value.at (keys_of s h style beatS).value.n
unfolding keys_of
keys_laid s h style beatS =
    let k = keys_style_of style in
    let d = density_draw_of k.density s in
    lane_laid h.bars k d.value beatS d.stream

-- at most 16 notes in any one bar
pub keys_few : (s : NoiseStream) (h : Harmony) (style : Style) (beatS : Float) → EachAtMost note_bar 16 (take (keys_of s h style beatS).value.n (keys_of s h style beatS).value.at)
unfolding keys_of
keys_few s h style beatS =
    let k = keys_style_of style in
    let d = density_draw_of k.density s in
    lane_few h.bars k d.value beatS d.stream
