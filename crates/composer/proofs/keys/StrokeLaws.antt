-- The stroke of each comp, how many notes it adds, and an eighth as the loop plays it. Assumes nothing.
use mathlib.Core.Path.{◌≡◌, sym, ap}
use mathlib.Core.Bool.{Bool, true, false}
use mathlib.Core.List.{List}
use Prim.Native.Nat.{ℕ, ◌+◌, ◌≤◌}
use native.Mathlib.Omega.{arith}
use lib.Ieee.{Float, binary32, add}
use lib.ListN.{set}
use Rattle.streams.specs.Draw.{chance_of}
use Rattle.streams.specs.declared.stream.NoiseStream.{NoiseStream}
use Rattle.streams.specs.declared.stream.Draw.{Draw}
use Rattle.composer.specs.Chord.{root_class_of}
use Rattle.composer.specs.Keys.{KeysLane, keys_lag, shell_of, moved_of, grid_at, dyad_of, tone_of, shell_stroke_of, single_stroke_of, stroke_by, stroke_of, eighth_of}
use Rattle.composer.specs.Spread.{draw_of}
use Rattle.composer.specs.declared.chord.Chord.{Chord}
use Rattle.composer.specs.declared.keys.Shell.{Shell}
use Rattle.composer.specs.declared.note.Note.{Note}
use Rattle.composer.specs.declared.style.Comp.{Comp}
use Rattle.composer.specs.declared.style.KeysStyle.{KeysStyle}
use Rattle.composer.specs.declared.keys.Dyad.{Dyad}

-- the loop's notes, their count and its stream as a lane
abbrev pub lane_of : List Note → ℕ → NoiseStream → KeysLane
lane_of notes count stream = record { value = record { at = notes; n = count }; stream = stream }

-- the lane after the lag, and when the stroke falls
abbrev pub lagged : KeysLane → KeysLane
lagged l = moved_of l (draw_of keys_lag l.stream).stream

abbrev pub struck_at : KeysLane → Float → Float
struck_at l grid = add binary32 grid (draw_of keys_lag l.stream).value

stroke_by_count : (comp : Comp) (l : KeysLane) (c : Chord) (k : KeysStyle) (bar : ℕ) (at : Float) → (stroke_by comp l c k bar at).value.n ≤ l.value.n + 2
unfolding shell_stroke_of single_stroke_of
stroke_by_count Comp.Shell l c k bar at = omega arith
stroke_by_count Comp.Single l c k bar at = omega arith

module _ (l : KeysLane) (c : Chord) (k : KeysStyle) (bar : ℕ) (grid : Float) where
  pub stroke_by_lem : (comp : Comp) → k.comp ≡ comp → stroke_of l c k bar grid ≡ stroke_by comp (lagged l) c k bar (struck_at l grid)
  unfolding stroke_of
  stroke_by_lem comp e = ap (λ (m : Comp). stroke_by m (lagged l) c k bar (struck_at l grid)) e

  pub stroke_count : (stroke_of l c k bar grid).value.n ≤ l.value.n + 2
  unfolding stroke_of
  stroke_count = stroke_by_count k.comp (lagged l) c k bar (struck_at l grid)

-- ---- an eighth, from what the loop draws for it
module _ (l : KeysLane) (c : Chord) (k : KeysStyle) (density : Float) (bar e : ℕ) (beatS : Float) (d : Draw Bool) (drew : d ≡ chance_of l.stream density) where
  pub eighth_rest : d.value ≡ false → moved_of l d.stream ≡ eighth_of l c k density bar e beatS
  unfolding eighth_of
  eighth_rest silent = rw (← drew, silent)

  module _ (strikes : d.value ≡ true) (lag : Draw Float) (lags : lag ≡ draw_of keys_lag d.stream) (grid : Float) (on : grid ≡ grid_at bar e beatS) where
    abbrev at : Float
    at = add binary32 grid lag.value

    struck : (comp : Comp) → k.comp ≡ comp → stroke_by comp (moved_of l lag.stream) c k bar at ≡ eighth_of l c k density bar e beatS
    unfolding eighth_of
    struck comp is = rw (← drew, strikes, lags, on) (sym (stroke_by_lem (moved_of l d.stream) c k bar (grid_at bar e beatS) comp is))

    module _ (shell : Shell) (found : shell ≡ shell_of c) (dyad : Draw Dyad) (made : dyad ≡ dyad_of lag.stream shell (root_class_of c) k bar at) where
      pub eighth_shell : k.comp ≡ Comp.Shell → lane_of (set (set l.value.at l.value.n dyad.value.lower) (l.value.n + 1) dyad.value.higher) (l.value.n + 2) dyad.stream ≡ eighth_of l c k density bar e beatS
      unfolding shell_stroke_of
      eighth_shell is =
          let two : l.value.n + 2 ≡ l.value.n + 1 + 1 = omega arith in
          rw (made, found, two) (struck Comp.Shell is)

    module _ (tone : Draw Note) (made : tone ≡ tone_of lag.stream c k bar at) where
      pub eighth_single : k.comp ≡ Comp.Single → lane_of (set l.value.at l.value.n tone.value) (l.value.n + 1) tone.stream ≡ eighth_of l c k density bar e beatS
      unfolding single_stroke_of
      eighth_single is = rw made (struck Comp.Single is)
