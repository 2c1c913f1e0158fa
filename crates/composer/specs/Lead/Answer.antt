-- A bar of the answer. Definitions only.
use Rattle.std.specs.Prelude.{Bool, cond, eqb, Float}
use mathlib.Core.List.{foldl}
use Rattle.std.specs.Float.{binary32}
use Rattle.std.specs.Float.Ieee.{of_bits, lt, add, neg}
use Rattle.streams.specs.Draw.{chance_of, coin_of, pick_of}
use Rattle.streams.specs.declared.stream.NoiseStream.{NoiseStream}
use Rattle.streams.specs.declared.stream.Draw.{Draw}
use Rattle.composer.specs.Lead.Beats.{Beats, list_of, remove_of}
use Rattle.composer.specs.Lead.Grid.{grid_first, grid_last}
use Rattle.composer.specs.Lead.Push.{push_on_of}
use Rattle.composer.specs.Lead.Statement.{empty_from, settled_of}

-- 0.2
abbrev pub shift_p : Float
shift_p = of_bits binary32 0x3e4c_cccd

-- 0.5
abbrev pub eighth_beats : Float
eighth_beats = of_bits binary32 0x3f00_0000

-- 0.1
abbrev pub drop_p : Float
drop_p = of_bits binary32 0x3dcc_cccd

abbrev pub either_way_of : Bool → Float
either_way_of up = cond up eighth_beats (neg eighth_beats)

-- a beat held between the ends of the grid
abbrev pub clamp_of : Float → Float
clamp_of x = cond (lt x grid_first) grid_first (cond (lt grid_last x) grid_last x)

-- a beat that may shift an eighth either way, by a coin
unfoldable pub shift_of : NoiseStream → Float → Draw Float
shift_of s beat =
    let c = chance_of s shift_p in
    let up = coin_of c.stream in
    cond c.value (record { value = clamp_of (add binary32 beat (either_way_of up.value)); stream = up.stream })
    (record { value = beat; stream = c.stream })

-- one beat more, shifted and then pushed
unfoldable pub vary_of : Draw Beats → Float → Draw Beats
vary_of d beat =
    let m = shift_of d.stream beat in
    push_on_of (record { value = d.value; stream = m.stream }) m.value

unfoldable pub varied_of : NoiseStream → Beats → Draw Beats
varied_of s b = foldl vary_of (empty_from s) (list_of b)

-- a bar that is not empty may lose one beat
unfoldable pub drop_one_of : Draw Beats → Draw Beats
drop_one_of d =
    let n = d.value.n in
    let c = chance_of d.stream drop_p in
    let k = pick_of c.stream n in
    cond (eqb n 0) d
    (cond c.value (record { value = remove_of d.value k.value; stream = k.stream }) (record { value = d.value; stream = c.stream }))

unfoldable pub answer_bar_of : NoiseStream → Beats → Draw Beats
answer_bar_of s b = settled_of (drop_one_of (varied_of s b))
