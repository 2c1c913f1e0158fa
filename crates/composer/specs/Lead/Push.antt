-- The lofi push. Definitions only.
use Rattle.std.specs.Prelude.{cond, Float}
use Rattle.std.specs.Float.{binary32}
use Rattle.std.specs.Float.Ieee.{of_bits, eq, sub}
use Rattle.laws.specs.Floats.{fract_of}
use Rattle.streams.specs.Draw.{chance_of}
use Rattle.streams.specs.declared.stream.NoiseStream.{NoiseStream}
use Rattle.streams.specs.declared.stream.Draw.{Draw}
use Rattle.composer.specs.Note.{zero32}
use Rattle.composer.specs.Timing.{sixteenth_beats}
use Rattle.composer.specs.Lead.Beats.{Beats, add_of}

-- 0.15
abbrev pub push_p : Float
push_p = of_bits binary32 0x3e19_999a

-- an on-beat note may land a sixteenth ahead; another draws nothing
unfoldable pub push_of : NoiseStream → Float → Draw Float
push_of s beat =
    let c = chance_of s push_p in
    cond (eq (fract_of beat) zero32) (record { value = cond c.value (sub binary32 beat sixteenth_beats) beat; stream = c.stream })
    (record { value = beat; stream = s })

-- one beat more, pushed
unfoldable pub push_on_of : Draw Beats → Float → Draw Beats
push_on_of d beat =
    let p = push_of d.stream beat in
    record { value = add_of d.value p.value; stream = p.stream }
