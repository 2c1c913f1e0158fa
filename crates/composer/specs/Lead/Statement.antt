-- A bar of the statement. Definitions only.
use Rattle.std.specs.Prelude.{cond, Float}
use mathlib.Core.List.{[], foldl}
use Rattle.streams.specs.Draw.{chance_of}
use Rattle.streams.specs.declared.stream.NoiseStream.{NoiseStream}
use Rattle.streams.specs.declared.stream.Draw.{Draw}
use Rattle.composer.specs.Lead.Beats.{Beats, beats_of, list_of, add_of, settle_of}
use Rattle.composer.specs.Lead.Grid.{lead_grid}
use Rattle.composer.specs.Lead.Push.{push_on_of}
use Rattle.composer.specs.Style.{odds_of}
use Rattle.composer.specs.declared.style.LeadStyle.{LeadStyle}

-- no beat yet
abbrev pub empty_from : NoiseStream → Draw Beats
empty_from s = record { value = beats_of []; stream = s }

-- a slot of the grid sounds with the chance p
unfoldable pub slot_of : Float → Draw Beats → Float → Draw Beats
slot_of p d x =
    let c = chance_of d.stream p in
    record { value = cond c.value (add_of d.value x) d.value; stream = c.stream }

unfoldable pub slots_of : NoiseStream → Float → Draw Beats
slots_of s p = foldl (slot_of p) (empty_from s) lead_grid

unfoldable pub pushes_of : Draw Beats → Draw Beats
pushes_of d = foldl push_on_of (empty_from d.stream) (list_of d.value)

abbrev pub settled_of : Draw Beats → Draw Beats
settled_of d = record { value = settle_of d.value; stream = d.stream }

-- all slots are drawn, then the pushes of those that sound
unfoldable pub statement_bar_of : NoiseStream → LeadStyle → Draw Beats
statement_bar_of s style =
    let r = odds_of style.rest_p s in
    cond r.value (empty_from r.stream) (settled_of (pushes_of (slots_of r.stream style.note_p)))
