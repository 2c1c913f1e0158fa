-- The drift is below 9, and the tones are those for the beat. Assumes nothing.
use Prim.Native.Nat.{◌<◌}
use borrow.Author.Rules.{rules}
use native.Mathlib.Omega.{arith}
use Rattle.composer.specs.Lead.Pitch.{chord_note_of}
use Rattle.composer.proofs.lead.PitchLaws.{picked_below}
use Rattle.composer.proofs.lead.pitch.chord_note.Goals as goal

pub map-requires : goal.map-requires
map-requires c =
    let drift : c.pick.result.value < 9 = picked_below _ 9 c.pick.ensures (omega arith) in
    search (rules, drift)

pub returns : goal.returns
unfolding chord_note_of
returns c = search rules
