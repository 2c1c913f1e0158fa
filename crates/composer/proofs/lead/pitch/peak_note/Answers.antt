-- The lift is below 3 more than the least. Assumes nothing.
use Prim.Native.Nat.{◌<◌}
use native.Mathlib.Omega.{arith}
use Rattle.composer.specs.Lead.Pitch.{peak_note_of}
use Rattle.composer.proofs.lead.PitchLaws.{picked_below}
use borrow.Author.Rules.{rules}
use Rattle.composer.proofs.lead.pitch.peak_note.Goals as goal

pub map-requires : goal.map-requires
map-requires c =
    let lift : c.pick.result.value < 3 = picked_below _ 3 c.pick.ensures (omega arith) in
    search (rules, lift)

pub returns : goal.returns
unfolding peak_note_of
returns c = search rules
