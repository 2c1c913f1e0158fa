-- The callees draw in the definition's order. Assumes nothing.
use borrow.Author.Rules.{rules}
use Rattle.composer.specs.Lead.Melody.{step_of}
use Rattle.composer.proofs.lead.PitchLaws.{role_quotes}
use Rattle.composer.proofs.lead.melody.step.Goals as goal

pub pitch_of-note-requires : goal.pitch_of-note-requires
pitch_of-note-requires c =
    record { sound = c.requires.sound; fit = c.requires.fit; quotable = rw c.role_of-role.ensures (role_quotes c.args.l c.args.p) }

pub returns : goal.returns
unfolding step_of
returns c = search rules
