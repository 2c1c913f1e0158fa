-- The coin, the chance and the step are the callees'. Assumes nothing.
use borrow.Author.Rules.{rules}
use Rattle.composer.specs.Lead.Pitch.{passing_note_of}
use Rattle.composer.proofs.lead.pitch.passing_note.Goals as goal

pub returns : goal.returns
unfolding passing_note_of
returns c = search rules
