-- Each call is its definition. Assumes nothing.
use borrow.Author.Rules.{rules}
use Rattle.composer.specs.Bass.Line.{pickup_note_of}
use Rattle.composer.proofs.bass.line.pickup_note.Goals as goal

pub returns : goal.returns
unfolding pickup_note_of
returns c = search rules
