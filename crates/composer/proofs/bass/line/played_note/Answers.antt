-- Each call is its definition. Assumes nothing.
use borrow.Author.Rules.{rules}
use Rattle.composer.specs.Bass.Line.{played_note_of}
use Rattle.composer.proofs.bass.line.played_note.Goals as goal

pub returns : goal.returns
unfolding played_note_of
returns c = search rules
