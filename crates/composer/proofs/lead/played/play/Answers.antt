-- The role and both draws are the callees'. Assumes nothing.
use borrow.Author.Rules.{rules}
use Rattle.composer.specs.Lead.Played.{played_note_of}
use Rattle.composer.proofs.lead.played.play.Goals as goal

pub returns : goal.returns
unfolding played_note_of
returns c = search rules
