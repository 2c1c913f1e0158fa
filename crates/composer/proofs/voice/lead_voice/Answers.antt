-- The voice by draw 1. Assumes nothing.
use borrow.Author.Rules.{rules}
use Rattle.streams.specs.Stream.{unit_of}
use Rattle.composer.specs.Voice.{lead_voice_of}
use Rattle.composer.proofs.voice.lead_voice.Goals as goal

pub returns : goal.returns
unfolding lead_voice_of unit_of
returns c = search rules
