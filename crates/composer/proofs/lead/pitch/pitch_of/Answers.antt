-- One case for each role. Assumes nothing.
use Rattle.composer.specs.Lead.Pitch.{pitch_of}
use Rattle.composer.proofs.lead.pitch.pitch_of.Goals as goal

pub returns-in-Quote : goal.returns-in-Quote
unfolding pitch_of
returns-in-Quote c = rw c.in-Quote.is

pub returns-in-Close : goal.returns-in-Close
unfolding pitch_of
returns-in-Close c = rw (c.in-Close.is, c.close_note.ensures)

pub returns-in-Peak : goal.returns-in-Peak
unfolding pitch_of
returns-in-Peak c = rw c.in-Peak.is c.peak_note.ensures

pub returns-in-Resolve : goal.returns-in-Resolve
unfolding pitch_of
returns-in-Resolve c = rw (c.in-Resolve.is, c.resolve_note.ensures)

pub returns-in-ChordTone : goal.returns-in-ChordTone
unfolding pitch_of
returns-in-ChordTone c = rw c.in-ChordTone.is c.chord_note.ensures

pub returns-in-Passing : goal.returns-in-Passing
unfolding pitch_of
returns-in-Passing c = rw c.in-Passing.is c.passing_note.ensures
