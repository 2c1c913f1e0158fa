-- Its numbers are finite. Assumes nothing.
use Rattle.reader.specs.Song.{note_at}
use Rattle.reader.proofs.TestedLaws.{note_told}
use Rattle.reader.proofs.event.note_at.Goals as goal

pub f32_at-requires-clause-finite : goal.f32_at-requires-clause-finite
unfolding note_at
f32_at-requires-clause-finite c = let a = c.args in (note_told a.edition a.leads (note_at a.edition a.leads a.bytes.now a.at) c.requires.within).3.at

pub f32_at-requires-2-clause-finite : goal.f32_at-requires-2-clause-finite
unfolding note_at
f32_at-requires-2-clause-finite c = let a = c.args in (note_told a.edition a.leads (note_at a.edition a.leads a.bytes.now a.at) c.requires.within).3.vel

pub f32_at-requires-3-clause-finite : goal.f32_at-requires-3-clause-finite
unfolding note_at
f32_at-requires-3-clause-finite c = let a = c.args in (note_told a.edition a.leads (note_at a.edition a.leads a.bytes.now a.at) c.requires.within).3.dur
