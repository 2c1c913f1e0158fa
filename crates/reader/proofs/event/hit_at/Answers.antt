-- Its numbers are finite. Assumes nothing.
use Rattle.reader.specs.Song.{hit_at}
use Rattle.reader.proofs.TestedLaws.{hit_told}
use Rattle.reader.proofs.event.hit_at.Goals as goal

pub f32_at-requires-clause-finite : goal.f32_at-requires-clause-finite
unfolding hit_at
f32_at-requires-clause-finite c = (hit_told (hit_at c.args.bytes.now c.args.at) c.requires.within).2.at

pub f32_at-requires-2-clause-finite : goal.f32_at-requires-2-clause-finite
unfolding hit_at
f32_at-requires-2-clause-finite c = (hit_told (hit_at c.args.bytes.now c.args.at) c.requires.within).2.gain
