-- The head, then the tempo. Assumes nothing.
use Rattle.laws.proofs.Writes.{wrote_then}
use Rattle.pages.specs.Bytes.{field}
use Rattle.pages.proofs.contents.Contents.put_tempo.Goals as goal

pub returns : goal.returns
unfolding field
returns c = wrote_then c.put_head-a.ensures c.put_f32.ensures
