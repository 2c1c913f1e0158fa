-- The tag, then the length. Assumes nothing.
use Rattle.laws.proofs.Writes.{wrote_then}
use Rattle.pages.proofs.put.put_head.Goals as goal

pub returns : goal.returns
returns c = wrote_then c.put_u8-a.ensures c.put_u16.ensures
