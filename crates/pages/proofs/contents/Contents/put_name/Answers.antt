-- The head, then the three parts. Assumes nothing.
use Rattle.laws.proofs.Writes.{wrote_then}
use Rattle.pages.specs.Bytes.{field}
use Rattle.pages.proofs.contents.Contents.put_name.Goals as goal

pub returns : goal.returns
unfolding field
returns c =
    rw (← c.number-2.ensures, ← c.number.ensures)
    (wrote_then c.put_head-a.ensures (wrote_then c.put_u8-b.ensures (wrote_then c.put_u64-c.ensures c.put_u8.ensures)))
