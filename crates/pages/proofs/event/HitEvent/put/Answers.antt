-- Its four parts, one after the other; the kind is written as its number. Assumes nothing.
use Rattle.laws.proofs.Writes.{wrote_then}
use Rattle.pages.specs.Lane.{hit_bytes}
use Rattle.pages.proofs.event.HitEvent.put.Goals as goal

pub returns : goal.returns
unfolding hit_bytes
returns c =
    rw (← c.number.ensures) (wrote_then c.put_u8-a.ensures (wrote_then c.put_u8-b.ensures (wrote_then c.put_f32-c.ensures c.put_f32.ensures)))
