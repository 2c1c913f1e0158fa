-- Its five parts, one after the other. Assumes nothing.
use Rattle.laws.proofs.Writes.{wrote_then}
use Rattle.pages.specs.Lane.{sound_bytes}
use Rattle.pages.proofs.event.put_sound.Goals as goal

pub returns : goal.returns
unfolding sound_bytes
returns c =
    wrote_then c.put_u8-a.ensures (wrote_then c.put_f32-b.ensures (wrote_then c.put_u8-c.ensures (wrote_then c.put_f32-d.ensures c.put_f32.ensures)))
