-- The head, then the number. Assumes nothing.
use Rattle.laws.proofs.Writes.{wrote_then, wrote_first}
use Rattle.pages.specs.Bytes.{field}
use Rattle.pages.proofs.reply.put_refusal.Goals as goal

pub returns : goal.returns
unfolding field
returns c =
    let all = wrote_first (wrote_then c.put_head-at.ensures c.put_u8.ensures) in
    record { value = all.0; out_after = rw (← c.number-number.ensures) all.1 }
