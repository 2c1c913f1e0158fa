-- One entry of the buffer is set. Assumes nothing.
use Rattle.laws.proofs.Writes.{wrote_set}
use native.Mathlib.Omega.{arith}
use Rattle.pages.proofs.put.put_u8.Goals as goal

pub returns : goal.returns
returns c = wrote_set c.args.buf.now c.args.at c.args.x (omega arith)
