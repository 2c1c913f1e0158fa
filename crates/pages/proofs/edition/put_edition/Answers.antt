-- The first edition has no field, the second's says 2. Assumes nothing.
use native.Mathlib.Omega.{arith}
use Rattle.laws.proofs.Writes.{wrote_none, wrote_then}
use Rattle.pages.specs.Bytes.{field}
use Rattle.pages.proofs.edition.put_edition.Goals as goal

pub returns-in-One : goal.returns-in-One
returns-in-One c =
    rw c.in-One.is (wrote_none c.args.buf.now c.args.at (omega (arith, c.requires)))

pub returns-in-Two : goal.returns-in-Two
unfolding field
returns-in-Two c =
    rw c.in-Two.is (wrote_then c.put_head-a.ensures c.put_u8.ensures)
