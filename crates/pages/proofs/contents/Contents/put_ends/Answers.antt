-- The head, then the six numbers. Assumes nothing.
use mathlib.Core.Path.{◌≡◌, refl}
use mathlib.Core.Bool.{Bool, true, false, cond}
use Rattle.std.specs.Int.{from_bool}
use Rattle.laws.proofs.Writes.{wrote_then}
use Rattle.pages.specs.Bytes.{field}
use Rattle.pages.proofs.contents.Contents.put_ends.Goals as goal

as_number : (b : Bool) → cond b 1 0 ≡ from_bool b
as_number true = refl
as_number false = refl

pub returns : goal.returns
unfolding field
returns c =
    rw (as_number c.args.self.now.form.now.dip, ← c.from.ensures, ← c.bars-2.ensures, ← c.code-2.ensures, ← c.bars.ensures, ← c.code.ensures)
    (wrote_then c.put_head-a.ensures c.put_bytes.ensures)
