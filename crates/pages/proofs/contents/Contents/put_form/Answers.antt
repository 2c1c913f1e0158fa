-- The two fields, one after the other. Assumes nothing.
use mathlib.Core.Path.{refl}
use native.Mathlib.Omega.{arith}
use Rattle.laws.proofs.Writes.{wrote_then, wrote_as}
use Rattle.pages.specs.Sheet.{form_bytes}
use Rattle.pages.proofs.contents.Contents.put_form.Goals as goal

pub returns : goal.returns
unfolding form_bytes
returns c =
    wrote_as (omega arith) refl (wrote_then c.put_ends-a.ensures c.put_plays.ensures)
