-- Each arm is its case of the definition: a length below 2^63 fits. Assumes nothing.
use mathlib.Core.Path.{◌∙◌}
use mir.Syntax.{w64}
use mir.ValLaws.{to_z_pos, to_z-of_z}
use Rattle.seqochanu.proofs.code.Goals as goal

pub overflow_cast-result : goal.overflow_cast-result
overflow_cast-result c = record { sfits = rw c.in-Ok.is at c.requires }

pub returns-in-Ok : goal.returns-in-Ok
returns-in-Ok c =
    let e = c.in-Ok.is in
    rw e (to_z_pos w64 c.in-Ok.n (rw e at c.requires))

pub returns-in-Err : goal.returns-in-Err
returns-in-Err c =
    let r = c.refusal_code in
    rw c.in-Err.is (to_z-of_z w64 r.result (record { sfits = r.type_inv }) ∙ r.ensures)
