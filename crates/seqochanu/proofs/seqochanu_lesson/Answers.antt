-- Code and number are those of the answer. Assumes nothing.
use mathlib.Core.Path.{◌∙◌}
use mir.Syntax.{w64}
use mir.ValLaws.{to_z-of_z}
use Rattle.seqochanu.proofs.seqochanu_lesson.Goals as goal

pub returns-in-Ok : goal.returns-in-Ok
returns-in-Ok c =
    let l = c.lesson-answer in
    let e = c.in-Ok.is in
    record { answer = l.result; allowed = l.ensures; coded = rw e; lent = rw e }

pub returns-in-Err : goal.returns-in-Err
returns-in-Err c =
    let l = c.lesson-answer in
    let e = c.in-Err.is in
    let r = c.refusal_code in
    record {
      answer = l.result;
      allowed = l.ensures;
      coded = rw e (to_z-of_z w64 r.result (record { sfits = r.type_inv }) ∙ r.ensures);
      lent = rw e;
    }
