-- What is written is no longer than a sheet's most, so the code fits; the rest is the reader's. Assumes nothing.
use mathlib.Core.Path.{ap, ◌∙◌}
use mir.Syntax.{w64}
use mir.ValLaws.{to_z-of_z}
use Rattle.seqochanu.specs.Code.{code_of}
use Rattle.seqochanu.proofs.CodeLaws.{reread_count}
use Rattle.seqochanu.proofs.seqochanu_reread.Goals as goal

pub code-requires : goal.code-requires
code-requires c = rw c.reread-w.ensures.value (reread_count _ _)

pub returns : goal.returns
returns c =
    let w = c.reread-w.ensures in
    record {
      value = to_z-of_z w64 c.code.result (record { sfits = c.code.type_inv }) ∙ c.code.ensures ∙ ap code_of w.value;
      buf_after = w.buf_after;
      octets = w.octets;
    }
