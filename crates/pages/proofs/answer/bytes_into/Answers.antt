-- By the buffer's length. Assumes nothing.
use native.Mathlib.Omega.{arith}
use Rattle.pages.proofs.AnswerLaws.{refused, served}
use Rattle.pages.proofs.answer.bytes_into.Goals as goal

pub returns-then-buf-bytes : goal.returns-then-buf-bytes
returns-then-buf-bytes c = let all = refused c.args.buf.now c.args.bytes.now (omega (arith, c.if-buf-bytes.true)) in
    record { value = all.0; buf_after = all.1 }

pub returns : goal.returns
returns c = let all = served c.put_bytes.ensures in
    record { value = all.0; buf_after = all.1 }
