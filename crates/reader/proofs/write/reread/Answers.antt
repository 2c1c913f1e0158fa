-- What is read and written again gives the same bytes, so a copy of them is the answer. Assumes nothing.
use native.Mathlib.Omega.{arith}
use Rattle.std.proofs.lemmas.Result.{err_from_is_err_and}
use Rattle.reader.specs.Promise.{Octets}
use Rattle.reader.specs.Read.{reread_asked}
use Rattle.reader.proofs.AskedLaws.{tested_passes, read_refused_lem}
use Rattle.reader.proofs.PromiseLaws.{reread_passed}
use Rattle.reader.proofs.write.reread.Goals as goal

pub returns-in_err-tested : goal.returns-in_err-tested
unfolding reread_asked
returns-in_err-tested c =
    let p = err_from_is_err_and c.from_residual.result c.from_residual.ensures.1 in
    let e = read_refused_lem c.args.sheet.now _ c.in_err-tested.ensures in
    record { value = rw (p.1, p.2, e); buf_after = rw e; octets = λ i. omega (arith, c.type_inv.sheet i) }

pub returns : goal.returns
returns c =
    let o : Octets c.args.sheet.now = λ i. omega (arith, c.type_inv.sheet i) in
    let e = reread_passed c.args.sheet.now o (tested_passes c.args.sheet.now _ c.in_ok-tested.ensures) in
    rw e (record { value = c.bytes_into.ensures.value; buf_after = c.bytes_into.ensures.buf_after; octets = o })
