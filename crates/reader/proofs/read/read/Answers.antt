-- What passes the tests gives its song, and anything else the refusal. Assumes nothing.
use mathlib.Core.Path.{sym}
use native.Mathlib.Omega.{arith}
use Rattle.std.proofs.lemmas.Result.{err_from_is_err_and}
use Rattle.reader.proofs.AskedLaws.{tested_passes, tested_same, read_refused_lem, passes_read}
use Rattle.reader.proofs.read.read.Goals as goal

pub song_in-requires : goal.song_in-requires
song_in-requires c =
    let e = c.in_ok-formed.ensures in
    rw (tested_same c.args.bytes.now _ e) at (tested_passes c.args.bytes.now _ e).within

pub returns-in_err-formed : goal.returns-in_err-formed
returns-in_err-formed c =
    let p = err_from_is_err_and c.from_residual.result c.from_residual.ensures.1 in
    let e = read_refused_lem c.args.bytes.now _ c.in_err-formed.ensures in
    record { value = rw (p.1, p.2) (sym e); octets = λ i. omega (arith, c.type_inv.bytes i) }

pub returns : goal.returns
returns c =
    let b = c.args.bytes.now in
    let e = c.in_ok-formed.ensures in
    record { value = rw (c.song_in.ensures, sym (tested_same b _ e)) (sym (passes_read b (tested_passes b _ e))); octets = λ i. omega (arith, c.type_inv.bytes i) }
