-- By what reading and writing answer. Assumes nothing.
use Rattle.std.proofs.lemmas.Result.{err_from_is_err_and}
use Rattle.reader.specs.Read.{reread_asked}
use Rattle.roundtrip.proofs.rewritten.Goals as goal

pub returns-in_err-song : goal.returns-in_err-song
unfolding reread_asked
returns-in_err-song c =
    let p = err_from_is_err_and c.from_residual.result c.from_residual.ensures.1 in
    let r = c.in_err-song.ensures in
    record { value = rw (p.1, p.2, ← r.value); buf_after = rw (← r.value) }

pub returns : goal.returns
unfolding reread_asked
returns c =
    let w = c.write.ensures in
    let r = c.in_ok-song.ensures in
    record { value = rw (← r.value) w.value; buf_after = rw (← r.value) w.buf_after }
