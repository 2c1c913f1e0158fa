-- By what reading answers, and then by the song that was read. Assumes nothing.
use mathlib.Core.Path.{sym, ◌∙◌}
use Rattle.std.proofs.lemmas.Result.{err_from_is_err_and}
use Rattle.editions.specs.Convert.{convert_asked}
use Rattle.editions.proofs.convert.convert.Goals as goal

pub returns-in_err-v : goal.returns-in_err-v
unfolding convert_asked
returns-in_err-v c =
    let p = err_from_is_err_and c.from_residual.result c.from_residual.ensures.1 in
    let r = c.in_err-v.ensures in
    record { value = rw (p.1, p.2, ← r.value); buf_after = rw (← r.value); octets = r.octets }

pub returns : goal.returns
unfolding convert_asked
returns c =
    let w = c.held_into.ensures in
    let r = c.in_ok-v.ensures in
    record { value = rw (← r.value) w.value; buf_after = rw (← r.value) w.buf_after; octets = r.octets }
