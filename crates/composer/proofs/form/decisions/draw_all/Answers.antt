-- The stream has made a draw for each place so far, and they stand there. Assumes nothing.
use Rattle.std.proofs.Common.{◌≡◌, sym, ap, ◌∙◌, ◌+◌, arith}
use Rattle.laws.specs.Lists.{list_to}
use Rattle.laws.proofs.Lists.{pad_start, pad_on, pad_full, length_list_to}
use Rattle.streams.specs.Stream.{after, unit_at, unit_of}
use Rattle.streams.proofs.StreamLaws.{after_none, unit_number}
use Rattle.composer.specs.Note.{zero32}
use Rattle.composer.specs.Form.Decisions.{unit_from, draw_all_of}
use Rattle.composer.proofs.form.decisions.draw_all.Goals as goal

pub loop-value-init : goal.loop-value-init
loop-value-init c = record { values = sym (pad_start (unit_from c.args.s) zero32 29); stream = sym (after_none c.args.s (omega arith)) }

pub loop-value-preserved : goal.loop-value-preserved
loop-value-preserved c =
    let l = c.loop-value in
    let s = c.args.s in
    let i = l.value-index in
    let d : c.unit-d.result ≡ record { value = unit_at s (i + 1); stream = after s (i + 1) } = c.unit-d.ensures ∙ ap unit_of l.invariant.stream ∙ unit_number s i in
    record { values = rw (d, l.invariant.values) (pad_on (unit_from s) zero32 29 i (omega arith)); stream = rw d }

pub returns : goal.returns
unfolding draw_all_of
returns c =
    let l = c.loop-value in
    let s = c.args.s in
    let e : l.value-index ≡ 29 = omega arith in
    let filled = (rw e at l.invariant.values) ∙ pad_full zero32 29 (list_to (unit_from s) 29) (length_list_to (unit_from s) 29) in
    rw (filled, (rw e at l.invariant.stream))
