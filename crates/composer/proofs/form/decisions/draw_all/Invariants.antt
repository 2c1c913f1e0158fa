-- The stream has made a draw for each place so far, and they stand there. Assumes nothing.
use Rattle.std.proofs.Common.{◌≡◌}
use Rattle.laws.specs.Lists.{list_to, pad}
use Rattle.streams.specs.Stream.{after}
use Rattle.composer.specs.Note.{zero32}
use Rattle.composer.specs.Form.Decisions.{unit_from}
use Rattle.composer.proofs.form.decisions.draw_all.Given as goal

abbrev pub invariant-loop-value : goal.invariant-loop-value
invariant-loop-value l = record {
  values : l.value-items ≡ pad zero32 29 (list_to (unit_from l.initial.stream) l.value-index);
  stream : l.stream ≡ after l.initial.stream l.value-index;
}
