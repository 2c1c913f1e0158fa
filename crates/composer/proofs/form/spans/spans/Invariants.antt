-- The forms of the seeds so far are tested. Assumes nothing.
use Rattle.std.proofs.Common.{◌≡◌, take}
use Rattle.std.specs.List.{list_any}
use Rattle.composer.specs.Form.Spans.{mutes_any, moves_any}
use Rattle.composer.proofs.form.spans.spans.Given as goal

abbrev pub invariant-loop-seed : goal.invariant-loop-seed
invariant-loop-seed l = record {
  mute : l.mutes ≡ list_any mutes_any (take l.seed-index l.seeds);
  move : l.moves ≡ list_any moves_any (take l.seed-index l.seeds);
}
