-- The rest decides; the first loop tells which slots sound, and the second pushes those. Assumes nothing.
use Rattle.std.proofs.Common.{◌≤◌}
use mathlib.Core.List.{foldl}
use Rattle.composer.specs.Lead.Push.{push_on_of}
use Rattle.composer.specs.Lead.Statement.{empty_from}
use Rattle.composer.proofs.lead.StatementLaws.{kept_to, Sounding, Held}
use Rattle.composer.proofs.lead.statement.statement_bar.Given as goal

abbrev pub invariant-loop-sound : goal.invariant-loop-sound
invariant-loop-sound l = Sounding l.style.note_p l.initial.stream l.sound-items l.stream l.sound-index

abbrev pub invariant-loop-i : goal.invariant-loop-i
invariant-loop-i l = record {
  few : l.n ≤ l.i;
  held : Held (foldl push_on_of (empty_from l.initial.stream) (kept_to l.sounds l.i)) l.at l.n l.stream;
}
