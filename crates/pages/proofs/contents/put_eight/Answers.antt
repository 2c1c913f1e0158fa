-- A turn writes one chord more, of four notes. Assumes nothing.
use mathlib.Core.Path.{◌≡◌, sym}
use mathlib.Core.List.{[]}
use native.Mathlib.Omega.{arith}
use lib.ListN.{length, get_or}
use Rattle.laws.specs.Lists.{joined}
use Rattle.laws.proofs.Writes.{wrote_none, wrote_then, wrote_as}
use Rattle.laws.proofs.Joins.{joined_on}
use Rattle.laws.proofs.Rows.{row_long}
use borrow.Author.Rules.{rules}
use Rattle.pages.proofs.contents.put_eight.Goals as goal

pub loop-notes-init : goal.loop-notes-init
unfolding joined
loop-notes-init c = wrote_none c.args.buf.now c.args.at (omega arith)

pub loop-notes-preserved : goal.loop-notes-preserved
loop-notes-preserved c =
    let i = c.loop-notes.notes-index in
    let four : length (get_or c.args.chords.now i []) ≡ 4 = search (rules, row_long) in
    wrote_as (omega arith) (sym (joined_on c.args.chords.now i (omega arith))) (wrote_then c.loop-notes.invariant c.put_bytes-o.ensures)
