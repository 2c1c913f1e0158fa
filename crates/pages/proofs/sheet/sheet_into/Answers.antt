-- The size by the counts is the sheet's length. Assumes nothing.
use mathlib.Core.Path.{◌≡◌}
use native.Mathlib.Omega.{arith}
use lib.ListN.{length}
use Rattle.pages.specs.Sheet.{sheet_bytes}
use Rattle.pages.proofs.AnswerLaws.{refused, served}
use Rattle.pages.proofs.SheetLaws.{chords_length, sheet_length}
use borrow.Author.Rules.{rules}
use Rattle.pages.proofs.sheet.sheet_into.Goals as goal
use Rattle.pages.proofs.sheet.sheet_into.Goals.{Start}

-- found from the start alone; from further on it lies too deep
six_at : (d : Start) → length d.args.scale.pcs ≡ 6
six_at d = search rules

-- `good` says of each parameter what its type does: here, how long an array in it is
pub returns-then-buf-size : goal.returns-then-buf-size
returns-then-buf-size c =
    let eight : length c.args.s.bar_chords ≡ 8 = search rules in
    let six = six_at (goal.at.returns-then-buf-size c).Start in
    let most : length c.args.f.plays ≡ 64 = search rules in
    let size = sheet_length c.args.edition c.args.seed c.args.s c.args.scale c.args.f c.requires.writable.lanes (chords_length c.args.s.bar_chords eight c.requires.chorded) (omega arith) (omega arith) in
    let all = refused c.args.buf.now (sheet_bytes c.args.edition c.args.seed c.args.s c.args.scale c.args.f) (omega arith) in
    record { value = all.0; buf_after = all.1 }

pub returns : goal.returns
returns c = let all = served c.put_sheet.ensures in
    record { value = all.0; buf_after = all.1 }
