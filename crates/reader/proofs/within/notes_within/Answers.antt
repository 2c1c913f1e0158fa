-- The chain tests the first n entries. Assumes nothing.
use mathlib.Core.Path.{◌≡◌}
use native.Mathlib.Omega.{arith}
use Rattle.std.proofs.Common.{rules, tests}
use Rattle.std.proofs.lemmas.Grind.{common_steps}
use Rattle.std.proofs.lemmas.Iterator.{YieldsList-from_slice}
use Rattle.std.proofs.lemmas.Iterator.Search.{all_from_yields_List}
use Rattle.std.specs.List.{list_all}
use lib.ListN.{take}
use Rattle.reader.specs.Within.{note_within}
use Rattle.reader.proofs.LibraryLaws.{notes_within_is}
use Rattle.reader.proofs.within.notes_within.Goals as goal

pub returns-then-n-notes : goal.returns-then-n-notes
returns-then-n-notes c =
    let used = take c.args.n c.args.notes.now in
    let e : c.all.result ≡ list_all (note_within c.args.edition c.args.leads) used = all_from_yields_List (note_within c.args.edition c.args.leads) _ _ _ c.all.ensures.ran (YieldsList-from_slice used cc) (λ x b q k. search (rules, tests)) in
    grind (arith, notes_within_is, common_steps)
