-- The chain tests all. Assumes nothing.
use mathlib.Core.Path.{sym, ◌∙◌}
use Rattle.std.proofs.Common.{rules, tests}
use Rattle.std.proofs.lemmas.Iterator.{YieldsList-from_slice}
use Rattle.std.proofs.lemmas.Iterator.Search.{all_from_yields_List}
use lib.Dec.{leb}
use Rattle.reader.specs.Within.{chord_within}
use Rattle.reader.proofs.LibraryLaws.{each}
use Rattle.reader.proofs.within.chord_within.Goals as goal

pub returns : goal.returns
unfolding chord_within
returns c =
    let xs = c.args.c.now.notes in
    all_from_yields_List (λ k. leb k 127) _ _ _ c.all.ensures.ran (YieldsList-from_slice xs cc) (λ x b q k. search (rules, tests)) ∙ sym (each (λ k. leb k 127) 0 xs 4 (search rules))
