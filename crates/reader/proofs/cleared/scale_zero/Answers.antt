-- The chain tests the entries past the first n. Assumes nothing.
use mathlib.Core.Path.{sym, ◌∙◌}
use Rattle.std.proofs.Common.{rules, tests}
use Rattle.std.proofs.lemmas.Iterator.{YieldsList-from_slice}
use Rattle.std.proofs.lemmas.Iterator.Adapters.{YieldsList-from_skip}
use Rattle.std.proofs.lemmas.Iterator.Search.{all_from_yields_List}
use lib.Dec.{eqb}
use Rattle.reader.specs.Cleared.{scale_zero}
use Rattle.reader.proofs.LibraryLaws.{each_from}
use Rattle.reader.proofs.cleared.scale_zero.Goals as goal

pub returns : goal.returns
unfolding scale_zero
returns c =
    let s = c.args.s in
    all_from_yields_List (λ pc. eqb pc 0) _ _ _ c.all.ensures.ran (YieldsList-from_skip s.n (YieldsList-from_slice s.pcs cc) cc) (λ x b q k. search (rules, tests))
    ∙ sym (each_from (λ pc. eqb pc 0) 0 s.pcs 6 s.n (search rules))
