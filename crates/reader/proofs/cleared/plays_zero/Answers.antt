-- The chain tests the entries past the first n. Assumes nothing.
use mathlib.Core.Path.{sym, ◌∙◌}
use Rattle.std.proofs.Common.{rules, tests}
use Rattle.std.proofs.lemmas.Iterator.{YieldsList-from_slice}
use Rattle.std.proofs.lemmas.Iterator.Adapters.{YieldsList-from_skip}
use Rattle.std.proofs.lemmas.Iterator.Search.{all_from_yields_List}
use lib.Dec.{eqb}
use Rattle.composer.specs.Form.Plays.{bits_of, silent}
use Rattle.reader.specs.Cleared.{plays_zero}
use Rattle.reader.proofs.LibraryLaws.{each_from}
use Rattle.reader.proofs.cleared.plays_zero.Goals as goal

pub returns : goal.returns
unfolding plays_zero
returns c =
    let f = c.args.f.now in
    all_from_yields_List (λ p. eqb (bits_of p) 0) _ _ _ c.all.ensures.ran (YieldsList-from_skip f.bars (YieldsList-from_slice f.plays cc) cc) (λ x b q k. search (rules, tests))
    ∙ sym (each_from (λ p. eqb (bits_of p) 0) silent f.plays 64 f.bars (search rules))
