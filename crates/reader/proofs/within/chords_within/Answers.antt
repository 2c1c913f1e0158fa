-- The chain tests all. Assumes nothing.
use mathlib.Core.Path.{sym, ◌∙◌}
use Rattle.std.proofs.Common.{rules, tests}
use Rattle.std.proofs.lemmas.Iterator.{YieldsList-from_slice}
use Rattle.std.proofs.lemmas.Iterator.Search.{all_from_yields_List}
use Rattle.composer.specs.Chord.{past_chord}
use Rattle.reader.specs.Within.{chord_within, chords_within}
use Rattle.reader.proofs.LibraryLaws.{each}
use Rattle.reader.proofs.within.chords_within.Goals as goal

pub returns : goal.returns
unfolding chords_within
returns c =
    let xs = c.args.chords in
    all_from_yields_List chord_within _ _ _ c.all.ensures.ran (YieldsList-from_slice xs cc) (λ x b q k. search (rules, tests)) ∙ sym (each chord_within past_chord xs 8 (search rules))
