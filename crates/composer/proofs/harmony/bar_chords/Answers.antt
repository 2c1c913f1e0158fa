-- Each entry so far is its chord's notes, over an array of none. Assumes nothing.
use Rattle.std.proofs.Common.{◌≡◌, sym, ◌∙◌, length, replicate, arith, rules}
use Rattle.laws.proofs.Lists.{map_start, map_on, map_full}
use Rattle.composer.specs.Chord.{past_chord}
use Rattle.composer.specs.Harmony.{notes_in}
use Rattle.composer.proofs.harmony.bar_chords.Goals as goal

pub loop-b-init : goal.loop-b-init
loop-b-init c = sym (map_start notes_in (replicate 4 0) 8 c.args.bars)

pub loop-b-preserved : goal.loop-b-preserved
loop-b-preserved c =
    let l = c.loop-b in
    rw l.invariant (map_on notes_in (replicate 4 0) 8 c.args.bars l.b past_chord (omega arith) (omega arith))

pub returns : goal.returns
returns c =
    let l = c.loop-b in
    let size : length c.args.bars ≡ 8 = search rules in
    l.invariant ∙ map_full notes_in (replicate 4 0) 8 c.args.bars l.b (omega arith) size
