-- Each bar so far is its degree voiced, over an array of none. Assumes nothing.
use Rattle.std.proofs.Common.{◌≡◌, sym, ◌∙◌, length, arith, rules}
use Rattle.laws.proofs.Lists.{map_start, map_on, map_full}
use Rattle.composer.specs.Chord.{no_chord}
use Rattle.composer.specs.Harmony.{chord_in, chords_of}
use Rattle.composer.proofs.harmony.chords.Goals as goal

pub loop-k-init : goal.loop-k-init
loop-k-init c = sym (map_start (chord_in c.args.key) no_chord 8 c.args.row)

pub voiced-requires : goal.voiced-requires
voiced-requires c = (c.requires.by_index c.loop-k.k (omega arith), c.requires.key_bound)

pub loop-k-preserved : goal.loop-k-preserved
loop-k-preserved c =
    let l = c.loop-k in
    rw (l.invariant, c.voiced.ensures) (map_on (chord_in c.args.key) no_chord 8 c.args.row l.k 0 (omega arith) (omega arith))

pub returns : goal.returns
unfolding chords_of
returns c =
    let l = c.loop-k in
    let size : length c.args.row ≡ 8 = search rules in
    l.invariant ∙ map_full (chord_in c.args.key) no_chord 8 c.args.row l.k (omega arith) size
