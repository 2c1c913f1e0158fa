-- The top octave is within the window, which is wider than one. Assumes nothing.
use mathlib.Core.Path.{◌≡◌, ◌∙◌}
use Prim.Native.Nat.{◌-◌, max}
use native.Mathlib.Omega.{arith}
use Rattle.composer.specs.Lead.Tones.{no_class, tones_in}
use Rattle.composer.specs.Lead.Melody.{start_of}
use Rattle.composer.proofs.lead.TonesLaws.{tones_few, scale_few, tones_from, listed_packed}
use Rattle.composer.proofs.lead.melody.start.Goals as goal

pub chord_tones-found-requires : goal.chord_tones-found-requires
chord_tones-found-requires c =
    rw c.scale_notes-top.ensures (scale_few c.args.pool.now (c.args.style.hi - 12) c.args.style.hi (omega arith))

pub near-requires : goal.near-requires
near-requires c =
    let m : max c.args.style.lo (c.args.style.hi - 12) ≡ c.args.style.hi - 12 = omega arith in
    let s = rw m at c.requires.3 in
    rw (c.chord_tones-found.ensures, c.scale_notes-top.ensures, tones_from c.args.chord.notes c.args.pool.now (c.args.style.hi - 12) c.args.style.hi)
    (s, tones_few c.args.chord.notes c.args.pool.now no_class (c.args.style.hi - 12) c.args.style.hi (omega arith))

pub returns : goal.returns
unfolding start_of
returns c =
    let m : max c.args.style.lo (c.args.style.hi - 12) ≡ c.args.style.hi - 12 = omega arith in
    c.near.ensures
    ∙ rw (c.chord_tones-found.ensures, c.scale_notes-top.ensures, tones_from c.args.chord.notes c.args.pool.now (c.args.style.hi - 12) c.args.style.hi, listed_packed (tones_in c.args.chord.notes c.args.pool.now no_class (c.args.style.hi - 12) c.args.style.hi), m)
