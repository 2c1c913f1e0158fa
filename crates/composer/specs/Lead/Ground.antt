-- What a bar's notes are drawn from: the window, the velocities, and the chord's tones. Definitions only.
use Rattle.std.specs.Prelude.{Bool, cond, List}
use Rattle.composer.specs.Chord.{root_class_of}
use Rattle.composer.specs.Lead.Tones.{Tones, no_class, tones_in_of, chord_tones_of, strong_of}
use Rattle.composer.specs.declared.chord.Chord.{Chord}
use Rattle.composer.specs.declared.style.LeadStyle.{LeadStyle}
use Rattle.composer.specs.declared.lead.ground.Ground.{Ground}

unfoldable pub ground_of : LeadStyle → Chord → List Bool → Ground
ground_of style chord pool =
    let tones = tones_in_of chord.notes pool no_class style.lo style.hi in
    let rootless = tones_in_of chord.notes pool (root_class_of chord) style.lo style.hi in
    record { lo = style.lo; hi = style.hi; velocity = style.velocity; tones = tones; strong = strong_of tones rootless }

-- the same from the scale's notes in the window
unfoldable pub ground_from : LeadStyle → Chord → Tones → Ground
ground_from style chord sung =
    let found = chord_tones_of sung chord in
    record { lo = style.lo; hi = style.hi; velocity = style.velocity; tones = found.tones; strong = strong_of found.tones found.rootless }

abbrev pub tones_for_of : Ground → Bool → Tones
tones_for_of g strong = cond strong g.strong g.tones
