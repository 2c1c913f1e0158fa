-- Each entry so far is its chord's notes, over an array of none. Assumes nothing.
use Rattle.std.proofs.Common.{◌≡◌, map, take, replicate}
use Rattle.laws.specs.Lists.{pad}
use Rattle.composer.specs.Harmony.{notes_in}
use Rattle.composer.proofs.harmony.bar_chords.Given as goal

abbrev pub invariant-loop-b : goal.invariant-loop-b
invariant-loop-b l = l.out ≡ pad (replicate 4 0) 8 (map notes_in (take l.b l.c-items))
