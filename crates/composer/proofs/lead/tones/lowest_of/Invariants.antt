-- The table so far, lowered by what is left, is the whole chord's. Assumes nothing.
use Rattle.std.proofs.Common.{◌≡◌, drop}
use Rattle.composer.specs.Lead.Tones.{lowest_from, lowest_of}
use Rattle.composer.proofs.lead.tones.lowest_of.Given as goal

abbrev pub invariant-loop-c : goal.invariant-loop-c
invariant-loop-c l = lowest_from l.lowest (drop l.c-index l.chord) ≡ lowest_of l.chord
