-- Each call is its definition, and the window is far below 2^24, and within a byte. Assumes nothing.
use Prim.Native.Nat.{◌<◌, ◌≤◌, ◌^◌}
use lib.Ieee.{to_unsigned}
use Rattle.laws.specs.Floats.{round_of}
use borrow.Author.Rules.{rules}
use Rattle.composer.specs.Tempo.{beats_of, tempo_draw_of}
use Rattle.composer.proofs.TempoLaws.{drawn_small, beats_byte}
use Rattle.composer.proofs.tempo.beats.Goals as goal

pub map-requires : goal.map-requires
unfolding beats_of
map-requires c =
    let small : to_unsigned 64 c.draw.result.value ≤ 2 ^ 24 = rw (c.draw.ensures, c.bpm.ensures) (drawn_small c.args.s c.args.style) in
    let byte : round_of c.draw.result.value < 256 = rw (c.draw.ensures, c.bpm.ensures) (beats_byte c.args.s c.args.style) in
    search (rules, small, byte)

pub returns : goal.returns
unfolding tempo_draw_of beats_of
returns c = search rules
