-- Those before the index that are in the part are written. Assumes nothing.
use mathlib.Core.List.{map}
use Prim.Native.Nat.{◌*◌}
use lib.ListN.{length, take}
use Rattle.laws.specs.Lists.{joined, filter_of}
use Rattle.laws.specs.Writes.{Wrote}
use Rattle.pages.specs.Inner.Hits.{in_part}
use Rattle.pages.specs.Lane.{hit_bytes}
use Rattle.pages.proofs.hits.put_part.Given as goal

abbrev pub invariant-loop-h : goal.invariant-loop-h
invariant-loop-h l =
    let hs = filter_of (in_part l.part l.beat_s) (take l.h-index l.hits) in
    Wrote l.initial.buf l.buf l.at l.o (10 * length hs) (joined (map hit_bytes hs))
