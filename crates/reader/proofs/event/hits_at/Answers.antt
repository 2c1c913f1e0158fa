-- What passes together passes one by one. Assumes nothing.
use Prim.Native.Nat.{◌+◌, ◌*◌}
use native.Mathlib.Omega.{arith}
use Rattle.reader.specs.Layout.{body_at}
use Rattle.reader.specs.Song.{hit_at, hit_count_in}
use Rattle.reader.specs.Within.{hit_within}
use Rattle.reader.proofs.TestLaws.{all_to_at}
use Rattle.reader.proofs.event.hits_at.Goals as goal

pub hit_at-requires-clause-within : goal.hit_at-requires-clause-within
hit_at-requires-clause-within g c =
    let b = c.args.formed.now.fields.bytes.now in
    let k = c.args.k in
    rw c.body-at.ensures (all_to_at (λ i. hit_within (hit_at b (body_at b k + 10 * i))) (hit_count_in b k) c.requires.pass c.loop-i.i (omega arith))
