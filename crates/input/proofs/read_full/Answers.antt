use Rattle.std.proofs.Common.{◌≡◌, ℕ, ◌+◌, ◌≤◌, List, ◌++◌, rules, length, take, sym, subst, take-add, take_at, drop_at, length-take-le}
use Rattle.std.specs.Io.KnownBytes.{Consumes}
use Rattle.std.proofs.KnownBytes.{Consumes-trans}
use borrow.Rule.Slice.PartMut.{put_mid, post_of}
use lib.Seq.{take-append-le}
use Rattle.input.proofs.read_full.Goals as goal

-- n bytes more after the first `done`
filled_more : (done n k : ℕ) (xs ys : List ℕ) → done ≤ length xs → n ≤ length ys → take (done + n) (put_mid done k xs ys) ≡ take done xs ++ take n ys
filled_more done n k xs ys within fits =
    let front = take done xs in
    let rest = ys ++ post_of done k xs in
    let long : length front ≡ done = length-take-le done xs within in
    rw (take-add done n (front ++ rest), take_at front rest done long, drop_at front rest done long, take-append-le n ys (post_of done k xs) fits)

pub loop-done-preserved : goal.loop-done-preserved
loop-done-preserved g c =
    let read = c.in-Ok.ensures in
    let before = c.loop-done.invariant in
    (search rules, search rules, subst (Consumes _ _) (sym (filled_more _ _ _ _ _ before.1 read.bound.0)) (Consumes-trans _ _ _ _ _ before.2 read.bytes.0))
