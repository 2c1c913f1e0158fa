-- A silent pad's head says 0, and else the head says 4 and the bar's four notes follow. Assumes nothing.
use mathlib.Core.Path.{ap, ◌∙◌}
use mathlib.Core.List.{List, []}
use Prim.Native.Nat.{ℕ, ◌+◌}
use lib.ListN.{length, get_or}
use Rattle.laws.proofs.Writes.{wrote_then, wrote_as}
use Rattle.pages.specs.Bytes.{field}
use Rattle.pages.proofs.PageLaws.{chord_notes}
use Rattle.pages.proofs.page.Page.put_chord.Goals as goal

pub returns-then-not-self : goal.returns-then-not-self
unfolding field
returns-then-not-self c = rw c.if-not-self.true c.put_head.ensures

pub returns : goal.returns
unfolding field
returns c =
    let page = c.args.self.now in
    let four = chord_notes page.score.now page.chorded page.bar page.bar_bound in
    let is = ap (λ (l : List (List ℕ)). get_or l page.bar []) c.bar_chords-chords.ensures in
    rw c.if-not-self.false
    (wrote_as (ap (λ (n : ℕ). 3 + n) (ap length is ∙ four)) (rw (is, four)) (wrote_then c.put_head-a.ensures c.put_bytes.ensures))
