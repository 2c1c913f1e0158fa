-- One by one, to the first that fails. Assumes nothing.
use mathlib.Core.Path.{refl, ap, ◌∙◌}
use Prim.Native.Nat.{◌+◌, ◌*◌}
use native.Mathlib.Omega.{arith}
use borrow.Author.Tests.{tests}
use Rattle.std.proofs.Common.{rules}
use Rattle.std.proofs.lemmas.Iterator.{YieldsList-from_range}
use Rattle.std.proofs.lemmas.Iterator.Search.{all_from_yields_List}
use Rattle.reader.specs.Layout.{body_at}
use Rattle.reader.specs.Song.{hit_at}
use Rattle.reader.specs.Tests.{all_to}
use Rattle.reader.specs.Within.{hit_within}
use Rattle.reader.proofs.LoopLaws.{all_in_range}
use Rattle.reader.proofs.event.hits_pass.Goals as goal

pub returns : goal.returns
returns c =
    let k = c.args.k in
    let b = c.args.formed.now.fields.bytes.now in
    all_from_yields_List (λ i. hit_within (hit_at b (body_at b k + 10 * i))) _ _ _ c.all.ensures.ran (YieldsList-from_range 0 c.hits.result c.hits.result refl (omega arith)) (λ x b q k. search (rules, tests))
    ∙ all_in_range _ c.hits.result
    ∙ ap (all_to _) c.hits.ensures
