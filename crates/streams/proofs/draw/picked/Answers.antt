-- The part is below n, so it is a byte. Assumes nothing.
use Rattle.std.proofs.Common.{◌≡◌, ◌^◌, min, ap, ◌∙◌, arith}
use Rattle.streams.specs.Draw.{picked_of}
use Rattle.streams.proofs.DrawLaws.{picked_le}
use Rattle.streams.proofs.draw.picked.Goals as goal
use Rattle.streams.proofs.draw.picked.Goals.{After-part}

-- a byte's parts are few enough
told : (a : After-part) → a.part.result ≡ picked_of a.args.u a.args.n
told a =
    let few : min a.args.n (2 ^ 24) ≡ a.args.n = omega arith in
    a.part.ensures ∙ ap (picked_of a.args.u) few

pub overflow_cast-result : goal.overflow_cast-result
overflow_cast-result c = omega (arith, told (goal.at.overflow_cast-result c).After-part, picked_le c.args.u c.args.n)
