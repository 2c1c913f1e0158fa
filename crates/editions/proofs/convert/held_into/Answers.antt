-- The song is composed once, for the test and for what is written. Assumes nothing.
use mathlib.Core.Path.{◌∙◌}
use Rattle.editions.proofs.ConvertLaws.{held_same, held_other, composed_promised, composed_asked, composed_most, own_held}
use Rattle.editions.proofs.convert.held_into.Goals as goal

pub is_own-own-requires : goal.is_own-own-requires
is_own-own-requires c =
    let v = c.args.v in
    record { promised = composed_promised v c.number-number.ensures c.compose-song.ensures; fits = composed_most v c.number-number.ensures c.compose-song.ensures v.edition }

pub returns-then-not-own : goal.returns-then-not-own
returns-then-not-own c =
    let e = held_other c.args.wanted c.args.sheet.now c.args.v (own_held c.args.v c.number-number.ensures c.compose-song.ensures c.args.sheet.now c.is_own-own.ensures ∙ c.if-not-own.true) in
    record { value = rw e; buf_after = rw e }

pub composed_into-requires : goal.composed_into-requires
composed_into-requires c =
    composed_promised c.args.v c.number-number.ensures c.compose-song.ensures

pub returns : goal.returns
returns c =
    let e = held_same c.args.wanted c.args.sheet.now c.args.v (own_held c.args.v c.number-number.ensures c.compose-song.ensures c.args.sheet.now c.is_own-own.ensures ∙ c.if-not-own.false) in
    rw (e, ← composed_asked c.args.v c.number-number.ensures c.compose-song.ensures c.args.wanted) c.composed_into.ensures
