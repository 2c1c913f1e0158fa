-- By the two tests. Assumes nothing.
use mathlib.Core.Path.{sym, ◌∙◌}
use native.Mathlib.Omega.{arith}
use borrow.Author.Rules.{rules}
use Rattle.halls.proofs.ListLaws.{list_outside, list_short, list_served}
use Rattle.halls.proofs.list.hall_list.Goals as goal

pub returns-then-outside : goal.returns-then-outside
returns-then-outside c = let all = list_outside c.args.hall c.args.count c.args.buf.now (sym c.is_outside-outside.ensures ∙ c.if-outside.true) in
    record { value = all.0; buf_after = all.1 }

pub returns-then-buf-count : goal.returns-then-buf-count
returns-then-buf-count c = let all = list_short c.args.hall c.args.count c.args.buf.now (search rules) (omega arith) in
    record { value = all.0; buf_after = all.1 }

pub put_seeds-requires : goal.put_seeds-requires
put_seeds-requires c = omega arith

pub returns : goal.returns
returns c = let all = list_served c.args.hall c.args.count c.args.buf.now (sym c.is_outside-outside.ensures ∙ c.if-outside.false) c.put_seeds.ensures in
    record { value = all.0; buf_after = all.1 }
