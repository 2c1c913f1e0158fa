-- Each answer is its case of the definition, by the lengths of the two slices. Assumes nothing.
use borrow.Author.Tests.{eq-eqb, ne_eqb}
use lib.ListN.{length}
use native.Mathlib.Omega.{arith}
use Rattle.composer.specs.declared.refusal.Refusal.{Refusal}
use Rattle.halls.specs.List.{list_asked}
use Rattle.halls.proofs.ListLaws.{list_most}
use Rattle.pages.specs.Answer.{Declines}
use Rattle.pages.proofs.ReplyLaws.{replied_whole, replied_after}
use Rattle.hall.specs.Record.{hall_asked}
use Rattle.hall.proofs.record.respond.Goals as goal

pub returns-then-input-ne10 : goal.returns-then-input-ne10
unfolding hall_asked
returns-then-input-ne10 c =
    let other = ne_eqb (length c.args.input.now) 10 c.if-input-ne10.true in
    let both = replied_whole 32768 (Declines Refusal.WrongLength) c.args.out.now (omega arith) c.put_refusal.ensures.value c.put_refusal.ensures.out_after in
    record { value = rw other both.0; out_after = rw other both.1 }

pub returns : goal.returns
unfolding hall_asked
returns c =
    let same = eq-eqb (length c.args.input.now) 10 c.if-input-ne10.false in
    let both = replied_after 32768 (list_asked c.u64_at-hall.result c.u16_at-count.result) c.args.out.now (omega arith) (list_most _ _) c.hall_list-w.ensures.value c.hall_list-w.ensures.buf_after c.reply.ensures.value c.reply.ensures.out_after in
    record {
      value = rw (same, ← c.u16_at-count.ensures, ← c.u64_at-hall.ensures) both.0;
      out_after = rw (same, ← c.u16_at-count.ensures, ← c.u64_at-hall.ensures) both.1;
    }
