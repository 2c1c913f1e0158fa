-- What was read tells the reply, and the reply is what is written.
use Rattle.std.proofs.Common.{◌≡◌, ℕ, List, OnOk, length, take, replicate, sym, ap, ◌∙◌, subst, arith, le_refl, length-take-le}
use Rattle.std.specs.Io.KnownBytes.{Appends}
use Rattle.pages.specs.Reply.{reply_bytes}
use Rattle.hall.specs.Record.{hall_asked}
use Rattle.input.proofs.ReadLaws.{read_whole}
use Rattle.pages.proofs.ReplyLaws.{replied_front}
use Rattle.hall.proofs.RecordLaws.{asked_whole}
use Rattle.hall.proofs.answer.Goals as goal

pub returns : goal.returns
returns g c =
    let f = c.read_full-n in
    let front = take f.result.0 f.new.buf in
    let long : length front ≡ f.result.0 = length-take-le _ f.new.buf f.ensures.within in
    let replied : take c.respond-m.result c.respond-m.new.out ≡ reply_bytes (hall_asked front) =
    rw (c.respond-m.ensures.value, c.respond-m.ensures.out_after) (replied_front 32768 (hall_asked front) (replicate 32768 0) (le_refl 32768)) in
    let writes = λ (ys : List ℕ). OnOk c.write_all-written.result (Appends (g.W.Write.contents c.args.output.now) (g.W.Write.contents c.write_all-written.new.self) ys) in
    read_whole _ _ _ front (λ xs. writes (reply_bytes (hall_asked xs))) f.ensures.bytes f.ensures.end (λ rest h. subst writes (sym (ap reply_bytes (asked_whole front rest (λ l. h (omega arith))) ∙ sym replied)) c.write_all-written.ensures.bytes)
