-- A turn writes one seed more. Assumes nothing.
use Rattle.std.proofs.Common.{ℕ, ◌++◌, refl, sym, ap, ◌∙◌, arith}
use Rattle.laws.proofs.Writes.{wrote_none, wrote_then, wrote_as}
use Rattle.pages.specs.Bytes.{be64}
use Rattle.halls.specs.List.{list_bytes}
use Rattle.halls.proofs.ListLaws.{bytes_none, bytes_on}
use Rattle.halls.proofs.list.put_seeds.Goals as goal

pub loop-i-init : goal.loop-i-init
loop-i-init c = wrote_as refl (sym (bytes_none c.args.hall)) (wrote_none c.args.buf.now 0 (omega arith))

pub loop-i-preserved : goal.loop-i-preserved
loop-i-preserved c =
    let l = c.loop-i in
    let e = ap (λ (x : ℕ). list_bytes c.args.hall l.i ++ be64 x) c.splitmix_draw-seed.ensures ∙ sym (bytes_on c.args.hall l.i) in
    wrote_as (omega arith) e (wrote_then l.invariant c.put_u64-at.ensures)
