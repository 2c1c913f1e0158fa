-- Each answer is its case of the definition, by the lengths of the two slices. Assumes nothing.
use mathlib.Core.Bool.{Bool, true, false, true≢false, ◌||◌}
use mathlib.Core.Path.{◌≡◌, refl, sym, ◌∙◌}
use Prim.Native.Nat.{ℕ, ◌≤◌}
use native.Mathlib.Omega.{arith}
use borrow.Author.Tests.{eqb-true}
use lib.Dec.{eqb}
use lib.ListN.{length}
use Rattle.composer.specs.declared.refusal.Refusal.{Refusal}
use Rattle.pages.specs.Answer.{Declines}
use Rattle.pages.specs.Sheet.{sheet_asked}
use Rattle.pages.proofs.ReplyLaws.{replied_whole, replied_after}
use Rattle.pages.specs.Edition.{sheet_most}
use Rattle.pages.specs.declared.edition.Edition.{Edition}
use Rattle.pages.proofs.SheetLaws.{sheet_most_lem}
use Rattle.paper.specs.Record.{paper_asked}
use Rattle.paper.proofs.record.respond.Goals as goal

-- a record has its seed's bytes
seed_stands : (n : ℕ) → (eqb n 8 || eqb n 9) ≡ true → 8 ≤ n
seed_stands n e = go (eqb n 8) (eqb n 9) refl refl e
  where
    go : (a b : Bool) → eqb n 8 ≡ a → eqb n 9 ≡ b → (a || b) ≡ true → 8 ≤ n
    go true b p q e = omega (arith, eqb-true n 8 p)
    go false true p q e = omega (arith, eqb-true n 9 q)
    go false false p q e = absurd (true≢false (sym e))

pub returns-then-not-is_record : goal.returns-then-not-is_record
unfolding paper_asked
returns-then-not-is_record c =
    let other = sym c.is_record.ensures ∙ c.if-not-is_record.true in
    let both = replied_whole (sheet_most Edition.Two) (Declines Refusal.WrongLength) c.args.out.now (omega arith) c.put_refusal.ensures.value c.put_refusal.ensures.out_after in
    record { value = rw other both.0; out_after = rw other both.1 }

pub u64_at-seed-requires : goal.u64_at-seed-requires
u64_at-seed-requires c =
    seed_stands (length c.args.input.now) (sym c.is_record.ensures ∙ c.if-not-is_record.false)

pub returns : goal.returns
unfolding paper_asked
returns c =
    let same = sym c.is_record.ensures ∙ c.if-not-is_record.false in
    let both = replied_after (sheet_most Edition.Two) (sheet_asked c.style_in-style.result c.u64_at-seed.result) c.args.out.now (omega arith) (sheet_most_lem _ _) c.sheet-w.ensures.value c.sheet-w.ensures.buf_after c.reply.ensures.value c.reply.ensures.out_after in
    record {
      value = rw (same, ← c.u64_at-seed.ensures, ← c.style_in-style.ensures) both.0;
      out_after = rw (same, ← c.u64_at-seed.ensures, ← c.style_in-style.ensures) both.1;
    }
