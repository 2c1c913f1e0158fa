-- What each record means: nine bytes by themselves, eight as the nine with style 0. Assumes nothing.
use mathlib.Core.Path.{◌≡◌, sym, ap, ◌∙◌}
use mathlib.Core.List.{List, [], ◌∷◌, ◌++◌}
use Prim.Native.Nat.{ℕ, ◌≤◌, ◌<◌}
use native.Mathlib.Nat.{add-zero}
use native.Mathlib.Omega.{arith}
use borrow.Author.Tests.{ne_eqb}
use lib.ListN.{length, length-append, get_or-append, get_or-eq_default}
use lib.Seq.{get_or-append-add}
use Rattle.laws.proofs.Lists.{get_d_any}
use Rattle.composer.specs.declared.refusal.Refusal.{Refusal}
use Rattle.composer.specs.declared.style.Style.{Style}
use Rattle.pages.specs.Answer.{Declines}
use Rattle.pages.specs.Bytes.{byte_at, be64_at}
use Rattle.pages.specs.Sheet.{sheet_asked}
use Rattle.pages.specs.declared.edition.Edition.{Edition}
use Rattle.pages.proofs.SheetLaws.{seed_sheet}
use Rattle.paper.specs.Promise.{PaperPromise}
use Rattle.paper.specs.Record.{default_style, paper_asked}

-- what stands behind a number's bytes does not matter
be64_front : (xs ys : List ℕ) → 8 ≤ length xs → be64_at (xs ++ ys) 0 ≡ be64_at xs 0
be64_front xs ys h =
    rw (front 0 (omega arith), front 1 (omega arith), front 2 (omega arith), front 3 (omega arith), front 4 (omega arith), front 5 (omega arith), front 6 (omega arith), front 7 (omega arith))
  where
    front : (i : ℕ) → i < 8 → byte_at (xs ++ ys) i ≡ byte_at xs i
    front i l = get_or-append xs ys 0 i (omega arith)

module _ (input : List ℕ) where
  nine_asked : length input ≡ 9 → paper_asked input ≡ sheet_asked (byte_at input 8) (be64_at input 0)
  unfolding paper_asked
  nine_asked e = rw e (ap (λ (style : ℕ). sheet_asked style (be64_at input 0)) (get_d_any input 8 default_style 0 (omega arith)))

  eight_asked : length input ≡ 8 → paper_asked input ≡ sheet_asked 0 (be64_at input 0)
  unfolding paper_asked
  eight_asked e = rw e (ap (λ (style : ℕ). sheet_asked style (be64_at input 0)) (get_or-eq_default input default_style (omega arith)))

  other_asked : (length input ≡ 8 → ⊥) → (length input ≡ 9 → ⊥) → paper_asked input ≡ Declines Refusal.WrongLength
  unfolding paper_asked
  other_asked a b = rw (ne_eqb (length input) 8 a, ne_eqb (length input) 9 b)

-- with style 0 behind it a seed's record names that style and that seed
with_style : (input : List ℕ) → length input ≡ 8 → paper_asked (input ++ (0 ∷ [])) ≡ sheet_asked 0 (be64_at input 0)
with_style input e =
    let last : byte_at (input ++ (0 ∷ [])) 8 ≡ 0 = rw (← e, ← add-zero (length input)) (get_or-append-add input (0 ∷ []) 0 0) in
    nine_asked (input ++ (0 ∷ [])) (omega (arith, length-append input (0 ∷ []))) ∙ rw (last, be64_front input (0 ∷ []) (omega arith))

pub paper_promise : (input : List ℕ) → PaperPromise input
paper_promise input = record {
  nine = nine_asked input;
  eight = λ e. eight_asked input e ∙ sym (with_style input e);
  served = λ e. eight_asked input e ∙ rw (seed_sheet Edition.Two Style.Hiphop (be64_at input 0));
  other = other_asked input;
}
