-- A list of as many entries, each f of its place, is the list of f. Assumes nothing.
use Rattle.std.proofs.Common.{◌≡◌, ℕ, zero, suc, ◌+◌, ◌<◌, ◌≤◌, List, length, get_or, sym, ◌∙◌, subst, ⊎_elim, arith}
use Rattle.std.specs.Array.{IsFromFnResultFrom, IsFromFnResult}
use denote.Param.Members.{Mut, Called}
use lib.Seq.{ext_get_or}
use native.Mathlib.Nat.{eq-or-lt_of_le}
use Rattle.laws.specs.Lists.{list_to}
use Rattle.laws.proofs.Lists.{length_list_to, list_to_at}

pub filled : {A : Type 0} (f : ℕ → A) (d : A) (xs : List A) (n : ℕ) → length xs ≡ n → ((k : ℕ) → k < n → get_or xs k d ≡ f k) → xs ≡ list_to f n
filled f d xs n size h = ext_get_or d xs (list_to f n) (size ∙ sym (length_list_to f n)) (λ k l. let t : k < n = omega arith in h k t ∙ sym (list_to_at f d n k t))

-- so is what calls of a closure that leave it as it is gave, each h of its place
module _ {F B : Type 0} (g : Mut F (ℕ × Unit {0}) B) (h : ℕ → B) (f : F) (d : B) (ys : List B) (one : (i : ℕ) (y : B) (q : F) → Called g f (i, tt) y q → (q ≡ f) × (y ≡ h i)) where
  from : (n i k : ℕ) → IsFromFnResultFrom g f ys i n → i ≤ k → k < i + n → get_or ys k d ≡ h k
  from zero i k t a b = absurd (omega arith)
  from (suc n) i k t a b =
      let e = one i t.1 t.0 t.3 in
      ⊎_elim (λ (q : i ≡ k). subst (λ (j : ℕ). get_or ys j d ≡ h j) q (t.2.1 d ∙ e.1))
      (λ (l : i < k). from n (i + 1) k (subst (λ (q : F). IsFromFnResultFrom g q ys (i + 1) n) e.0 t.4) (omega arith) (omega arith)) (eq-or-lt_of_le a)

  pub from_fn_filled : (n : ℕ) → IsFromFnResult g f ys n → ys ≡ list_to h n
  from_fn_filled n r = filled h d ys n r.long (λ k l. from n 0 k r.each (omega arith) (omega arith))
