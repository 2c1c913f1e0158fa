-- A list that a loop writes into an array, with one entry behind it that the next may replace. Assumes nothing.
use mathlib.Core.Path.{◌≡◌, refl, sym, ap, ◌∙◌}
use mathlib.Core.Bool.{Bool, true, false}
use mathlib.Core.List.{List, [], ◌∷◌, ◌++◌}
use Prim.Native.Nat.{ℕ, ◌+◌, ◌-◌, ◌<◌, ◌≤◌}
use native.Mathlib.Nat.{le_refl, sub-zero}
use native.Mathlib.Omega.{arith}
use lib.Dec.{ltb}
use lib.ListN.{length, take, get_or, set, replicate, length-append, length-set, length-replicate, get_or-replicate}
use lib.Seq.{take_at, take-set-le, set-set, set_out, set-get_or, get_or-append-add}
use borrow.Author.Tests.{ltb-true, ltb-false}
use Rattle.laws.specs.Lists.{pad}
use Rattle.laws.proofs.Lists.{pad_push, length_pad}

module _ {A : Type 0} (z : A) (cap : ℕ) where
  pub record Written (xs at : List A) (n : ℕ) : Type 0 where
    pub size : length at ≡ cap
    pub count : n ≡ length xs
    pub cleared : set at n z ≡ pad z cap xs

  -- behind the list stands z
  pub rest_is : (xs : List A) (i : ℕ) (d : A) → length xs ≤ i → i < cap → get_or (pad z cap xs) i d ≡ z
  unfolding pad
  rest_is xs i d h l =
      let r = replicate (cap - length xs) z in
      let e : i ≡ length xs + (i - length xs) = omega arith in
      ap (λ (j : ℕ). get_or (xs ++ r) j d) e ∙ get_or-append-add xs r (i - length xs) d ∙ get_or-replicate (cap - length xs) (i - length xs) z d (omega arith)

  -- so another z there changes nothing
  pad_rest : (xs : List A) (i : ℕ) → length xs ≤ cap → length xs ≤ i → set (pad z cap xs) i z ≡ pad z cap xs
  pad_rest xs i l h = go (ltb i cap) refl
    where
      go : (t : Bool) → ltb i cap ≡ t → set (pad z cap xs) i z ≡ pad z cap xs
      go true e = ap (λ (y : A). set (pad z cap xs) i y) (sym (rest_is xs i z h (ltb-true i cap e))) ∙ set-get_or (pad z cap xs) i z
      go false e = let g = ltb-false i cap e in set_out (pad z cap xs) i z (omega (arith, length_pad z cap xs l))

  pub written_none : Written [] (replicate cap z) 0
  unfolding pad
  written_none =
      let e : pad z cap [] ≡ replicate cap z = ap (λ (k : ℕ). replicate k z) (sub-zero cap) in
      record { size = length-replicate cap z; count = refl; cleared = ap (λ (ys : List A). set ys 0 z) (sym e) ∙ pad_rest [] 0 (omega arith) (omega arith) }

  module _ (xs at : List A) (n : ℕ) (x : A) (w : Written xs at n) where
    -- one that goes is cleared with the entry
    pub written_over : Written xs (set at n x) n
    written_over = record { size = length-set at n x ∙ w.size; count = w.count; cleared = set-set at n x z ∙ w.cleared }

    -- one that stays is the list's last
    pub written_more : n < cap → Written (xs ++ (x ∷ [])) (set at n x) (n + 1)
    written_more h =
        let l : length (xs ++ (x ∷ [])) ≡ length xs + 1 = length-append xs (x ∷ []) in
        let k = w.count in
        let e : set at n x ≡ pad z cap (xs ++ (x ∷ [])) = sym (set-set at n z x) ∙ ap (λ (ys : List A). set ys n x) w.cleared ∙ pad_push z cap xs x n (sym k) h in
        record {
          size = length-set at n x ∙ w.size;
          count = omega arith;
          cleared = ap (λ (ys : List A). set ys (n + 1) z) e ∙ pad_rest (xs ++ (x ∷ [])) (n + 1) (omega arith) (omega arith);
        }

  pub written_list : (xs at : List A) (n : ℕ) → Written xs at n → take n at ≡ xs
  unfolding pad
  written_list xs at n w = sym (take-set-le n at n z (le_refl n)) ∙ ap (λ (ys : List A). take n ys) w.cleared ∙ take_at xs (replicate (cap - length xs) z) n (sym w.count)
