-- Those of a run of a list that pass a test, entry by entry. Assumes nothing.
use mathlib.Core.Path.{◌≡◌, refl, ap, ◌∙◌}
use mathlib.Core.Bool.{Bool, true, false, cond}
use mathlib.Core.List.{List, [], ◌∷◌, ◌++◌}
use Prim.Native.Nat.{ℕ, zero, suc, ◌+◌, ◌-◌, ◌≤◌, ◌<◌}
use native.Mathlib.Omega.{arith}
use lib.ListN.{length, get_or, take, drop, length-append, length-drop}
use lib.Seq.{take-suc, take-take, take-nil, get_or-drop}
use Rattle.laws.specs.Lists.{filter_of}
use Rattle.laws.proofs.Counts.{count_filter, count_split, filter_append}

-- where every entry passes
pub filter_all : {A : Type 0} (xs : List A) → filter_of (λ x. true) xs ≡ xs
unfolding filter_of
filter_all [] = refl
filter_all (x ∷ xs) = ap (λ (l : List _). x ∷ l) (filter_all xs)

module _ {A : Type 0} (p : A → Bool) where
  filter_one : (x : A) → filter_of p (x ∷ []) ≡ cond (p x) (x ∷ []) []
  unfolding filter_of
  filter_one x = refl

  length_one : (t : Bool) (x : A) → length (cond t (x ∷ []) []) ≡ cond t 1 0
  length_one true x = refl
  length_one false x = refl

  -- one entry more of the run from `from` on
  pub filter_run_on : (xs : List A) (from i : ℕ) (d : A) → from ≤ i → i < length xs
      → filter_of p (take (i + 1 - from) (drop from xs)) ≡ filter_of p (take (i - from) (drop from xs)) ++ cond (p (get_or xs i d)) (get_or xs i d ∷ []) []
  filter_run_on xs from i d begun h =
      let ds = drop from xs in
      let e : i + 1 - from ≡ suc (i - from) = omega arith in
      let at : from + (i - from) ≡ i = omega arith in
      let here : get_or ds (i - from) d ≡ get_or xs i d = get_or-drop from xs (i - from) d ∙ ap (λ (k : ℕ). get_or xs k d) at in
      rw (e, take-suc ds (i - from) d (omega (arith, length-drop from xs)), filter_append p (take (i - from) ds) (get_or ds (i - from) d ∷ []), here, filter_one (get_or xs i d))

  pub filter_run_count : (xs : List A) (from i : ℕ) (d : A) → from ≤ i → i < length xs
      → length (filter_of p (take (i + 1 - from) (drop from xs))) ≡ length (filter_of p (take (i - from) (drop from xs))) + cond (p (get_or xs i d)) 1 0
  filter_run_count xs from i d begun h =
      let so_far = filter_of p (take (i - from) (drop from xs)) in
      ap length (filter_run_on xs from i d begun h)
      ∙ length-append so_far (cond (p (get_or xs i d)) (get_or xs i d ∷ []) [])
      ∙ ap (λ (n : ℕ). length so_far + n) (length_one (p (get_or xs i d)) (get_or xs i d))

  pub filter_fewer : (xs : List A) (n m : ℕ) → n ≤ m → length (filter_of p (take n xs)) ≤ length (filter_of p (take m xs))
  filter_fewer xs n m h = omega (arith, count_filter p (take n xs), count_filter p (take m xs), count_split p xs n m h)

-- a run that ends within the first n
pub run_in_take : {A : Type 0} (xs : List A) (n a k : ℕ) → a + k ≤ n → take k (drop a (take n xs)) ≡ take k (drop a xs)
run_in_take xs n zero k h = take-take k n xs (omega arith)
run_in_take [] n (suc a) k h = rw (take-nil n)
run_in_take (x ∷ xs) zero (suc a) k h = absurd (omega arith)
run_in_take (x ∷ xs) (suc n) (suc a) k h = run_in_take xs n a k (omega arith)
