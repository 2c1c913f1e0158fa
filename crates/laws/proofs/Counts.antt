-- How many entries of a list pass a test. Assumes nothing.
use mathlib.Core.Path.{◌≡◌, refl, ap, ◌∙◌}
use mathlib.Core.Bool.{Bool, true, false, not, cond, ◌&&◌}
use mathlib.Core.List.{List, [], ◌∷◌, ◌++◌, map}
use Prim.Native.Nat.{ℕ, zero, suc, ◌+◌, ◌-◌, ◌≤◌, ◌<◌}
use native.Mathlib.Nat.{not-suc-le-zero, le_of_suc-le-suc}
use native.Mathlib.Numerals.{add-one}
use native.Mathlib.Omega.{arith}
use lib.ListN.{length, get_or, set, take, drop}
use lib.Seq.{take-suc, take-add}
use Rattle.laws.specs.Lists.{filter_of}
use Rattle.laws.specs.Sorts.{count, All}
use Rattle.laws.proofs.Sorts.{all_sub}

count_true : {A : Type 0} (xs : List A) → count (λ x. true) xs ≡ length xs
count_true [] = refl
count_true (x ∷ xs) = omega (arith, count_true xs)

module _ {A : Type 0} (p : A → Bool) where
  pub count_filter : (xs : List A) → length (filter_of p xs) ≡ count p xs
  unfolding filter_of
  count_filter [] = refl
  count_filter (x ∷ xs) = go (p x) (count_filter xs)
    where
      go : (t : Bool) → length (filter_of p xs) ≡ count p xs → length (cond t (x ∷ filter_of p xs) (filter_of p xs)) ≡ cond t 1 0 + count p xs
      go true e = omega arith
      go false e = omega arith

  pub count_most : (xs : List A) → count p xs ≤ length xs
  count_most [] = omega arith
  count_most (x ∷ xs) = go (p x) (count_most xs)
    where
      go : (t : Bool) → count p xs ≤ length xs → cond t 1 0 + count p xs ≤ suc (length xs)
      go true e = omega arith
      go false e = omega arith

  pub count_append : (xs ys : List A) → count p (xs ++ ys) ≡ count p xs + count p ys
  count_append [] ys = omega arith
  count_append (x ∷ xs) ys = omega (arith, count_append xs ys)

  pub count_split : (xs : List A) (n m : ℕ) → n ≤ m → count p (take m xs) ≡ count p (take n xs) + count p (take (m - n) (drop n xs))
  count_split xs n m h =
      let e : m ≡ n + (m - n) = omega arith in
      ap (λ (k : ℕ). count p (take k xs)) e ∙ ap (count p) (take-add n (m - n) xs) ∙ count_append (take n xs) (take (m - n) (drop n xs))

  -- one entry more
  pub count_on : (xs : List A) (i : ℕ) (d : A) → i < length xs → count p (take (i + 1) xs) ≡ count p (take i xs) + cond (p (get_or xs i d)) 1 0
  count_on xs i d h =
      rw (add-one i, take-suc xs i d h) (count_append (take i xs) (get_or xs i d ∷ []) ∙ omega arith)

  -- where no entry passes
  pub count_none : (xs : List A) → All (λ x. p x ≡ false) xs → count p xs ≡ 0
  count_none [] a = refl
  count_none (x ∷ xs) a = rw a.0 (omega (arith, count_none xs a.1))

  pub count_every : (xs : List A) → All (λ x. p x ≡ true) xs → count p xs ≡ length xs
  count_every [] a = refl
  count_every (x ∷ xs) a = rw a.0 (omega (arith, count_every xs a.1))

  -- an array that grows at its count
  pub count_push : (x : A) (xs : List A) (n : ℕ) → count p (take (suc n) (set xs n x)) ≤ count p (take n xs) + cond (p x) 1 0
  count_push x [] n = omega arith
  count_push x (y ∷ ys) zero = omega arith
  count_push x (y ∷ ys) (suc n) = omega (arith, count_push x ys n)

  -- those that pass and those that don't, together
  pub count_parts : (q : A → Bool) (xs : List A) → count q (filter_of (λ x. not (p x)) xs) + count q (filter_of p xs) ≡ count q xs
  unfolding filter_of
  count_parts q [] = refl
  count_parts q (x ∷ xs) = go (p x) (count_parts q xs)
    where
      go : (v : Bool) → count q (filter_of (λ x. not (p x)) xs) + count q (filter_of p xs) ≡ count q xs
          → count q (cond (not v) (x ∷ filter_of (λ x. not (p x)) xs) (filter_of (λ x. not (p x)) xs)) + count q (cond v (x ∷ filter_of p xs) (filter_of p xs)) ≡ cond (q x) 1 0 + count q xs
      go true e = omega arith
      go false e = omega arith

  pub filter_parts : (xs : List A) → length (filter_of (λ x. not (p x)) xs) + length (filter_of p xs) ≡ length xs
  filter_parts xs = omega (arith, count_true (filter_of (λ x. not (p x)) xs), count_true (filter_of p xs), count_true xs, count_parts (λ x. true) xs)

  pub filter_most : (xs : List A) → length (filter_of p xs) ≤ length xs
  filter_most xs = omega (arith, count_filter xs, count_most xs)

  pub filter_append : (xs ys : List A) → filter_of p (xs ++ ys) ≡ filter_of p xs ++ filter_of p ys
  unfolding filter_of
  filter_append [] ys = refl
  filter_append (x ∷ xs) ys = rw (filter_append xs ys) (go (p x))
    where
      go : (b : Bool) → cond b (x ∷ (filter_of p xs ++ filter_of p ys)) (filter_of p xs ++ filter_of p ys) ≡ cond b (x ∷ filter_of p xs) (filter_of p xs) ++ filter_of p ys
      go true = refl
      go false = refl

  -- what passes one test and then another passes both
  pub filter_both : (q : A → Bool) (xs : List A) → filter_of q (filter_of p xs) ≡ filter_of (λ x. p x && q x) xs
  unfolding filter_of
  filter_both q [] = refl
  filter_both q (x ∷ xs) = go (p x) (filter_both q xs)
    where
      go : (b : Bool) {ys : List A} → filter_of q (filter_of p xs) ≡ ys → filter_of q (cond b (x ∷ filter_of p xs) (filter_of p xs)) ≡ cond (b && q x) (x ∷ ys) ys
      go true e = ap (λ (zs : List A). cond (q x) (x ∷ zs) zs) e
      go false e = e

  pub filter_none : (xs : List A) → All (λ x. p x ≡ false) xs → filter_of p xs ≡ []
  unfolding filter_of
  filter_none [] a = refl
  filter_none (x ∷ xs) a = rw a.0 (filter_none xs a.1)

-- of two lists as many, where each entry passes as its fellow does
pub count_same : {A B : Type 0} (p : A → Bool) (q : B → Bool) (d : A) (e : B) (xs : List A) (ys : List B) (n : ℕ) → n ≤ length xs → n ≤ length ys
    → ((i : ℕ) → i < n → p (get_or xs i d) ≡ q (get_or ys i e)) → count p (take n xs) ≡ count q (take n ys)
count_same p q d e xs ys zero h k s = refl
count_same p q d e [] ys (suc n) h k s = absurd (omega arith)
count_same p q d e (x ∷ xs) [] (suc n) h k s = absurd (omega arith)
count_same p q d e (x ∷ xs) (y ∷ ys) (suc n) h k s =
    rw (s 0 (omega arith)) (omega (arith, count_same p q d e xs ys n (omega arith) (omega arith) (λ i l. s (suc i) (omega arith))))

module _ {A : Type 0} where
  -- one of the first n passes the test
  pub count_some : (p : A → Bool) (d : A) (n : ℕ) (xs : List A) (i : ℕ) → i < n → i < length xs → p (get_or xs i d) ≡ true → 0 < count p (take n xs)
  count_some p d n [] i h k e = absurd (not-suc-le-zero k)
  count_some p d zero (x ∷ xs) i h k e = absurd (not-suc-le-zero h)
  count_some p d (suc n) (x ∷ xs) zero h k e = rw e (omega arith)
  count_some p d (suc n) (x ∷ xs) (suc i) h k e = omega (arith, count_some p d n xs i (le_of_suc-le-suc h) (le_of_suc-le-suc k) e)

  -- what holds of each that passes the test
  pub all_filter : (p : A → Bool) (P : A → Type 0) (xs : List A) → All (λ x. p x ≡ true → P x) xs → All P (filter_of p xs)
  unfolding filter_of
  all_filter p P [] a = tt
  all_filter p P (x ∷ xs) a = go (p x) a.0 (all_filter p P xs a.1)
    where
      go : (t : Bool) → (t ≡ true → P x) → All P (filter_of p xs) → All P (cond t (x ∷ filter_of p xs) (filter_of p xs))
      go true g r = (g refl, r)
      go false g r = r

  pub all_kept : (p : A → Bool) (P : A → Type 0) (xs : List A) → All P xs → All P (filter_of p xs)
  all_kept p P xs a = all_filter p P xs (all_sub P (λ x. p x ≡ true → P x) (λ x h e. h) xs a)

module _ {A B : Type 0} (f : A → B) where
  -- as many pass a test that tells them alike
  pub count_map : (p : B → Bool) (q : A → Bool) → ((x : A) → p (f x) ≡ q x) → (xs : List A) → count p (map f xs) ≡ count q xs
  count_map p q same [] = refl
  count_map p q same (x ∷ xs) = rw (same x) (ap (λ (n : ℕ). cond (q x) 1 0 + n) (count_map p q same xs))
