-- A list whose keys never fall: where the entries with one key stand. Assumes nothing.
use mathlib.Core.Path.{◌≡◌, refl, ap}
use mathlib.Core.Bool.{Bool, true, false, cond}
use mathlib.Core.List.{List, [], ◌∷◌, map}
use Prim.Native.Nat.{ℕ, zero, suc, ◌+◌, ◌-◌, ◌≤◌, ◌<◌}
use native.Mathlib.Nat.{zero-add, not-suc-le-zero, le_of_suc-le-suc}
use native.Mathlib.Omega.{arith}
use borrow.Author.Tests.{ltb-true, ltb-false, leb-true, eqb-true, eqb-false, le-ltb, le-leb, ne_eqb}
use lib.Dec.{eqb, ltb, leb}
use lib.ListN.{length, get_or, take, drop}
use lib.Seq.{length-take-le}
use Rattle.laws.specs.Lanes.{Rises}
use Rattle.laws.specs.Lists.{filter_of}
use Rattle.laws.specs.Sorts.{count, All, Sorted}
use Rattle.laws.proofs.Counts.{count_most, count_none, filter_none}
use Rattle.laws.proofs.Sorts.{all_sub}

-- in the order of a key
abbrev pub by : {A : Type 0} → (A → ℕ) → A → A → Bool
by f x y = leb (f x) (f y)

module _ {A : Type 0} (f : A → ℕ) (v : ℕ) where
  -- below v + 1 is below v, or v
  one_more : (x : A) → cond (ltb (f x) (v + 1)) 1 0 ≡ cond (ltb (f x) v) 1 0 + cond (eqb (f x) v) 1 0
  one_more x = go (ltb (f x) (v + 1)) (ltb (f x) v) (eqb (f x) v) refl refl refl
    where
      go : (a b c : Bool) → ltb (f x) (v + 1) ≡ a → ltb (f x) v ≡ b → eqb (f x) v ≡ c → ◌≡◌ {A = ℕ} (cond a 1 0) (cond b 1 0 + cond c 1 0)
      go true true true p q r = absurd (omega (arith, ltb-true (f x) v q, eqb-true (f x) v r))
      go true true false p q r = refl
      go true false true p q r = refl
      go true false false p q r = absurd (eqb-false (f x) v r (omega (arith, ltb-true (f x) (v + 1) p, ltb-false (f x) v q)))
      go false true true p q r = absurd (omega (arith, ltb-false (f x) (v + 1) p, ltb-true (f x) v q))
      go false true false p q r = absurd (omega (arith, ltb-false (f x) (v + 1) p, ltb-true (f x) v q))
      go false false true p q r = absurd (omega (arith, ltb-false (f x) (v + 1) p, eqb-true (f x) v r))
      go false false false p q r = refl

  pub count_below : (xs : List A) → count (λ x. ltb (f x) (v + 1)) xs ≡ count (λ x. ltb (f x) v) xs + count (λ x. eqb (f x) v) xs
  count_below [] = refl
  count_below (x ∷ xs) = omega (arith, one_more x, count_below xs)

  -- none is v after one above it
  none_after : (x : A) (xs : List A) → v < f x → All (λ y. by f x y ≡ true) xs → All (λ y. eqb (f y) v ≡ false) xs
  none_after x xs h a = all_sub (λ y. by f x y ≡ true) (λ y. eqb (f y) v ≡ false) (λ y l. ne_eqb (f y) v (λ e. omega (arith, leb-true (f x) (f y) l))) xs a

  none_below : (x : A) (xs : List A) → v ≤ f x → All (λ y. by f x y ≡ true) xs → All (λ y. ltb (f y) v ≡ false) xs
  none_below x xs h a = all_sub (λ y. by f x y ≡ true) (λ y. ltb (f y) v ≡ false) (λ y l. le-ltb (f y) v (omega (arith, leb-true (f x) (f y) l))) xs a

  -- if the first i are below and the next is not, there are i
  pub below_first : (d : A) (xs : List A) (i : ℕ) → Sorted (by f) xs → i < length xs → count (λ x. ltb (f x) v) (take i xs) ≡ i → ltb (f (get_or xs i d)) v ≡ false → count (λ x. ltb (f x) v) xs ≡ i
  below_first d [] i s h c e = absurd (not-suc-le-zero h)
  below_first d (x ∷ xs) zero s h c e = rw e (omega (arith, count_none (λ x. ltb (f x) v) xs (none_below x xs (ltb-false (f x) v e) s.0)))
  below_first d (x ∷ xs) (suc i) s h c e = go (ltb (f x) v) c (λ q. below_first d xs i s.1 (le_of_suc-le-suc h) q e)
    where
      few : count (λ x. ltb (f x) v) (take i xs) ≤ i
      few = omega (arith, count_most (λ x. ltb (f x) v) (take i xs), length-take-le i xs (omega (arith, le_of_suc-le-suc h)))

      go : (t : Bool) → cond t 1 0 + count (λ x. ltb (f x) v) (take i xs) ≡ suc i → (count (λ x. ltb (f x) v) (take i xs) ≡ i → count (λ x. ltb (f x) v) xs ≡ i) → cond t 1 0 + count (λ x. ltb (f x) v) xs ≡ suc i
      go true q r = omega (arith, r (omega (arith, q)))
      go false q r = absurd (omega (arith, q, few))

  -- at the front, where none is below
  run_front : (xs : List A) → Sorted (by f) xs → All (λ y. ltb (f y) v ≡ false) xs → take (count (λ x. eqb (f x) v) xs) xs ≡ filter_of (λ x. eqb (f x) v) xs
  unfolding filter_of
  run_front [] s a = refl
  run_front (x ∷ xs) s a = go (eqb (f x) v) refl (run_front xs s.1 a.1)
    where
      go : (t : Bool) → eqb (f x) v ≡ t → take (count (λ x. eqb (f x) v) xs) xs ≡ filter_of (λ x. eqb (f x) v) xs
          → take (cond t 1 0 + count (λ x. eqb (f x) v) xs) (x ∷ xs) ≡ cond t (x ∷ filter_of (λ x. eqb (f x) v) xs) (filter_of (λ x. eqb (f x) v) xs)
      go true e r =
          let more : 1 + count (λ x. eqb (f x) v) xs ≡ suc (count (λ x. eqb (f x) v) xs) = omega arith in
          rw more (ap (λ (l : List A). x ∷ l) r)
      go false e r =
          let above : v < f x = omega (arith, ltb-false (f x) v a.0, eqb-false (f x) v e) in
          let none = none_after x xs above s.0 in
          rw (count_none (λ x. eqb (f x) v) xs none, filter_none (λ x. eqb (f x) v) xs none)

  run_from : (xs : List A) → Sorted (by f) xs → take (count (λ x. eqb (f x) v) xs) (drop (count (λ x. ltb (f x) v) xs) xs) ≡ filter_of (λ x. eqb (f x) v) xs
  unfolding filter_of
  run_from [] s = refl
  run_from (x ∷ xs) s = go (ltb (f x) v) refl (run_from xs s.1)
    where
      go : (t : Bool) → ltb (f x) v ≡ t → take (count (λ x. eqb (f x) v) xs) (drop (count (λ x. ltb (f x) v) xs) xs) ≡ filter_of (λ x. eqb (f x) v) xs
          → take (count (λ x. eqb (f x) v) (x ∷ xs)) (drop (cond t 1 0 + count (λ x. ltb (f x) v) xs) (x ∷ xs)) ≡ filter_of (λ x. eqb (f x) v) (x ∷ xs)
      go true e r =
          let other : eqb (f x) v ≡ false = ne_eqb (f x) v (λ q. omega (arith, ltb-true (f x) v e)) in
          let more : 1 + count (λ x. ltb (f x) v) xs ≡ suc (count (λ x. ltb (f x) v) xs) = omega arith in
          rw (other, more, zero-add (count (λ x. eqb (f x) v) xs)) r
      go false e r =
          let none = none_below x xs (ltb-false (f x) v e) s.0 in
          let here : count (λ x. ltb (f x) v) xs ≡ 0 = count_none (λ x. ltb (f x) v) xs none in
          rw here (run_front (x ∷ xs) s (e, none))

  -- the entries with key v stand between the counts of those below v and below v + 1
  pub run_of_key : (xs : List A) → Sorted (by f) xs
      → take (count (λ x. ltb (f x) (v + 1)) xs - count (λ x. ltb (f x) v) xs) (drop (count (λ x. ltb (f x) v) xs) xs) ≡ filter_of (λ x. eqb (f x) v) xs
  run_of_key xs s =
      let e : count (λ x. ltb (f x) (v + 1)) xs - count (λ x. ltb (f x) v) xs ≡ count (λ x. eqb (f x) v) xs = omega (arith, count_below xs) in
      rw e (run_from xs s)

-- ---- from an array whose first n keys never fall
module _ {A : Type 0} (f : A → ℕ) (d : A) where
  above_all : (v : ℕ) (xs : List A) (n : ℕ) → n ≤ length xs → (0 < n → v ≤ f (get_or xs 0 d)) → ((i : ℕ) → suc i < n → f (get_or xs i d) ≤ f (get_or xs (suc i) d)) → All (λ y. leb v (f y) ≡ true) (take n xs)
  above_all v xs zero h b r = tt
  above_all v [] (suc n) h b r = absurd (not-suc-le-zero h)
  above_all v (x ∷ xs) (suc n) h b r =
      (le-leb v (f x) (b (omega arith)), above_all v xs n (le_of_suc-le-suc h) (λ k. omega (arith, b (omega arith), r 0 (omega arith))) (λ i k. r (suc i) (omega arith)))

  sorted_from : (xs : List A) (n : ℕ) → n ≤ length xs → ((i : ℕ) → suc i < n → f (get_or xs i d) ≤ f (get_or xs (suc i) d)) → Sorted (by f) (take n xs)
  sorted_from xs zero h r = tt
  sorted_from [] (suc n) h r = absurd (not-suc-le-zero h)
  sorted_from (x ∷ xs) (suc n) h r =
      (above_all (f x) xs n (le_of_suc-le-suc h) (λ k. r 0 (omega arith)) (λ i k. r (suc i) (omega arith)), sorted_from xs n (le_of_suc-le-suc h) (λ i k. r (suc i) (omega arith)))

  pub rises_sorted : (xs : List A) (n top : ℕ) → n ≤ length xs → Rises (λ i. f (get_or xs i d)) n top → Sorted (by f) (take n xs)
  rises_sorted xs n top h r = sorted_from xs n h r.rise

module _ {A B : Type 0} (f : A → ℕ) (g : B → ℕ) (h : A → B) (same : (x : A) → g (h x) ≡ f x) where
  first_map : (x : A) (xs : List A) → All (λ y. by f x y ≡ true) xs → All (λ y. by g (h x) y ≡ true) (map h xs)
  first_map x [] a = tt
  first_map x (y ∷ ys) a = (rw (same x, same y) a.0, first_map x ys a.1)

  -- the key of what a function makes of an entry is the entry's
  pub sorted_map : (xs : List A) → Sorted (by f) xs → Sorted (by g) (map h xs)
  sorted_map [] s = tt
  sorted_map (x ∷ xs) s = (first_map x xs s.0, sorted_map xs s.1)
