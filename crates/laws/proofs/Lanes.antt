-- An array that grows at its count: what is in use stays, and what each step adds is known. Assumes nothing.
use mathlib.Core.Path.{◌≡◌, refl, sym, ap, ◌∙◌, subst}
use mathlib.Core.Logic.{◌⊎◌, inl, inr, ⊎_elim}
use mathlib.Core.Bool.{Bool, true, false}
use mathlib.Core.List.{List}
use Prim.Native.Nat.{ℕ, zero, suc, ◌+◌, ◌-◌, ◌≤◌, ◌<◌}
use native.Mathlib.Nat.{eq-zero-or-pos, eq-or-lt_of_le, le_of_suc-le-suc}
use native.Mathlib.Omega.{arith}
use borrow.Author.Tests.{eqb-true, eqb-false, eq-eqb, ne_eqb}
use lib.Dec.{eqb}
use lib.ListN.{length, take, drop, set, get_or, replicate, length-set, length-take, length-drop, length-replicate, get_or-replicate}
use lib.Seq.{get_or-set_same, get_or-set_other, get_or-drop, length-take-le}
use Rattle.laws.specs.Lanes.{Rises, Occurs, EachAtMost, Laid}
use Rattle.laws.specs.Sorts.{count}
use Rattle.laws.proofs.Counts.{count_split, count_most, count_none, count_every, count_same}
use Rattle.laws.proofs.Sorts.{all_by}

-- ys with m entries in use, grown from xs with n: each entry that is new has P, and all others stay
pub record Grown {A : Type 0} (d : A) (P : A → Type 0) (xs ys : List A) (n m : ℕ) : Type 0 where
  pub size : length ys ≡ length xs
  pub more : n ≤ m
  pub kept : (i : ℕ) → i < n → get_or ys i d ≡ get_or xs i d
  pub rest : (i : ℕ) → m ≤ i → get_or ys i d ≡ get_or xs i d
  pub new : (i : ℕ) → n ≤ i → i < m → P (get_or ys i d)

none_pass : {A : Type 0} (p : A → Bool) (d : A) (xs : List A) (n : ℕ) → ((i : ℕ) → i < n → p (get_or xs i d) ≡ false) → count p (take n xs) ≡ 0
none_pass p d xs n h = count_none p (take n xs) (all_by (λ x. p x ≡ false) d xs n h)

in_use : (i n : ℕ) → (i < n) ⊎ (n ≤ i)
in_use i n = ⊎_elim (λ (e : n - i ≡ 0). inr (omega arith)) (λ (h : 0 < n - i). inl (omega arith)) (eq-zero-or-pos (n - i))

module _ {A : Type 0} (d : A) where
  pub grown_none : (P : A → Type 0) (xs : List A) (n : ℕ) → Grown d P xs xs n n
  grown_none P xs n = record {
    size = refl;
    more = omega arith;
    kept = λ i h. refl;
    rest = λ i h. refl;
    new = λ i h k. absurd (omega arith);
  }

  pub grown_push : (P : A → Type 0) (xs : List A) (n : ℕ) (x : A) → n < length xs → P x → Grown d P xs (set xs n x) n (n + 1)
  grown_push P xs n x h p = record {
    size = length-set xs n x;
    more = omega arith;
    kept = λ i k. get_or-set_other xs n i x d (λ e. omega arith);
    rest = λ i k. get_or-set_other xs n i x d (λ e. omega arith);
    new = λ i k l. let e : i ≡ n = omega arith in subst P (sym (ap (λ (j : ℕ). get_or (set xs n x) j d) e ∙ get_or-set_same xs n x d h)) p;
  }

  pub grown_then : (P : A → Type 0) (xs ys zs : List A) (n m k : ℕ) → Grown d P xs ys n m → Grown d P ys zs m k → Grown d P xs zs n k
  grown_then P xs ys zs n m k g h = record {
    size = h.size ∙ g.size;
    more = omega (arith, g.more, h.more);
    kept = λ i l. h.kept i (omega (arith, g.more)) ∙ g.kept i l;
    rest = λ i l. h.rest i l ∙ g.rest i (omega (arith, h.more));
    new = λ i l u. ⊎_elim (λ (e : i < m). subst P (sym (h.kept i e)) (g.new i l e)) (λ (e : m ≤ i). h.new i e u) (in_use i m);
  }

  -- a weaker word for what is new
  pub grown_as : (P Q : A → Type 0) (xs ys : List A) (n m : ℕ) → ((a : A) → P a → Q a) → Grown d P xs ys n m → Grown d Q xs ys n m
  grown_as P Q xs ys n m f g = record {
    size = g.size;
    more = g.more;
    kept = g.kept;
    rest = g.rest;
    new = λ i l u. f (get_or ys i d) (g.new i l u);
  }

  module _ (f : A → ℕ) (xs ys : List A) (n m : ℕ) where
    module _ (v : ℕ) (g : Grown d (λ a. f a ≡ v) xs ys n m) where
      grown_most : (top : ℕ) → top ≤ v → Rises (λ i. f (get_or xs i d)) n top → (i : ℕ) → i < m → f (get_or ys i d) ≤ v
      grown_most top t r i h =
          ⊎_elim
          (λ (e : i < n). subst (λ (a : A). f a ≤ v) (sym (g.kept i e)) (omega (arith, r.most i e)))
          (λ (e : n ≤ i). omega (arith, g.new i e h))
          (in_use i n)

      grown_rise : (top : ℕ) → top ≤ v → Rises (λ i. f (get_or xs i d)) n top → (i : ℕ) → suc i < m → f (get_or ys i d) ≤ f (get_or ys (suc i) d)
      grown_rise top t r i h =
          ⊎_elim
          (λ (e : suc i < n).
          subst (λ (a : A). f (get_or ys i d) ≤ f a) (sym (g.kept (suc i) e)) (subst (λ (a : A). f a ≤ f (get_or xs (suc i) d)) (sym (g.kept i (omega arith))) (r.rise i e)))
          (λ (e : n ≤ suc i). omega (arith, grown_most top t r i (omega arith), g.new (suc i) e h))
          (in_use (suc i) n)

      -- entries of v behind entries up to v
      rises_grown : (top : ℕ) → top ≤ v → Rises (λ i. f (get_or xs i d)) n top → Rises (λ i. f (get_or ys i d)) m v
      rises_grown top t r = record { most = grown_most top t r; rise = grown_rise top t r }

      occurs_new : n < m → Occurs (λ i. f (get_or ys i d)) m v
      occurs_new h = record { place = n; until = h; is = g.new n (omega arith) h }

      -- a few entries of v behind entries below v
      each_grown : (most : ℕ) → m ≤ n + most → m ≤ length ys → ((i : ℕ) → i < n → f (get_or xs i d) < v) → EachAtMost f most (take n xs) → EachAtMost f most (take m ys)
      each_grown most few fits below each u = go (eqb u v) refl
        where
          is : A → Bool
          is x = eqb (f x) u

          old : count is (take n ys) ≡ count is (take n xs)
          old = count_same is is d d ys xs n (omega (arith, g.more)) (omega (arith, g.more, g.size)) (λ i h. ap is (g.kept i h))

          split : count is (take m ys) ≡ count is (take n xs) + count is (take (m - n) (drop n ys))
          split = omega (arith, old, count_split is ys n m g.more)

          none_old : u ≡ v → count is (take n xs) ≡ 0
          none_old e = none_pass is d xs n (λ i h. ne_eqb (f (get_or xs i d)) u (λ q. omega (arith, below i h)))

          of_v : (i : ℕ) → i < m - n → f (get_or (drop n ys) i d) ≡ v
          of_v i h = ap f (get_or-drop n ys i d) ∙ g.new (n + i) (omega arith) (omega arith)

          none_new : (u ≡ v → ⊥) → count is (take (m - n) (drop n ys)) ≡ 0
          none_new e = none_pass is d (drop n ys) (m - n) (λ i h. ne_eqb (f (get_or (drop n ys) i d)) u (λ q. e (sym q ∙ of_v i h)))

          go : (t : Bool) → eqb u v ≡ t → count is (take m ys) ≤ most
          go true e = omega (arith, split, none_old (eqb-true u v e), count_most is (take (m - n) (drop n ys)), length-take (m - n) (drop n ys))
          go false e = omega (arith, split, none_new (eqb-false u v e), each u)

      -- so many entries of v at least
      many_grown : (least : ℕ) → n + least ≤ m → m ≤ length ys → least ≤ count (λ x. eqb (f x) v) (take m ys)
      many_grown least more fits =
          let new = drop n ys in
          let all = count_every (λ x. eqb (f x) v) (take (m - n) new) (all_by (λ x. eqb (f x) v ≡ true) d new (m - n) (λ i h. eq-eqb (f (get_or new i d)) v (ap f (get_or-drop n ys i d) ∙ g.new (n + i) (omega arith) (omega arith)))) in
          omega (arith, count_split (λ x. eqb (f x) v) ys n m g.more, all, length-take-le (m - n) new (omega (arith, length-drop n ys)))

    many_kept : (P : A → Type 0) (is : A → Bool) → Grown d P xs ys n m → m ≤ length ys → count is (take n xs) ≤ count is (take m ys)
    many_kept P is g fits =
        omega (arith, count_same is is d d ys xs n (omega (arith, g.more)) (omega (arith, g.more, g.size)) (λ i h. ap is (g.kept i h)), count_split is ys n m g.more)

    occurs_kept : (P : A → Type 0) (v : ℕ) → Grown d P xs ys n m → Occurs (λ i. f (get_or xs i d)) n v → Occurs (λ i. f (get_or ys i d)) m v
    occurs_kept P v g o = record { place = o.place; until = omega (arith, g.more, o.until); is = ap f (g.kept o.place o.until) ∙ o.is }

    rises_none : (top : ℕ) → Rises (λ i. f (get_or xs i d)) 0 top
    rises_none top = record { most = λ i h. absurd (omega arith); rise = λ i h. absurd (omega arith) }

-- ---- what each entry in use has, with no word of the array's room
abbrev pub Filled : {A : Type 0} → A → (A → Type 0) → List A → ℕ → Type 0
Filled d P xs n = (i : ℕ) → i < n → i < length xs → P (get_or xs i d)

module _ {A : Type 0} (d : A) (P : A → Type 0) where
  pub filled_none : (xs : List A) → Filled d P xs 0
  filled_none xs i h k = absurd (omega arith)

  pub filled_push : (xs : List A) (n : ℕ) (x : A) → Filled d P xs n → P x → Filled d P (set xs n x) (n + 1)
  filled_push xs n x f p i h k =
      let size = length-set xs n x in
      let u : i ≤ n = omega arith in
      ⊎_elim
      (λ (e : i ≡ n). subst P (sym (ap (λ (j : ℕ). get_or (set xs n x) j d) e ∙ get_or-set_same xs n x d (omega (arith, size)))) p)
      (λ (e : i < n). subst P (sym (get_or-set_other xs n i x d (λ q. omega arith))) (f i e (omega (arith, size))))
      (eq-or-lt_of_le u)

-- ---- a lane that grows bar by bar: xs b are its entries after b bars, n b of them in use
module _ {A : Type 0} (d none : A) (f : A → ℕ) (cap bars : ℕ) (xs : ℕ → List A) (n : ℕ → ℕ) (start : xs 0 ≡ replicate cap none) (empty : n 0 ≡ 0)
    (few : (b : ℕ) → b ≤ bars → n b ≤ cap) (bar : (b : ℕ) → b < bars → length (xs b) ≡ cap → Grown d (λ a. f a ≡ b) (xs b) (xs (suc b)) (n b) (n (suc b))) where
  none_laid : Laid d none f cap 0 (xs 0) (n 0)
  none_laid =
      rw (start, empty)
      (record {
        size = length-replicate cap none;
        few = omega arith;
        rises = rises_none d f (replicate cap none) (replicate cap none) 0 0 0;
        rest = λ i h k. get_or-replicate cap i none d k;
      })

  pub bars_laid : (b : ℕ) → b ≤ bars → Laid d none f cap (b - 1) (xs b) (n b)
  bars_laid zero h = none_laid
  bars_laid (suc b) h =
      let l = bars_laid b (omega arith) in
      let g = bar b (omega arith) l.size in
      let e : suc b - 1 ≡ b = omega arith in
      rw e
      (record {
        size = g.size ∙ l.size;
        few = few (suc b) h;
        rises = rises_grown d f (xs b) (xs (suc b)) (n b) (n (suc b)) b g (b - 1) (omega arith) l.rises;
        rest = λ i j k. g.rest i j ∙ l.rest i (omega (arith, g.more)) k;
      })

  bar_grown : (b : ℕ) → b < bars → Grown d (λ a. f a ≡ b) (xs b) (xs (suc b)) (n b) (n (suc b))
  bar_grown b h = bar b h (bars_laid b (omega arith)).size

  -- where each bar adds an entry, each has one
  pub bars_occur : ((b : ℕ) → b < bars → n b < n (suc b)) → (b k : ℕ) → b ≤ bars → k < b → Occurs (λ i. f (get_or (xs b) i d)) (n b) k
  bars_occur more zero k h l = absurd (omega arith)
  bars_occur more (suc b) k h l =
      let g = bar_grown b (omega arith) in
      ⊎_elim (λ (e : k ≡ b). rw e (occurs_new d f (xs b) (xs (suc b)) (n b) (n (suc b)) b g (more b (omega arith))))
      (λ (e : k < b). occurs_kept d f (xs b) (xs (suc b)) (n b) (n (suc b)) (λ a. f a ≡ b) k g (bars_occur more b k (omega arith) e)) (eq-or-lt_of_le (le_of_suc-le-suc l))

  -- where each bar adds so many entries at least, none has fewer
  pub bars_many : (least : ℕ) → ((b : ℕ) → b < bars → n b + least ≤ n (suc b)) → (b k : ℕ) → b ≤ bars → k < b → least ≤ count (λ x. eqb (f x) k) (take (n b) (xs b))
  bars_many least more zero k h l = absurd (omega arith)
  bars_many least more (suc b) k h l =
      let g = bar_grown b (omega arith) in
      let after = bars_laid (suc b) h in
      let fits : n (suc b) ≤ length (xs (suc b)) = omega (arith, after.few, after.size) in
      ⊎_elim (λ (e : k ≡ b). rw e (many_grown d f (xs b) (xs (suc b)) (n b) (n (suc b)) b g least (more b (omega arith)) fits))
      (λ (e : k < b). omega (arith, many_kept d f (xs b) (xs (suc b)) (n b) (n (suc b)) (λ a. f a ≡ b) (λ x. eqb (f x) k) g fits, bars_many least more b k (omega arith) e)) (eq-or-lt_of_le (le_of_suc-le-suc l))

  bars_below : (b : ℕ) → b ≤ bars → (i : ℕ) → i < n b → f (get_or (xs b) i d) < b
  bars_below zero h i k = absurd (omega (arith, empty))
  bars_below (suc b) h i k = omega (arith, (bars_laid (suc b) h).rises.most i k)

  -- where each bar adds at most so many entries, none has more
  pub bars_few : (most : ℕ) → ((b : ℕ) → b < bars → n (suc b) ≤ n b + most) → (b : ℕ) → b ≤ bars → EachAtMost f most (take (n b) (xs b))
  bars_few most on zero h = λ u. rw empty (omega arith)
  bars_few most on (suc b) h =
      let after = bars_laid (suc b) h in
      each_grown d f (xs b) (xs (suc b)) (n b) (n (suc b)) b (bar_grown b (omega arith)) most (on b (omega arith)) (omega (arith, after.few, after.size))
      (bars_below b (omega arith)) (bars_few most on b (omega arith))
