-- Lists that a loop makes: a buffer filled from its start, an array filled over its padding; a test of each entry.
-- Assumes nothing.
use mathlib.Core.Path.{◌≡◌, refl, sym, ap, ◌∙◌, subst}
use mathlib.Core.Bool.{Bool}
use mathlib.Core.Logic.{⊎_elim}
use mathlib.Core.List.{List, [], ◌∷◌, ◌++◌, map, append_assoc, append-nil, map-append}
use Prim.Native.Nat.{ℕ, zero, suc, ◌+◌, ◌-◌, ◌<◌, ◌≤◌}
use native.Mathlib.Numerals.{add-one}
use native.Mathlib.Nat.{not-suc-le-zero, le_of_suc-le-suc, eq-or-lt_of_le, add-zero, sub-zero}
use native.Mathlib.Omega.{arith}
use lib.ListN.{length, set, take, drop, replicate, get_or, length-append, length-map, length-replicate, get_or-append, get_or-map}
use lib.Seq.{take-suc, take_all, length-take-le, drop-cons, drop-length, set_at, get_or-append-add, get_or-take}
use lib.Dec.{T}
use mir.Facts.{and_yes}
use Rattle.laws.specs.Lists.{list_to, pad, all_of}

module _ {A : Type 0} where
  pub pad_push : (z : A) (cap : ℕ) (xs : List A) (a : A) (n : ℕ) → length xs ≡ n → n < cap → set (pad z cap xs) n a ≡ pad z cap (xs ++ (a ∷ []))
  unfolding pad
  pad_push z cap xs a n k h =
      let e : cap - length xs ≡ suc (cap - (length xs + 1)) = omega arith in
      let l : length (xs ++ (a ∷ [])) ≡ length xs + 1 = length-append xs (a ∷ []) in
      rw (e, set_at xs _ _ a n, l, append_assoc)

  -- a full array has no padding
  pub pad_full : (z : A) (cap : ℕ) (xs : List A) → length xs ≡ cap → pad z cap xs ≡ xs
  unfolding pad
  pad_full z cap xs h =
      let e : cap - length xs ≡ 0 = omega arith in
      rw (e, append-nil)

  pub length_pad : (z : A) (cap : ℕ) (xs : List A) → length xs ≤ cap → length (pad z cap xs) ≡ cap
  unfolding pad
  length_pad z cap xs h = simp (length-append, length-replicate) (omega arith)

  -- the list's own entries stand before the padding
  pub pad_at_lem : (z : A) (cap : ℕ) (xs : List A) (k : ℕ) → k < length xs → get_or (pad z cap xs) k z ≡ get_or xs k z
  unfolding pad
  pad_at_lem z cap xs k h = get_or-append xs (replicate (cap - length xs) z) z k h

  pub replicate_at : (n i : ℕ) (z : A) → get_or (replicate n z) i z ≡ z
  replicate_at zero i z = refl
  replicate_at (suc n) zero z = refl
  replicate_at (suc n) (suc i) z = replicate_at n i z

  -- and the padding behind them
  pub pad_past : (z : A) (cap : ℕ) (xs : List A) (k : ℕ) → length xs ≤ k → get_or (pad z cap xs) k z ≡ z
  unfolding pad
  pad_past z cap xs k h =
      let e : k ≡ length xs + (k - length xs) = omega arith in
      rw e (get_or-append-add xs (replicate (cap - length xs) z) (k - length xs) z ∙ replicate_at (cap - length xs) (k - length xs) z)

  -- an entry is the same whatever stands past the end
  pub get_d_any : (xs : List A) (i : ℕ) (d e : A) → i < length xs → get_or xs i d ≡ get_or xs i e
  get_d_any [] i d e h = absurd (not-suc-le-zero h)
  get_d_any (x ∷ xs) zero d e h = refl
  get_d_any (x ∷ xs) (suc i) d e h = get_d_any xs i d e (le_of_suc-le-suc h)

module _ {A : Type 0} (p : A → Bool) where
  -- past the end stands d
  pub all_at : (d : A) → T (p d) → (xs : List A) → T (all_of p xs) → (i : ℕ) → T (p (get_or xs i d))
  unfolding all_of
  all_at d h [] t i = h
  all_at d h (x ∷ xs) t zero = (and_yes (p x) (all_of p xs) t).0
  all_at d h (x ∷ xs) t (suc i) = all_at d h xs (and_yes (p x) (all_of p xs) t).1 i

  -- of an entry, whatever stands past the end
  pub all_in : (xs : List A) → T (all_of p xs) → (i : ℕ) (d : A) → i < length xs → T (p (get_or xs i d))
  unfolding all_of
  all_in [] t i d h = absurd (not-suc-le-zero h)
  all_in (x ∷ xs) t zero d h = (and_yes (p x) (all_of p xs) t).0
  all_in (x ∷ xs) t (suc i) d h = all_in xs (and_yes (p x) (all_of p xs) t).1 i d (le_of_suc-le-suc h)

module _ {A : Type 0} (f : ℕ → A) where
  pub length_list_to : (n : ℕ) → length (list_to f n) ≡ n
  unfolding list_to
  length_list_to zero = refl
  length_list_to (suc n) = length-append (list_to f n) (f n ∷ []) ∙ add-one (length (list_to f n)) ∙ ap suc (length_list_to n)

  pub fill_none : (xs : List A) → list_to f 0 ++ drop 0 xs ≡ xs
  unfolding list_to
  fill_none xs = refl

  -- one entry more
  pub fill_on : (xs : List A) (i : ℕ) → i < length xs → set (list_to f i ++ drop i xs) i (f i) ≡ list_to f (i + 1) ++ drop (i + 1) xs
  unfolding list_to
  fill_on xs i h =
      rw (add-one i, drop-cons xs i (f i) h, set_at (list_to f i) (get_or xs i (f i)) (drop (suc i) xs) (f i) i (length_list_to i), append_assoc)

  pub fill_all : (xs : List A) → list_to f (length xs) ++ drop (length xs) xs ≡ list_to f (length xs)
  fill_all xs = rw (drop-length xs, append-nil)

  pub list_to_at : (d : A) (n k : ℕ) → k < n → get_or (list_to f n) k d ≡ f k
  unfolding list_to
  list_to_at d zero k h = absurd (not-suc-le-zero h)
  list_to_at d (suc n) k h =
      ⊎_elim
      (λ (e : k ≡ n). rw e (ap (λ (m : ℕ). get_or (list_to f n ++ (f n ∷ [])) m d) (sym (add-zero n) ∙ ap (λ (m : ℕ). m + 0) (sym (length_list_to n))) ∙ get_or-append-add (list_to f n) (f n ∷ []) 0 d))
      (λ (e : k < n). get_or-append (list_to f n) (f n ∷ []) d k (subst (λ (m : ℕ). k < m) (sym (length_list_to n)) e) ∙ list_to_at d n k e)
      (eq-or-lt_of_le (le_of_suc-le-suc h))

  pub pad_start : (z : A) (cap : ℕ) → pad z cap (list_to f 0) ≡ replicate cap z
  unfolding list_to pad
  pad_start z cap = simp sub-zero

  -- one entry more over the padding
  pub pad_on : (z : A) (cap i : ℕ) → i < cap → set (pad z cap (list_to f i)) i (f i) ≡ pad z cap (list_to f (i + 1))
  unfolding list_to
  pad_on z cap i h = rw (add-one i) (pad_push z cap (list_to f i) (f i) i (length_list_to i) h)

-- an array that holds f of another's entries
module _ {A B : Type 0} (f : A → B) (z : B) (cap : ℕ) (xs : List A) where
  pub map_start : pad z cap (map f (take 0 xs)) ≡ replicate cap z
  unfolding pad
  map_start = simp sub-zero

  -- one entry more
  pub map_on : (i : ℕ) (d : A) → i < length xs → i < cap → set (pad z cap (map f (take i xs))) i (f (get_or xs i d)) ≡ pad z cap (map f (take (i + 1) xs))
  map_on i d h k =
      let n : length (map f (take i xs)) ≡ i = length-map (take i xs) f ∙ length-take-le i xs (omega arith) in
      rw (add-one i, take-suc xs i d h, map-append) (pad_push z cap (map f (take i xs)) (f (get_or xs i d)) i n k)

  pub map_full : (i : ℕ) → i ≡ cap → length xs ≡ cap → pad z cap (map f (take i xs)) ≡ map f xs
  map_full i e h = rw (take_all i xs (omega arith)) (pad_full z cap (map f xs) (length-map xs f ∙ h))

-- f of the first n entries
module _ {A B : Type 0} (f : A → B) where
  pub length_map_take : (xs : List A) (n : ℕ) → n ≤ length xs → length (map f (take n xs)) ≡ n
  length_map_take xs n h = length-map (take n xs) f ∙ length-take-le n xs h

  pub map_take_at : (xs : List A) (n i : ℕ) (d : A) (e : B) → i < n → n ≤ length xs → get_or (map f (take n xs)) i e ≡ f (get_or xs i d)
  map_take_at xs n i d e h k =
      get_d_any (map f (take n xs)) i e (f d) (omega (arith, length_map_take xs n k)) ∙ get_or-map f (take n xs) i d ∙ ap f (get_or-take n xs i d h)

  -- of one entry more
  pub map_take_on : (xs : List A) (i : ℕ) (d : A) → i < length xs → map f (take (i + 1) xs) ≡ map f (take i xs) ++ (f (get_or xs i d) ∷ [])
  map_take_on xs i d h = rw (add-one i, take-suc xs i d h, map-append)
