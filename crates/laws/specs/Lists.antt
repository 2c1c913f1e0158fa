-- Words for lists. Definitions only.
use Rattle.std.specs.Prelude.{Bool, true, ◌&&◌, cond, ℕ, zero, suc, ◌+◌, ◌-◌, length, replicate, take, drop}
use mathlib.Core.List.{List, [], ◌∷◌, ◌++◌}

module _ {A : Type 0} where
  -- f 0, f 1, up to f (n - 1)
  unfoldable pub list_to : (ℕ → A) → ℕ → List A
  list_to f zero = []
  list_to f (suc n) = list_to f n ++ (f n ∷ [])

  -- a list in an array of `cap` entries: the rest is z
  unfoldable pub pad : A → ℕ → List A → List A
  pad z cap xs = xs ++ replicate (cap - length xs) z

  -- vs in place of what stood from `at` on
  unfoldable pub splice : List A → ℕ → List A → List A
  splice xs at vs = take at xs ++ (vs ++ drop (at + length vs) xs)

  -- p holds of every entry
  unfoldable pub all_of : (A → Bool) → List A → Bool
  all_of p [] = true
  all_of p (x ∷ xs) = p x && all_of p xs

  -- the entries that pass a test, in their order
  unfoldable pub filter_of : (A → Bool) → List A → List A
  filter_of p [] = []
  filter_of p (x ∷ xs) = cond (p x) (x ∷ filter_of p xs) (filter_of p xs)

  -- the lists, one after the other
  unfoldable pub joined : List (List A) → List A
  joined [] = []
  joined (xs ∷ xss) = xs ++ joined xss
