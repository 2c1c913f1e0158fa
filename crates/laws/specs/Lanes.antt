-- Words for the entries in use of an array that grows at its count. Definitions only.
use Rattle.std.specs.Prelude.{◌≡◌, List, ℕ, suc, ◌≤◌, ◌<◌, eqb, length, get_or}
use Rattle.laws.specs.Sorts.{count}

-- the first n values never fall, and none is above `top`
pub record Rises (f : ℕ → ℕ) (n top : ℕ) : Type 0 where
  pub most : (i : ℕ) → i < n → f i ≤ top
  pub rise : (i : ℕ) → suc i < n → f i ≤ f (suc i)

-- one of the first n values is v
pub record Occurs (f : ℕ → ℕ) (n v : ℕ) : Type 0 where
  pub place : ℕ
  pub until : place < n
  pub is : f place ≡ v

-- at most m entries have any one value
abbrev pub EachAtMost : {A : Type 0} → (A → ℕ) → ℕ → List A → Type 0
EachAtMost f m xs = (v : ℕ) → count (λ x. eqb (f x) v) xs ≤ m

-- an array of `cap` entries: the first n are in the order of f, which is at most `top`, and the others are `none`; d stands past its end
pub record Laid {A : Type 0} (d none : A) (f : A → ℕ) (cap top : ℕ) (xs : List A) (n : ℕ) : Type 0 where
  pub size : length xs ≡ cap
  pub few : n ≤ cap
  pub rises : Rises (λ i. f (get_or xs i d)) n top
  pub rest : (i : ℕ) → n ≤ i → i < cap → get_or xs i d ≡ none
