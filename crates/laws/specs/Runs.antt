-- Runs and counts in a sequence of which each place has something or lacks it. Definitions only.
use Rattle.std.specs.Prelude.{◌≡◌, Bool, true, false, cond, ℕ, zero, suc, ◌+◌, ◌≤◌, ◌<◌}

-- one of the n places from b on has it
pub record Among (b n : ℕ) (has : ℕ → Bool) : Type 0 where
  pub place : ℕ
  pub from : b ≤ place
  pub until : place < b + n
  pub holds : has place ≡ true

-- wherever one starts among the first `size` places, at most `most` running lack it
abbrev pub RunsAtMost : ℕ → (ℕ → Bool) → ℕ → Type 0
RunsAtMost most has size = (b n : ℕ) → b + n ≤ size → ((k : ℕ) → b ≤ k → k < b + n → has k ≡ false) → n ≤ most

-- how many of the first n places lack it
abbrev pub lacking : (ℕ → Bool) → ℕ → ℕ
lacking has zero = 0
lacking has (suc n) = lacking has n + cond (has n) 0 1
