-- What a writer did to a list. Definitions only.
use Rattle.std.specs.Prelude.{◌≡◌, List, ℕ, ◌+◌, ◌≤◌, length}
use Rattle.laws.specs.Lists.{splice}

-- the n entries vs were written at `at` into b, which is now b'; r is the place after them. n stands apart, so that a
-- caller's sums need no law on vs
pub record Wrote {A : Type 0} (b b' : List A) (at r n : ℕ) (vs : List A) : Type 0 where
  pub next : r ≡ at + n
  pub size : length vs ≡ n
  pub fits : at + n ≤ length b
  pub bytes : b' ≡ splice b at vs
