-- The search turn by turn. Assumes nothing.
use mathlib.Core.Path.{◌≡◌, subst}
use mathlib.Core.Logic.{⊎_elim}
use Prim.Native.Nat.{ℕ, ◌+◌, ◌<◌}
use native.Mathlib.Nat.{eq-or-lt_of_le}
use native.Mathlib.Omega.{arith}
use Rattle.lessons.specs.Lesson.{NoneFits}

module _ (Fits : ℕ → Type 0) (start : ℕ) where
  pub none_at_first : NoneFits Fits start 0
  none_at_first seed s h = absurd (omega (arith, s.from, s.to))

  pub none_more : (i : ℕ) → NoneFits Fits start i → (Fits (start + i) → ⊥) → NoneFits Fits start (i + 1)
  none_more i n e seed s h =
      ⊎_elim (λ (q : seed ≡ start + i). e (subst Fits q h)) (λ (q : seed < start + i). n seed (record { from = s.from; to = q }) h) (eq-or-lt_of_le (omega (arith, s.to)))
