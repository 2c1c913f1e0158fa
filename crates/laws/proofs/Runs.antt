-- Runs and counts by a test that computes, and in a sequence that has more. Assumes nothing.
use mathlib.Core.Path.{◌≡◌, refl, sym, ◌∙◌, subst}
use mathlib.Core.Bool.{Bool, true, false, ◌&&◌, ◌||◌, cond, true≢false}
use mathlib.Core.Logic.{⊎_elim}
use Prim.Native.Nat.{ℕ, zero, suc, ◌+◌, ◌-◌, ◌≤◌, ◌<◌}
use native.Mathlib.Nat.{le_of_suc-le-suc, not-suc-le-zero, eq-or-lt_of_le, eq-zero-or-pos}
use native.Mathlib.Omega.{arith}
use lib.Dec.{T}
use mir.Facts.{and_yes, or_yes}
use Rattle.laws.proofs.Bools.{holds}
use Rattle.laws.specs.Runs.{Among, RunsAtMost, lacking}

-- ---- tests
abbrev pub some_from : ℕ → ℕ → (ℕ → Bool) → Bool
some_from b zero has = false
some_from b (suc n) has = has b || some_from (suc b) n has

abbrev pub every : ℕ → (ℕ → Bool) → Bool
every zero has = true
every (suc n) has = has n && every n has

-- any n running of the first `size` places include one that has it
abbrev pub windows : ℕ → (ℕ → Bool) → ℕ → Bool
windows n has size = every (size + 1 - n) (λ b. some_from b n has)

pub every_at : (n : ℕ) (has : ℕ → Bool) → T (every n has) → (k : ℕ) → k < n → T (has k)
every_at zero has t k h = absurd (not-suc-le-zero h)
every_at (suc n) has t k h =
    let u = and_yes (has n) (every n has) t in
    ⊎_elim (λ (e : k ≡ n). subst (λ (m : ℕ). T (has m)) (sym e) u.0) (λ (e : k < n). every_at n has u.1 k e) (eq-or-lt_of_le (le_of_suc-le-suc h))

some_among : (n b : ℕ) (has : ℕ → Bool) → T (some_from b n has) → Among b n has
some_among zero b has t = absurd t
some_among (suc n) b has t =
    ⊎_elim (λ (u : T (has b)). record { place = b; from = omega arith; until = omega arith; holds = holds (has b) u })
    (λ (u : T (some_from (suc b) n has)). let a = some_among n (suc b) has u in record { place = a.place; from = omega (arith, a.from); until = omega (arith, a.until); holds = a.holds })
    (or_yes (has b) (some_from (suc b) n has) t)

pub windows_among : (n : ℕ) (has : ℕ → Bool) (size : ℕ) → T (windows n has size) → (b : ℕ) → b + n ≤ size → Among b n has
windows_among n has size t b h = some_among n b has (every_at (size + 1 - n) (λ b. some_from b n has) t b (omega arith))

-- where any n + 1 running include one, at most n running lack it
pub runs_at_most : (n : ℕ) (has : ℕ → Bool) (size : ℕ) → ((b : ℕ) → b + suc n ≤ size → Among b (suc n) has) → RunsAtMost n has size
runs_at_most n has size among b m h lacks =
    ⊎_elim (λ (e : m - n ≡ 0). omega arith)
    (λ (l : 0 < m - n). let a = among b (omega arith) in absurd (true≢false (sym a.holds ∙ lacks a.place a.from (omega (arith, a.until)))))
    (eq-zero-or-pos (m - n))

-- ---- a sequence that has more
module _ (has more : ℕ → Bool) (size : ℕ) (also : (k : ℕ) → k < size → has k ≡ true → more k ≡ true) where
  lacks_too : (a b : Bool) → (a ≡ true → b ≡ true) → b ≡ false → a ≡ false
  lacks_too true b i e = absurd (true≢false (sym (i refl) ∙ e))
  lacks_too false b i e = refl

  pub among_more : (b n : ℕ) → b + n ≤ size → Among b n has → Among b n more
  among_more b n h a = record { place = a.place; from = a.from; until = a.until; holds = also a.place (omega (arith, a.until)) a.holds }

  pub runs_more : (most : ℕ) → RunsAtMost most has size → RunsAtMost most more size
  runs_more most runs b n h lacks = runs b n h (λ k l u. lacks_too (has k) (more k) (also k (omega arith)) (lacks k l u))

  one_less : (a b : Bool) → (a ≡ true → b ≡ true) → cond b 0 1 ≤ cond a 0 1
  one_less true true i = omega arith
  one_less true false i = absurd (true≢false (sym (i refl)))
  one_less false true i = omega arith
  one_less false false i = omega arith

  fewer : (n : ℕ) → n ≤ size → lacking more n ≤ lacking has n
  fewer zero h = omega arith
  fewer (suc n) h = omega (arith, fewer n (omega arith), one_less (has n) (more n) (also n (omega arith)))

  pub lacking_fewer : lacking more size ≤ lacking has size
  lacking_fewer = fewer size (omega arith)
