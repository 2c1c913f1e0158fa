-- Lists, one after the other. Assumes nothing.
use mathlib.Core.Path.{◌≡◌, refl, sym, ap, ◌∙◌}
use mathlib.Core.List.{List, [], ◌∷◌, ◌++◌, append_assoc, append-nil}
use Prim.Native.Nat.{ℕ, zero, suc, ◌+◌, ◌-◌, ◌*◌, ◌≤◌, ◌<◌}
use native.Mathlib.Nat.{mul-zero, mul-suc, mul-le-mul_left, not-suc-le-zero}
use native.Mathlib.Numerals.{add-one}
use native.Mathlib.Omega.{arith}
use lib.ListN.{length, get_or, take, drop, length-append, length-drop, get_or-append}
use lib.Seq.{take-suc, get_or-append-add, get_or-drop}
use Rattle.laws.specs.Lists.{joined}
use Rattle.laws.specs.Sorts.{All}

module _ {A : Type 0} where
  pub joined_append : (xs ys : List (List A)) → joined (xs ++ ys) ≡ joined xs ++ joined ys
  unfolding joined
  joined_append [] ys = refl
  joined_append (x ∷ xs) ys = ap (λ (l : List A). x ++ l) (joined_append xs ys) ∙ sym (append_assoc x (joined xs) (joined ys))

  joined_one : (x : List A) → joined (x ∷ []) ≡ x
  unfolding joined
  joined_one x = append-nil x

  pub joined_snoc : (xs : List (List A)) (x : List A) → joined (xs ++ (x ∷ [])) ≡ joined xs ++ x
  joined_snoc xs x = joined_append xs (x ∷ []) ∙ ap (λ (l : List A). joined xs ++ l) (joined_one x)

  -- one list more
  pub joined_on : (es : List (List A)) (i : ℕ) → i < length es → joined (take (i + 1) es) ≡ joined (take i es) ++ get_or es i []
  joined_on es i h = rw (add-one i, take-suc es i [] h) (joined_snoc (take i es) (get_or es i []))

  -- lists of one length
  pub length_joined : (w : ℕ) (es : List (List A)) → All (λ e. length e ≡ w) es → length (joined es) ≡ w * length es
  unfolding joined
  length_joined w [] a = sym (mul-zero w)
  length_joined w (e ∷ es) a = omega (arith, length-append e (joined es), a.0, length_joined w es a.1, mul-suc w (length es))

  -- entry k of each list, all of width w, in all of them joined
  pub joined_at : (P : A → Type 0) (d : A) (w k : ℕ) → k < w → (xss : List (List A)) → All (λ xs. (length xs ≡ w) × P (get_or xs k d)) xss
      → (i : ℕ) → w * i < length (joined xss) → P (get_or (joined xss) (w * i + k) d)
  unfolding joined
  joined_at P d w k l [] a i h = absurd (not-suc-le-zero h)
  joined_at P d w k l (xs ∷ xss) a zero h =
      let e : w * 0 + k ≡ k = omega arith in
      rw (e, get_or-append xs (joined xss) d k (omega (arith, a.0.0))) a.0.1
  joined_at P d w k l (xs ∷ xss) a (suc i) h =
      let e : w * suc i + k ≡ length xs + (w * i + k) = omega (arith, a.0.0) in
      rw (e, get_or-append-add xs (joined xss) (w * i + k) d)
      (joined_at P d w k l xss a.1 i (omega (arith, a.0.0, length-append xs (joined xss))))

-- ---- a run of lists
module _ (w from i : ℕ) (begun : from ≤ i) where
  pub times_on : w * (i + 1 - from) ≡ w * (i - from) + w
  times_on =
      let e : i + 1 - from ≡ suc (i - from) = omega arith in
      rw e (mul-suc w (i - from))

  pub times_fits : (to : ℕ) → i < to → w * (i - from) + w ≤ w * (to - from)
  times_fits to h = rw (← mul-suc w (i - from)) (mul-le-mul_left w (omega arith))

-- one list more of the run
pub joined_run_on : {A : Type 0} (es : List (List A)) (from i : ℕ) → from ≤ i → i < length es
    → joined (take (i + 1 - from) (drop from es)) ≡ joined (take (i - from) (drop from es)) ++ get_or es i []
joined_run_on es from i begun h =
    let ds = drop from es in
    let e : i + 1 - from ≡ i - from + 1 = omega arith in
    let at : from + (i - from) ≡ i = omega arith in
    let here : get_or ds (i - from) [] ≡ get_or es i [] = get_or-drop from es (i - from) [] ∙ ap (λ (k : ℕ). get_or es k []) at in
    rw (e, ← here) (joined_on ds (i - from) (omega (arith, length-drop from es)))
