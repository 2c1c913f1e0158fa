-- The entries of a spliced list, and a splice that grows by one. Assumes nothing.
use mathlib.Core.Path.{◌≡◌, sym, ap, ◌∙◌}
use mathlib.Core.List.{List, [], ◌∷◌, ◌++◌, append_assoc}
use Prim.Native.Nat.{ℕ, suc, ◌+◌, ◌-◌, ◌≤◌, ◌<◌}
use native.Mathlib.Nat.{add-zero}
use native.Mathlib.Omega.{arith}
use lib.ListN.{length, set, take, drop, get_or, length-append, take-append-drop, get_or-append}
use lib.Seq.{drop-cons, set_at, length-take-le, get_or-append-add, get_or-take, get_or-drop}
use Rattle.laws.specs.Lists.{splice}

module _ {A : Type 0} (xs : List A) (at : ℕ) where
  pub splice_none : splice xs at [] ≡ xs
  unfolding splice
  splice_none = rw (add-zero at) (take-append-drop at xs)

  -- one entry more
  pub splice_push : (vs : List A) (v : A) → at + length vs < length xs → set (splice xs at vs) (at + length vs) v ≡ splice xs at (vs ++ (v ∷ []))
  unfolding splice
  splice_push vs v h =
      let k = at + length vs in
      let p = take at xs ++ vs in
      let size : length p ≡ k = length-append (take at xs) vs ∙ ap (λ (n : ℕ). n + length vs) (length-take-le at xs (omega arith)) in
      let e : suc k ≡ at + length (vs ++ (v ∷ [])) = omega (arith, length-append vs (v ∷ [])) in
      rw (← append_assoc (take at xs) vs (drop k xs), drop-cons xs k v h, set_at p (get_or xs k v) (drop (suc k) xs) v k size, e)
      (append_assoc (take at xs) vs (v ∷ drop (at + length (vs ++ (v ∷ []))) xs) ∙ ap (λ (l : List A). take at xs ++ l) (sym (append_assoc vs (v ∷ []) (drop (at + length (vs ++ (v ∷ []))) xs))))

  module _ (vs : List A) (d : A) (fits : at ≤ length xs) where
    pub splice_before : (b : ℕ) → b < at → get_or (splice xs at vs) b d ≡ get_or xs b d
    unfolding splice
    splice_before b h =
        get_or-append (take at xs) (vs ++ drop (at + length vs) xs) d b (omega (arith, length-take-le at xs fits)) ∙ get_or-take at xs b d h

    from : (k : ℕ) → get_or (splice xs at vs) (at + k) d ≡ get_or (vs ++ drop (at + length vs) xs) k d
    unfolding splice
    from k =
        ap (λ (m : ℕ). get_or (splice xs at vs) (m + k) d) (sym (length-take-le at xs fits)) ∙ get_or-append-add (take at xs) (vs ++ drop (at + length vs) xs) k d

    pub splice_in : (k : ℕ) → k < length vs → get_or (splice xs at vs) (at + k) d ≡ get_or vs k d
    splice_in k h = from k ∙ get_or-append vs (drop (at + length vs) xs) d k h

    pub splice_after : (b : ℕ) → at + length vs ≤ b → get_or (splice xs at vs) b d ≡ get_or xs b d
    splice_after b h =
        let k = b - (at + length vs) in
        let here : b ≡ at + (length vs + k) = omega arith in
        let there : at + length vs + k ≡ b = omega arith in
        ap (λ (m : ℕ). get_or (splice xs at vs) m d) here ∙ from (length vs + k) ∙ get_or-append-add vs (drop (at + length vs) xs) k d
        ∙ get_or-drop (at + length vs) xs k d ∙ ap (λ (m : ℕ). get_or xs m d) there
