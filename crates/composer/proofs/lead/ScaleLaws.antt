-- What a turn of each loop over the scale tells of the definitions, and that a walk keeps in the window; a class of
-- the scale is one of its entries. Assumes nothing.
use mathlib.Core.Path.{◌≡◌, refl, sym, ap, ◌∙◌}
use mathlib.Core.Bool.{Bool, true, false, cond}
use mathlib.Core.List.{List, [], ◌∷◌, ◌++◌}
use Prim.Native.Nat.{ℕ, zero, suc, ◌+◌, ◌-◌, ◌%◌, ◌≤◌, ◌<◌, suc-le-suc}
use native.Mathlib.Nat.{zero-lt-suc}
use native.Mathlib.Numerals.{add-one}
use native.Mathlib.Omega.{arith}
use borrow.Author.Tests.{eqb-true, eqb-false}
use lib.Dec.{eqb}
use lib.ListN.{length, get_or, take, set, replicate, length-set}
use lib.Seq.{ext_get_or, get_or-set_same, get_or-set_other, take-suc}
use Rattle.laws.specs.Lanes.{Occurs}
use Rattle.laws.specs.Lists.{list_to}
use Rattle.laws.proofs.Lists.{length_list_to, list_to_at}
use Rattle.composer.specs.Lead.Scale.{has_of, pool_by, in_pool, fits_of, candidate_of, snap_from, moved_of, room_of, due_after, walk_of}

-- ---- the pool: marked class by class
pub pool_at : (pcs : List ℕ) (pc : ℕ) → pc < 12 → in_pool (pool_by pcs) pc ≡ has_of pcs pc
pool_at pcs pc h = list_to_at (has_of pcs) false 12 pc h

pub pool_none : replicate 12 false ≡ pool_by []
pool_none = unfold list_to has_of in refl

has_last : (pcs : List ℕ) (x pc : ℕ) (b : Bool) → eqb x pc ≡ b → has_of (pcs ++ (x ∷ [])) pc ≡ cond b true (has_of pcs pc)
unfolding has_of
has_last [] x pc b e = rw e
has_last (p ∷ pcs) x pc b e = go (eqb p pc) b (has_of (pcs ++ (x ∷ [])) pc) (has_of pcs pc) (has_last pcs x pc b e)
  where
    go : (a c r s : Bool) → r ≡ cond c true s → cond a true r ≡ cond c true (cond a true s)
    go true true r s f = refl
    go true false r s f = refl
    go false true r s f = f
    go false false r s f = f

mark_one : (pcs : List ℕ) (x : ℕ) → x < 12 → set (pool_by pcs) x true ≡ pool_by (pcs ++ (x ∷ []))
mark_one pcs x h =
    let size = length_list_to (has_of pcs) 12 in
    let same = length-set (pool_by pcs) x true in
    ext_get_or false (set (pool_by pcs) x true) (pool_by (pcs ++ (x ∷ []))) (same ∙ size ∙ sym (length_list_to (has_of (pcs ++ (x ∷ []))) 12))
    (λ k l. let k_lt : k < 12 = omega (arith, same, size) in go k k_lt (eqb x k) refl ∙ sym (pool_at (pcs ++ (x ∷ [])) k k_lt))
  where
    go : (k : ℕ) → k < 12 → (b : Bool) → eqb x k ≡ b → get_or (set (pool_by pcs) x true) k false ≡ has_of (pcs ++ (x ∷ [])) k
    go k l true e =
        let f : x ≡ k = eqb-true x k e in
        rw (has_last pcs x k true e, ← f) (get_or-set_same (pool_by pcs) x true false (omega (arith, length_list_to (has_of pcs) 12)))
    go k l false e =
        rw (has_last pcs x k false e) (get_or-set_other (pool_by pcs) x k true false (λ g. eqb-false x k e (sym g)) ∙ pool_at pcs k l)

pub mark_on : (pcs : List ℕ) (i : ℕ) → i < length pcs → get_or pcs i 0 < 12 → set (pool_by (take i pcs)) (get_or pcs i 0) true ≡ pool_by (take (i + 1) pcs)
mark_on pcs i h l = mark_one (take i pcs) (get_or pcs i 0) l ∙ ap pool_by (sym (take-suc pcs i 0 h) ∙ ap (λ (k : ℕ). take k pcs) (sym (add-one i)))

-- ---- the snap: what is left to find at distance d, from a side on
abbrev pub ahead : List Bool → ℕ → ℕ → ℕ → ℕ → ℕ → ℕ
ahead pool lo hi n d zero = snap_from pool lo hi n d (7 - d)
ahead pool lo hi n d (suc zero) = cond (fits_of pool lo hi (candidate_of n d 1)) (candidate_of n d 1) (snap_from pool lo hi n (d + 1) (7 - (d + 1)))
ahead pool lo hi n d (suc (suc s)) = snap_from pool lo hi n (d + 1) (7 - (d + 1))

module _ (pool : List Bool) (lo hi n d : ℕ) (near : d ≤ 6) where
  pub snap_miss : (s : ℕ) → s < 2 → fits_of pool lo hi (candidate_of n d s) ≡ false → ahead pool lo hi n d s ≡ ahead pool lo hi n d (s + 1)
  unfolding snap_from
  snap_miss zero h f =
      let e : 7 - d ≡ suc (7 - (d + 1)) = omega arith in
      rw (e, f)
  snap_miss (suc zero) h f = rw f
  snap_miss (suc (suc s)) h f = absurd (omega arith)

  pub snap_hit : (s : ℕ) → s < 2 → fits_of pool lo hi (candidate_of n d s) ≡ true → candidate_of n d s ≡ ahead pool lo hi n d s
  unfolding snap_from
  snap_hit zero h f =
      let e : 7 - d ≡ suc (7 - (d + 1)) = omega arith in
      rw (e, f)
  snap_hit (suc zero) h f = rw f
  snap_hit (suc (suc s)) h f = absurd (omega arith)

-- ---- the walk
module _ (pool : List Bool) (up : Bool) where
  walk_on : (n space steps : ℕ) → 0 < space → 0 < steps
      → walk_of pool up n space steps ≡ walk_of pool up (moved_of up n) (space - 1) (due_after (in_pool pool (moved_of up n % 12)) steps)
  unfolding walk_of
  walk_on n zero steps h k = absurd (omega arith)
  walk_on n (suc space) zero h k = absurd (omega arith)
  walk_on n (suc space) (suc due) h k = let e : suc space - 1 ≡ space = omega arith in rw e

  -- as the loop has it: m the note moved to, b whether the scale has it, due the steps left
  pub walk_turn : (n space steps : ℕ) {m due : ℕ} {b : Bool} → 0 < space → 0 < steps → m ≡ moved_of up n → b ≡ in_pool pool (m % 12) → due ≡ due_after b steps
      → walk_of pool up n space steps ≡ walk_of pool up m (space - 1) due
  walk_turn n space steps h k e f g = rw (g, f, e) (walk_on n space steps h k)

  pub walk_edge : (n steps : ℕ) → walk_of pool up n 0 steps ≡ n
  unfolding walk_of
  walk_edge n steps = refl

  pub walk_done : (n space : ℕ) → walk_of pool up n space 0 ≡ n
  unfolding walk_of
  walk_done n zero = refl
  walk_done n (suc space) = refl

pub moved_in : (up : Bool) (n space : ℕ) {m : ℕ} → m ≡ moved_of up n → 0 < space → space < n → n + space < 256 → (space - 1 < m) × (m + (space - 1) < 256)
moved_in true n space e h a b = (omega arith, omega arith)
moved_in false n space e h a b = (omega arith, omega arith)

pub walk_in : (pool : List Bool) (up : Bool) (lo hi n space steps : ℕ) → lo ≤ n → n ≤ hi → space ≤ room_of up lo hi n
    → (lo ≤ walk_of pool up n space steps) × (walk_of pool up n space steps ≤ hi)
unfolding walk_of
walk_in pool up lo hi n zero steps a b r = (a, b)
walk_in pool up lo hi n (suc space) zero a b r = (a, b)
walk_in pool true lo hi n (suc space) (suc due) a b r =
    walk_in pool true lo hi (n + 1) space (due_after (in_pool pool ((n + 1) % 12)) (suc due)) (omega arith) (omega arith) (omega arith)
walk_in pool false lo hi n (suc space) (suc due) a b r =
    walk_in pool false lo hi (n - 1) space (due_after (in_pool pool ((n - 1) % 12)) (suc due)) (omega arith) (omega arith) (omega arith)

-- ---- the scale's entries
pub has_occurs : (n : ℕ) (pcs : List ℕ) (pc : ℕ) → has_of (take n pcs) pc ≡ true → Occurs (λ k. get_or pcs k 0) n pc
unfolding has_of
has_occurs zero pcs pc h = let e : ◌≡◌ {A = ℕ} 0 1 = cc in absurd (omega arith)
has_occurs (suc n) [] pc h = let e : ◌≡◌ {A = ℕ} 0 1 = cc in absurd (omega arith)
has_occurs (suc n) (x ∷ pcs) pc h = go (eqb x pc) refl (has_occurs n pcs pc) h
  where
    go : (t : Bool) → eqb x pc ≡ t → (has_of (take n pcs) pc ≡ true → Occurs (λ k. get_or pcs k 0) n pc) → cond t true (has_of (take n pcs) pc) ≡ true
        → Occurs (λ k. get_or (x ∷ pcs) k 0) (suc n) pc
    go true e r h = record { place = 0; until = zero-lt-suc n; is = eqb-true x pc e }
    go false e r h = let o = r h in record { place = suc o.place; until = suc-le-suc o.until; is = o.is }
