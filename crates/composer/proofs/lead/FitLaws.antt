-- What fits is in the window and the scale; every chord tone fits, and the nearest of notes that fit. Assumes nothing.
use mathlib.Core.Path.{◌≡◌}
use mathlib.Core.Bool.{Bool, true, false, not, ◌&&◌}
use mathlib.Core.List.{List, [], ◌∷◌, ◌++◌}
use Prim.Native.Nat.{ℕ, zero, suc, ◌+◌, ◌-◌, ◌%◌, ◌≤◌, ◌<◌}
use native.Mathlib.Omega.{arith}
use borrow.Author.Tests.{le-leb}
use lib.Dec.{T, leb, ltb, eqb, leb→le}
use lib.ListN.{length}
use mir.Facts.{and_yes}
use Rattle.laws.specs.Lists.{all_of}
use Rattle.laws.proofs.Bools.{holds, cond_by}
use Rattle.composer.specs.Lead.Scale.{in_pool, fits_of}
use Rattle.composer.specs.Lead.Tones.{in_chord_of, is_sung_of, one, kept, tones_in, rank_of, closer_of, closest, nearest_of}

-- ---- a note that fits
fits_in : (pool : List Bool) (lo hi n : ℕ) → lo ≤ n → n ≤ hi → in_pool pool (n % 12) ≡ true → T (fits_of pool lo hi n)
unfolding fits_of
fits_in pool lo hi n a b m = rw (le-leb lo n a, le-leb n hi b, m) tt

-- it is in the window, and its class in the scale
pub fits_what : (pool : List Bool) (lo hi n : ℕ) → T (fits_of pool lo hi n) → (lo ≤ n) × (n ≤ hi) × (in_pool pool (n % 12) ≡ true)
unfolding fits_of
fits_what pool lo hi n t =
    let u = and_yes (leb lo n && leb n hi) (in_pool pool (n % 12)) t in
    let w = and_yes (leb lo n) (leb n hi) u.0 in
    (leb→le lo n w.0, leb→le n hi w.1, holds (in_pool pool (n % 12)) u.1)

-- ---- what passes at every entry
both : (a b : Bool) → T a → T b → T (a && b)
both true b s t = t
both false b s t = absurd s

all_append : (p : ℕ → Bool) (xs ys : List ℕ) → T (all_of p xs) → T (all_of p ys) → T (all_of p (xs ++ ys))
unfolding all_of
all_append p [] ys s t = t
all_append p (x ∷ xs) ys s t =
    let u = and_yes (p x) (all_of p xs) s in
    both (p x) (all_of p (xs ++ ys)) u.0 (all_append p xs ys u.1 t)

all_one : (q : ℕ → Bool) (b : Bool) (x : ℕ) → (T b → T (q x)) → T (all_of q (one b x))
unfolding all_of
all_one q true x h = both (q x) true (h tt) tt
all_one q false x h = tt

all_kept : (p q : ℕ → Bool) (lo k : ℕ) → ((i : ℕ) → i < k → T (p (lo + i)) → T (q (lo + i))) → T (all_of q (kept p lo k))
unfolding kept all_of
all_kept p q lo zero h = tt
all_kept p q lo (suc k) h =
    all_append q (kept p lo k) (one (p (lo + k)) (lo + k)) (all_kept p q lo k (λ i l t. h i (omega arith) t))
    (all_one q (p (lo + k)) (lo + k) (h k (omega arith)))

-- ---- the chord's tones
sung_has : (chord : List ℕ) (pool : List Bool) (avoid n : ℕ) → T (is_sung_of chord pool avoid n) → in_pool pool (n % 12) ≡ true
unfolding is_sung_of
sung_has chord pool avoid n t =
    holds (in_pool pool (n % 12)) (and_yes (in_chord_of chord n && not (eqb (n % 12) avoid)) (in_pool pool (n % 12)) t).1

pub tones_fit : (chord : List ℕ) (pool : List Bool) (avoid lo hi : ℕ) → T (all_of (fits_of pool lo hi) (tones_in chord pool avoid lo hi))
unfolding tones_in
tones_fit chord pool avoid lo hi =
    all_kept (is_sung_of chord pool avoid) (fits_of pool lo hi) lo (hi + 1 - lo)
    (λ i l t. fits_in pool lo hi (lo + i) (omega arith) (omega arith) (sung_has chord pool avoid (lo + i) t))

-- ---- the nearest is one of the list
closest_in : (p : ℕ → Bool) (t best : ℕ) (xs : List ℕ) → T (p best) → T (all_of p xs) → T (p (closest t best xs))
unfolding closest all_of
closest_in p t best [] h a = h
closest_in p t best (x ∷ xs) h a =
    let u = and_yes (p x) (all_of p xs) a in
    closest_in p t (closer_of t best x) xs (cond_by (λ (n : ℕ). T (p n)) (ltb (rank_of t x) (rank_of t best)) x best (λ e. u.0) (λ e. h)) u.1

pub nearest_in : (p : ℕ → Bool) (xs : List ℕ) (t : ℕ) → 0 < length xs → T (all_of p xs) → T (p (nearest_of xs t))
unfolding nearest_of all_of
nearest_in p [] t h a = absurd (omega arith)
nearest_in p (x ∷ xs) t h a =
    let u = and_yes (p x) (all_of p xs) a in
    closest_in p t x xs u.0 u.1
