-- Beats in an array are a list: it comes back, grows by one, loses one, and is written and thinned by a loop. Assumes nothing.
use mathlib.Core.Path.{◌≡◌, refl, sym, ap, subst, ◌∙◌}
use mathlib.Core.Bool.{Bool, true, false, not, cond}
use mathlib.Core.List.{List, [], ◌∷◌, ◌++◌, append-nil, append_assoc}
use Prim.Native.Nat.{ℕ, zero, suc, ◌+◌, ◌-◌, ◌<◌, ◌≤◌}
use native.Mathlib.Numerals.{add-one}
use native.Mathlib.Nat.{not-suc-le-zero, le_of_suc-le-suc}
use native.Mathlib.Omega.{arith}
use lib.ListN.{length, take, drop, get_or, set, replicate, length-append}
use lib.Seq.{take_at, drop_at, take-suc, set_out, get_or-take, length-take-le}
use Rattle.std.proofs.lemmas.List.{take-take, drop-take, drop-drop, drop-replicate}
use lib.Ieee.{Float, nan}
use mir.Val.{bool_byte}
use Rattle.laws.specs.Lists.{pad}
use Rattle.laws.proofs.Lists.{pad_push}
use Rattle.composer.specs.Note.{zero32}
use Rattle.composer.specs.Lead.Beats.{Beats, past_beats, beats_of, list_of, add_of, without, near_of, thin_of}
use Rattle.composer.proofs.lead.SettleLaws.{none_near}
use Rattle.laws.proofs.Written.{Written, rest_is, written_none, written_over, written_more, written_list}

pub list_back : (xs : List Float) → list_of (beats_of xs) ≡ xs
unfolding pad
list_back xs = take_at xs (replicate (7 - length xs) zero32) (length xs) refl

pub add_beats : (xs : List Float) (x : Float) → length xs < 7 → add_of (beats_of xs) x ≡ beats_of (xs ++ (x ∷ []))
add_beats xs x h =
    let l : length (xs ++ (x ∷ [])) ≡ length xs + 1 = length-append xs (x ∷ []) in
    rw (pad_push zero32 7 xs x (length xs) refl h, ← l)

-- ---- one beat less
length_without : (k : ℕ) (xs : List Float) → k < length xs → suc (length (without k xs)) ≡ length xs
unfolding without
length_without k [] h = absurd (not-suc-le-zero h)
length_without zero (x ∷ xs) h = refl
length_without (suc k) (x ∷ xs) h = ap suc (length_without k xs (le_of_suc-le-suc h))

without_is : (k : ℕ) (xs : List Float) → k < length xs → without k xs ≡ take k xs ++ drop (suc k) xs
unfolding without
without_is k [] h = absurd (not-suc-le-zero h)
without_is zero (x ∷ xs) h = refl
without_is (suc k) (x ∷ xs) h = ap (λ (ys : List Float). x ∷ ys) (without_is k xs (le_of_suc-le-suc h))

-- those before it and those after it, copied over zeros
module _ (a : List Float) (k n : ℕ) (h : k < n) (size : length a ≡ 7) (few : n ≤ 7) where
  without_copied : without k (take n a) ≡ take k a ++ take (n - (k + 1)) (drop (k + 1) a)
  without_copied =
      let t : length (take n a) ≡ n = length-take-le n a (omega arith) in
      let e : n ≡ k + 1 + (n - (k + 1)) = omega arith in
      rw (without_is k (take n a) (omega arith), take-take k n a (omega arith), ← add-one k)
      (ap (λ (m : ℕ). take k a ++ drop (k + 1) (take m a)) e ∙ ap (λ (ys : List Float). take k a ++ ys) (drop-take (k + 1) (n - (k + 1)) a))

  pub length_left : length (without k (take n a)) ≡ n - 1
  length_left =
      let t : length (take n a) ≡ n = length-take-le n a (omega arith) in
      omega (arith, length_without k (take n a) (omega arith))

  pub copied : (zs : List Float) → zs ≡ take k a ++ drop k (replicate 7 zero32)
      → take k zs ++ (take (n - (k + 1)) (drop (k + 1) a) ++ drop (n - 1 - k) (drop k zs)) ≡ pad zero32 7 (without k (take n a))
  unfolding pad
  copied zs e =
      let t : length (take k a) ≡ k = length-take-le k a (omega arith) in
      let m : k + (n - 1 - k) ≡ n - 1 = omega arith in
      rw (e, take_at (take k a) (drop k (replicate 7 zero32)) k t, drop_at (take k a) (drop k (replicate 7 zero32)) k t, drop-drop (n - 1 - k) k (replicate 7 zero32), m, length_left, drop-replicate (n - 1) 7 zero32, without_copied)
      (sym (append_assoc (take k a) (take (n - (k + 1)) (drop (k + 1) a)) (replicate (7 - (n - 1)) zero32)))

-- ---- behind the beats
pub rest_zero : (xs : List Float) (i : ℕ) → length xs ≤ i → i < 7 → get_or (beats_of xs).at i nan ≡ zero32
rest_zero xs i h l = rest_is zero32 7 xs i nan h l

-- ---- beats that a loop has written
beats_are : (a b : List Float) (m k : ℕ) → a ≡ b → m ≡ k → ◌≡◌ {A = Beats} (record { at = a; n = m }) (record { at = b; n = k })
beats_are a b m k e f = rw (e, f)

pub written_rest : (xs at : List Float) (n : ℕ) → Written zero32 7 xs at n → ◌≡◌ {A = Beats} (record { at = set at n zero32; n = n }) (beats_of xs)
written_rest xs at n w = beats_are (set at n zero32) (pad zero32 7 xs) n (length xs) w.cleared w.count

pub written_full : (xs at : List Float) (n : ℕ) → Written zero32 7 xs at n → n ≡ 7 → ◌≡◌ {A = Beats} (record { at = at; n = n }) (beats_of xs)
written_full xs at n w e =
    let l = w.size in
    beats_are at (pad zero32 7 xs) n (length xs) (sym (set_out at n zero32 (omega arith)) ∙ w.cleared) w.count

-- ---- thinned
-- the last of them, or k
last_of : Float → List Float → Float
last_of k [] = k
last_of k (x ∷ xs) = last_of x xs

last_at : (k : Float) (xs : List Float) (n : ℕ) (d : Float) → length xs ≡ suc n → last_of k xs ≡ get_or xs n d
unfolding last_of
last_at k [] n d e = absurd (omega arith)
last_at k (x ∷ []) zero d e = refl
last_at k (x ∷ []) (suc n) d e = absurd (omega arith)
last_at k (x ∷ (y ∷ ys)) zero d e = absurd (omega arith)
last_at k (x ∷ (y ∷ ys)) (suc n) d e = last_at x (y ∷ ys) n d (omega arith)

thin_snoc : (k : Float) (xs : List Float) (x : Float) → thin_of k (xs ++ (x ∷ [])) ≡ thin_of k xs ++ cond (near_of x (last_of k (thin_of k xs))) [] (x ∷ [])
unfolding thin_of last_of
thin_snoc k [] x = refl
thin_snoc k (y ∷ xs) x = go (near_of y k) (thin_snoc k xs x) (thin_snoc y xs x)
  where
    go : (t : Bool) → thin_of k (xs ++ (x ∷ [])) ≡ thin_of k xs ++ cond (near_of x (last_of k (thin_of k xs))) [] (x ∷ [])
        → thin_of y (xs ++ (x ∷ [])) ≡ thin_of y xs ++ cond (near_of x (last_of y (thin_of y xs))) [] (x ∷ [])
        → cond t (thin_of k (xs ++ (x ∷ []))) (y ∷ thin_of y (xs ++ (x ∷ [])))
        ≡ cond t (thin_of k xs) (y ∷ thin_of y xs) ++ cond (near_of x (last_of k (cond t (thin_of k xs) (y ∷ thin_of y xs)))) [] (x ∷ [])
    go true p q = p
    go false p q = ap (λ (zs : List Float). y ∷ zs) q

thin_one : (x : Float) → Written zero32 7 (thin_of nan (x ∷ [])) (set (replicate 7 zero32) 0 x) 1
unfolding thin_of
thin_one x = rw (none_near x) (written_more zero32 7 [] (replicate 7 zero32) 0 x (written_none zero32 7) (omega arith))

-- the first is always kept
pub thin_first : (a : List Float) → 0 < length a → Written zero32 7 (thin_of nan (take 1 a)) (set (replicate 7 zero32) 0 (get_or a 0 nan)) 1
thin_first [] h = absurd (not-suc-le-zero h)
thin_first (x ∷ xs) h = thin_one x

-- a turn of the loop that thins
module _ (a at : List Float) (i n : ℕ) (h : i < length a) (l : n < 7) (some : 0 < n) (w : Written zero32 7 (thin_of nan (take i a)) at n) where
  last_kept : get_or at (n - 1) nan ≡ last_of nan (thin_of nan (take i a))
  last_kept =
      let xs = thin_of nan (take i a) in
      let c = w.count in
      sym (get_or-take n at (n - 1) nan (omega arith)) ∙ ap (λ (ys : List Float). get_or ys (n - 1) nan) (written_list zero32 7 xs at n w) ∙ sym (last_at nan xs (n - 1) nan (omega arith))

  pub thin_on : (near : Bool) → near ≡ near_of (get_or a i nan) (get_or at (n - 1) nan) → Written zero32 7 (thin_of nan (take (i + 1) a)) (set at n (get_or a i nan)) (n + bool_byte (not near))
  thin_on near e =
      let x = get_or a i nan in
      let xs = thin_of nan (take i a) in
      rw (add-one i, take-suc a i nan h, thin_snoc nan (take i a) x, e, last_kept) (go (near_of x (last_of nan xs)))
    where
      go : (t : Bool) → Written zero32 7 (thin_of nan (take i a) ++ cond t [] (get_or a i nan ∷ [])) (set at n (get_or a i nan)) (n + bool_byte (not t))
      go true = rw (append-nil) (subst (λ (k : ℕ). Written zero32 7 (thin_of nan (take i a)) (set at n (get_or a i nan)) k) (omega arith) (written_over zero32 7 (thin_of nan (take i a)) at n (get_or a i nan) w))
      go false = written_more zero32 7 (thin_of nan (take i a)) at n (get_or a i nan) w l

-- ---- bars of at most seven beats
pub set_short : (bars : List Beats) (i : ℕ) (b : Beats) → b.n ≤ 7 → ((k : ℕ) → (get_or bars k past_beats).n ≤ 7) → (k : ℕ) → (get_or (set bars i b) k past_beats).n ≤ 7
set_short [] i b h s k = s k
set_short (x ∷ xs) zero b h s zero = h
set_short (x ∷ xs) zero b h s (suc k) = s (suc k)
set_short (x ∷ xs) (suc i) b h s zero = s zero
set_short (x ∷ xs) (suc i) b h s (suc k) = set_short xs i b h (λ (j : ℕ). s (suc j)) k

pub empty_short : (m k : ℕ) → (get_or (replicate m (beats_of [])) k past_beats).n ≤ 7
empty_short zero k = omega arith
empty_short (suc m) zero = omega arith
empty_short (suc m) (suc k) = empty_short m k
