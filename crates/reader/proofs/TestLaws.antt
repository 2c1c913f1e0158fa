-- Tests that hold together, and arrays with zeros behind what is in use. Assumes nothing.
use mathlib.Core.Path.{◌≡◌, refl, sym, ap, ◌∙◌}
use mathlib.Core.Bool.{Bool, true, false, ◌&&◌}
use mathlib.Core.Logic.{⊎_elim}
use mathlib.Core.List.{List}
use Prim.Native.Nat.{ℕ, zero, suc, ◌≤◌, ◌<◌}
use native.Mathlib.Nat.{not-suc-le-zero, le_of_suc-le-suc, eq-or-lt_of_le}
use native.Mathlib.Omega.{arith}
use borrow.Author.Tests.{ltb-true, ltb-false}
use lib.Dec.{ltb}
use lib.ListN.{length, get_or, take}
use lib.Seq.{ext_get_or, get_or-take, length-take-le}
use Rattle.laws.specs.Lists.{pad}
use Rattle.laws.proofs.Bools.{both}
use Rattle.laws.proofs.Lists.{length_pad, pad_at_lem, get_d_any}
use Rattle.laws.proofs.Written.{rest_is}
use Rattle.reader.specs.Tests.{all_to}

-- where the first of two is known
pub and_then : {a t : Bool} (b : Bool) → a ≡ true → t ≡ b → t ≡ (a && b)
and_then b p q = rw p q

pub and_else : {a t : Bool} (b : Bool) → a ≡ false → t ≡ false → t ≡ (a && b)
and_else b p q = rw p q

pub all_to_at : (p : ℕ → Bool) (n : ℕ) → all_to p n ≡ true → (i : ℕ) → i < n → p i ≡ true
unfolding all_to
all_to_at p zero e i h = absurd (not-suc-le-zero h)
all_to_at p (suc n) e i h =
    let q = both (all_to p n) (p n) e in
    ⊎_elim (λ (s : i ≡ n). rw s q.1) (λ (s : i < n). all_to_at p n q.0 i s) (eq-or-lt_of_le (le_of_suc-le-suc h))

pub all_to_by : (p : ℕ → Bool) (n : ℕ) → ((i : ℕ) → i < n → p i ≡ true) → all_to p n ≡ true
unfolding all_to
all_to_by p zero f = refl
all_to_by p (suc n) f = rw (all_to_by p n (λ i h. f i (omega arith)), f n (omega arith))

-- tests that say the same
pub all_to_same : (p q : ℕ → Bool) (n : ℕ) → ((i : ℕ) → i < n → p i ≡ q i) → all_to p n ≡ all_to q n
unfolding all_to
all_to_same p q zero f = refl
all_to_same p q (suc n) f = rw (all_to_same p q n (λ i h. f i (omega arith)), f n (omega arith))

swap : (a b c d : Bool) → ((a && b) && (c && d)) ≡ ((a && c) && (b && d))
swap true true c d = refl
swap true false true d = refl
swap true false false d = refl
swap false b c d = refl

-- two tests of each, one after the other or both at once
pub all_to_both : (p q : ℕ → Bool) (n : ℕ) → (all_to p n && all_to q n) ≡ all_to (λ k. p k && q k) n
unfolding all_to
all_to_both p q zero = refl
all_to_both p q (suc n) = swap (all_to p n) (p n) (all_to q n) (q n) ∙ ap (λ (t : Bool). t && (p n && q n)) (all_to_both p q n)

-- past the first n stands z
module _ {A : Type 0} (z d : A) (cap : ℕ) (xs : List A) (n : ℕ) (size : length xs ≡ cap) (few : n ≤ cap) where
  pub pad_back : ((i : ℕ) → n ≤ i → i < cap → get_or xs i d ≡ z) → pad z cap (take n xs) ≡ xs
  pad_back zeros =
      let l : length (take n xs) ≡ n = length-take-le n xs (omega arith) in
      let m : length (pad z cap (take n xs)) ≡ cap = length_pad z cap (take n xs) (omega arith) in
      ext_get_or z (pad z cap (take n xs)) xs (m ∙ sym size) (λ i h. go i (ltb i n) refl (omega arith) l)
    where
      go : (i : ℕ) (t : Bool) → ltb i n ≡ t → i < cap → length (take n xs) ≡ n → get_or (pad z cap (take n xs)) i z ≡ get_or xs i z
      go i true e h l = let k = ltb-true i n e in pad_at_lem z cap (take n xs) i (omega arith) ∙ get_or-take n xs i z k
      go i false e h l = let k = ltb-false i n e in rest_is z cap (take n xs) i z (omega arith) h ∙ sym (zeros i k h) ∙ get_d_any xs i d z (omega arith)
