-- Loops that fill an array over its padding, and tests of the numbers of a range. Assumes nothing.
use mathlib.Core.Path.{◌≡◌, refl, sym, ap, ◌∙◌}
use mathlib.Core.Bool.{Bool, and-true}
use mathlib.Core.List.{List, [], ◌∷◌, ◌++◌}
use Prim.Native.Nat.{ℕ, zero, suc, ◌+◌, ◌<◌}
use native.Mathlib.Nat.{add-zero, zero-add}
use native.Mathlib.Omega.{arith}
use lib.ListN.{set}
use Rattle.std.specs.List.{list_all, range_with_len}
use Rattle.std.proofs.lemmas.List.Folds.{list_all-append}
use Rattle.laws.specs.Lists.{list_to, pad}
use Rattle.laws.proofs.Lists.{length_list_to, pad_on, pad_full}
use Rattle.reader.specs.Tests.{all_to}

-- one entry more
pub padded_more : {A : Type 0} (z : A) (cap : ℕ) (f : ℕ → A) (i : ℕ) (xs : List A) (a : A) → xs ≡ pad z cap (list_to f i) → a ≡ f i → i < cap → set xs i a ≡ pad z cap (list_to f (i + 1))
padded_more z cap f i xs a p q h = rw (p, q) (pad_on f z cap i h)

-- which at the last is full
pub padded_all : {A : Type 0} (z : A) (cap : ℕ) (f : ℕ → A) (i : ℕ) (xs : List A) → xs ≡ pad z cap (list_to f i) → i ≡ cap → xs ≡ list_to f cap
padded_all z cap f i xs p e = rw (p, e) (pad_full z cap (list_to f cap) (length_list_to f cap))

-- one number more
range_on : (a n : ℕ) → range_with_len a (suc n) ≡ range_with_len a n ++ ((a + n) ∷ [])
range_on a zero = ap (λ (k : ℕ). k ∷ []) (sym (add-zero a))
range_on a (suc n) =
    let e : a + 1 + n ≡ a + suc n = omega arith in
    ap (λ (xs : List ℕ). a ∷ xs) (range_on (a + 1) n ∙ ap (λ (k : ℕ). range_with_len (a + 1) n ++ (k ∷ [])) e)

pub all_in_range : (p : ℕ → Bool) (n : ℕ) → list_all p (range_with_len 0 n) ≡ all_to p n
unfolding all_to
all_in_range p zero = refl
all_in_range p (suc n) =
    ap (list_all p) (range_on 0 n) ∙ list_all-append p (range_with_len 0 n) ((0 + n) ∷ []) ∙ rw (all_in_range p n, zero-add n, and-true (p n))
