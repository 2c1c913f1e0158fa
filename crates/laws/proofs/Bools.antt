-- Tests that follow from one another. Assumes nothing.
use mathlib.Core.Path.{◌≡◌, refl, sym}
use mathlib.Core.Bool.{Bool, true, false, not, ◌&&◌, ◌||◌, cond, true≢false}
use mathlib.Core.Logic.{◌⊎◌, inl, inr}
use Prim.Native.Nat.{ℕ, ◌≤◌}
use native.Mathlib.Omega.{arith}
use mir.Val.{bool_byte}
use lib.Dec.{T}

pub holds : (a : Bool) → T a → a ≡ true
holds true t = refl
holds false t = absurd t

pub or_map : (a b a' b' : Bool) → (T a → T a') → (T b → T b') → T (a || b) → T (a' || b')
or_map true b true b' i j u = tt
or_map true b false b' i j u = absurd (i tt)
or_map false b true b' i j u = tt
or_map false b false b' i j u = j u

pub and_map : (a b b' : Bool) → (T b → T b') → T (a && b) → T (a && b')
and_map true b b' f t = f t
and_map false b b' f t = absurd t

-- two tests that hold, one of two that does, and two that fail
pub both : (a b : Bool) → (a && b) ≡ true → (a ≡ true) × (b ≡ true)
both true b e = (refl, e)
both false b e = (e, absurd (true≢false (sym e)))

pub one_of : (a b : Bool) → (a || b) ≡ true → (a ≡ true) ⊎ (b ≡ true)
one_of true b e = inl refl
one_of false b e = inr e

pub neither : (a b : Bool) → (a || b) ≡ false → (a ≡ false) × (b ≡ false)
neither true b e = absurd (true≢false e)
neither false b e = (refl, e)

-- no test passes and fails
pub clash : {v : Bool} → v ≡ true → v ≡ false → ⊥
clash p q = let z : ◌≡◌ {A = ℕ} 0 1 = cc in omega arith

pub contra : (x y : Bool) → (T x → T y) → not y ≡ true → not x ≡ true
contra true true i h = h
contra true false i h = absurd (i tt)
contra false y i h = refl

-- what holds of both values, each where the test takes it, holds of the one taken
pub cond_by : {A : Type 0} (P : A → Type 0) (t : Bool) (a b : A) → (t ≡ true → P a) → (t ≡ false → P b) → P (cond t a b)
cond_by P true a b p q = p refl
cond_by P false a b p q = q refl

pub either : {A : Type 0} (P : A → Type 0) (t : Bool) (a b : A) → P a → P b → P (cond t a b)
either P true a b p q = p
either P false a b p q = q

-- a test as a number
pub bit_few : (b : Bool) → bool_byte b ≤ 1
bit_few true = omega arith
bit_few false = omega arith
