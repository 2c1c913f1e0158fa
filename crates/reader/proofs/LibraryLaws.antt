-- The definitions' tests in the library's words: of a float, of a list's first entries, and of those past them. Assumes
-- nothing.
use mathlib.Core.Path.{◌≡◌, refl, ap, ◌∙◌}
use mathlib.Core.Bool.{Bool, true, false, ◌&&◌, ◌||◌}
use mathlib.Core.List.{List, [], ◌∷◌}
use Prim.Native.Nat.{ℕ, zero, suc, ◌≤◌}
use native.Mathlib.Omega.{arith}
use borrow.Author.Tests.{lt-ltb, leb-true}
use lib.Dec.{leb, ltb, leb-suc-zero, leb-suc-suc}
use lib.Ieee.{Float, nan, inf, fin}
use lib.Ieee.Scale.{finite}
use lib.ListN.{length, get_or, take, drop}
use Rattle.std.proofs.lemmas.List.{take_all}
use Rattle.std.proofs.lemmas.Grind.{common_steps}
use Rattle.std.specs.Float.{float_is_finite}
use Rattle.std.specs.List.{list_all}
use Rattle.composer.specs.Note.{past_note, past_hit}
use Rattle.composer.specs.declared.note.Hit.{Hit}
use Rattle.composer.specs.declared.note.Note.{Note}
use Rattle.pages.specs.declared.edition.Edition.{Edition}
use Rattle.reader.specs.Cleared.{note_zero, hit_zero, notes_zero, hits_zero}
use Rattle.reader.specs.Tests.{all_to}
use Rattle.reader.specs.Within.{note_within, hit_within, notes_within, hits_within}

pub finite_is : (x : Float) → float_is_finite x ≡ finite x
unfolding float_is_finite
finite_is nan = refl
finite_is (inf s) = refl
finite_is (fin s m e) = refl

-- ---- a test of the numbers below another, the first of them apart
all_to_none : (p : ℕ → Bool) → all_to p 0 ≡ true
unfolding all_to
all_to_none p = refl

all_to_more : (p : ℕ → Bool) (n : ℕ) → all_to p (suc n) ≡ (p 0 && all_to (λ i. p (suc i)) n)
unfolding all_to
all_to_more p zero = grind (arith, common_steps)
all_to_more p (suc n) = grind (arith, common_steps, all_to_more p n)

-- ---- a test of a list's entries
module _ {A : Type 0} (p : A → Bool) (d : A) where
  -- the first n
  pub each_to : (xs : List A) (n : ℕ) → n ≤ length xs → all_to (λ i. p (get_or xs i d)) n ≡ list_all p (take n xs)
  each_to xs zero h = all_to_none (λ i. p (get_or xs i d))
  each_to [] (suc n) h = absurd (omega arith)
  each_to (x ∷ xs) (suc n) h = all_to_more (λ i. p (get_or (x ∷ xs) i d)) n ∙ rw (each_to xs n (omega arith))

  pub each : (xs : List A) (cap : ℕ) → length xs ≡ cap → all_to (λ i. p (get_or xs i d)) cap ≡ list_all p xs
  each xs cap size = each_to xs cap (omega arith) ∙ ap (list_all p) (take_all cap xs (omega arith))

  -- the first n, if there are as many
  each_to_if : (xs : List A) (n : ℕ) → (leb n (length xs) && all_to (λ i. p (get_or xs i d)) n) ≡ (leb n (length xs) && list_all p (take n xs))
  each_to_if xs n = go (leb n (length xs)) refl
    where
      go : (t : Bool) → leb n (length xs) ≡ t → (t && all_to (λ i. p (get_or xs i d)) n) ≡ (t && list_all p (take n xs))
      go true e = each_to xs n (leb-true n (length xs) e)
      go false e = refl

  -- those past the first n
  each_past : (xs : List A) (n : ℕ) → all_to (λ i. ltb i n || p (get_or xs i d)) (length xs) ≡ list_all p (drop n xs)
  each_past [] zero = all_to_none (λ i. ltb i 0 || p d)
  each_past [] (suc n) = all_to_none (λ i. ltb i (suc n) || p d)
  each_past (x ∷ xs) zero =
      all_to_more (λ i. ltb i 0 || p (get_or (x ∷ xs) i d)) (length xs)
      ∙ simp leb-suc-zero (simp leb-suc-zero at (ap (λ (t : Bool). p x && t) (each_past xs 0)))
  each_past (x ∷ xs) (suc n) =
      all_to_more (λ i. ltb i (suc n) || p (get_or (x ∷ xs) i d)) (length xs)
      ∙ simp (leb-suc-suc, lt-ltb 0 (suc n) (omega arith)) (each_past xs n)

  pub each_from : (xs : List A) (cap n : ℕ) → length xs ≡ cap → all_to (λ i. ltb i n || p (get_or xs i d)) cap ≡ list_all p (drop n xs)
  each_from xs cap n size = rw (← size) (each_past xs n)

-- ---- a test of a lane
pub notes_within_is : (edition : Edition) (leads : Bool) (xs : List Note) (n : ℕ) → notes_within edition leads xs (length xs) n ≡ (leb n (length xs) && list_all (note_within edition leads) (take n xs))
unfolding notes_within
notes_within_is edition leads = each_to_if (note_within edition leads) past_note

pub hits_within_is : (xs : List Hit) (n : ℕ) → hits_within xs (length xs) n ≡ (leb n (length xs) && list_all hit_within (take n xs))
unfolding hits_within
hits_within_is = each_to_if hit_within past_hit

pub notes_zero_is : (xs : List Note) (n : ℕ) → notes_zero xs (length xs) n ≡ list_all note_zero (drop n xs)
unfolding notes_zero
notes_zero_is = each_past note_zero past_note

pub hits_zero_is : (xs : List Hit) (n : ℕ) → hits_zero xs (length xs) n ≡ list_all hit_zero (drop n xs)
unfolding hits_zero
hits_zero_is = each_past hit_zero past_hit
