-- What is refused whatever the songs are, in its order, and what is known where nothing is. Assumes nothing.
use mathlib.Core.Path.{◌≡◌, refl}
use mathlib.Core.Bool.{Bool, true, false, cond}
use Prim.Native.Nat.{ℕ, ◌≤◌, ◌<◌}
use native.Mathlib.Omega.{arith}
use borrow.Author.Tests.{ltb-false, lt-ltb, le-ltb}
use lib.Dec.{ltb}
use Rattle.composer.specs.declared.refusal.Refusal.{Refusal}
use Rattle.lessons.specs.Lesson.{is_no_span, lesson_checked}
use Rattle.lessons.specs.Promise.{SeedSpan}
use Rattle.lessons.specs.Wishes.{is_unknown}
use Rattle.lessons.specs.declared.wishes.Wishes.{Wishes}
use Rattle.lessons.proofs.SeedSpanLaws.{seeds_told}
use Rattle.std.proofs.Common.{Result, Ok, Err}

pub not_done : (r : Refusal) → ◌≡◌ {A = Result (Unit {0}) Refusal} (Err r) (Ok tt) → ⊥
not_done r e = let z : ◌≡◌ {A = ℕ} 0 1 = cc in omega arith

module _ (style start count : ℕ) (w : Wishes) where
  pub by_style : 1 < style → lesson_checked style start count w ≡ Err Refusal.UnknownStyle
  by_style h = rw (lt-ltb 1 style h)

  pub by_span : style ≤ 1 → is_no_span start count ≡ true → lesson_checked style start count w ≡ Err Refusal.LessonSpan
  by_span h s = rw (le-ltb 1 style h, s)

  pub by_wish : style ≤ 1 → is_no_span start count ≡ false → is_unknown w ≡ true → lesson_checked style start count w ≡ Err Refusal.LessonWish
  by_wish h s u = rw (le-ltb 1 style h, s, u)

  pub by_none : style ≤ 1 → is_no_span start count ≡ false → is_unknown w ≡ false → lesson_checked style start count w ≡ Ok tt
  by_none h s u = rw (le-ltb 1 style h, s, u)

-- where nothing is refused, the style is known and the span is one
pub done_told : (style start count : ℕ) (w : Wishes) → lesson_checked style start count w ≡ Ok tt → (style < 2) × SeedSpan start count
done_told style start count w e = go (ltb 1 style) (is_no_span start count) (is_unknown w) refl refl e
  where
    go : (a b c : Bool) → ltb 1 style ≡ a → is_no_span start count ≡ b
        → ◌≡◌ {A = Result (Unit {0}) Refusal} (cond a (Err Refusal.UnknownStyle) (cond b (Err Refusal.LessonSpan) (cond c (Err Refusal.LessonWish) (Ok tt)))) (Ok tt)
        → (style < 2) × SeedSpan start count
    go true b c p q d = absurd (not_done Refusal.UnknownStyle d)
    go false true c p q d = absurd (not_done Refusal.LessonSpan d)
    go false false true p q d = absurd (not_done Refusal.LessonWish d)
    go false false false p q d = (omega (arith, ltb-false 1 style p), seeds_told start count q)
