-- What every answer that a call may give is, in numbers. Definitions only.
use Rattle.std.specs.Prelude.{◌≡◌, ◌⊎◌, ℕ, ◌+◌, ◌^◌, ◌≤◌, ◌<◌, Result}
use Rattle.composer.specs.Refusal.{Refuses, answered}
use Rattle.lessons.specs.Lesson.{NoneFits, Found, Suits}
use Rattle.lessons.specs.declared.wishes.Wishes.{Wishes}
use Rattle.composer.specs.declared.refusal.Refusal.{Refusal}

-- 1 to 65,536 seeds, the last of them at most 2^64 - 1
pub record SeedSpan (start count : ℕ) : Type 0 where
  pub least : 1 ≤ count
  pub most : count ≤ 65536
  pub last : start + count ≤ 2 ^ 64

-- every wish is a code
pub record Known (w : Wishes) : Type 0 where
  pub key : w.key ≤ 12
  pub voice : (w.voice ≤ 3) ⊎ (w.voice ≡ 255)

pub record LessonAnswers (style start count : ℕ) (w : Wishes) (x : Result ℕ Refusal) : Type 0 where
  -- 1, whatever else is wrong
  pub no_style : 2 ≤ style → answered x ≡ Refuses 1
  -- then 10: a count out of range, or a span past the largest seed
  pub none : style < 2 → count ≡ 0 → answered x ≡ Refuses 10
  pub many : style < 2 → 65536 < count → answered x ≡ Refuses 10
  pub past : style < 2 → 1 ≤ count → 2 ^ 64 < start + count → answered x ≡ Refuses 10
  -- then 11: a wish outside the codes
  pub key : style < 2 → SeedSpan start count → 12 < w.key → answered x ≡ Refuses 11
  pub voice : style < 2 → SeedSpan start count → 3 < w.voice → (w.voice ≡ 255 → ⊥) → answered x ≡ Refuses 11
  -- else some seed of the span which has all three, or 12, and then no seed has them
  pub found : style < 2 → SeedSpan start count → Known w → Found (Suits style w) start count (answered x)
  -- so 12 exactly if no seed of the span has them
  pub unfound : style < 2 → SeedSpan start count → Known w
      → (answered x ≡ Refuses 12 → NoneFits (Suits style w) start count) × (NoneFits (Suits style w) start count → answered x ≡ Refuses 12)
