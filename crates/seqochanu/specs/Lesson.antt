-- A seed for a lesson as C gets it: a code, and a number that is lent. Definitions only.
use Rattle.std.specs.Prelude.{◌≡◌, ℕ, ℤ, pos, Result, Ok, Err}
use Rattle.lessons.specs.Lesson.{LessonAllowed}
use Rattle.lessons.specs.declared.wishes.Wishes.{Wishes}
use Rattle.seqochanu.specs.Code.{refusal_code}
use Rattle.composer.specs.declared.refusal.Refusal.{Refusal}

abbrev pub wishes_of : ℕ → ℕ → ℕ → Wishes
wishes_of key tempo voice = record { key = key; tempo = tempo; voice = voice }

-- 0, or minus the refusal's number
abbrev pub lesson_code : Result ℕ Refusal → ℤ
lesson_code (Ok seed) = pos 0
lesson_code (Err r) = refusal_code r

-- the number that is lent, afterwards: the seed, or what stood there
abbrev pub seed_after : ℕ → Result ℕ Refusal → ℕ
seed_after old (Ok seed) = seed
seed_after old (Err r) = old

-- the call answers `code` and turns the number `old` into `new`: both tell one and the same answer, which is allowed
pub record LessonCalled (style start count : ℕ) (w : Wishes) (old new : ℕ) (code : ℤ) : Type 0 where
  pub answer : Result ℕ Refusal
  pub allowed : LessonAllowed style start count w answer
  pub coded : code ≡ lesson_code answer
  pub lent : new ≡ seed_after old answer
