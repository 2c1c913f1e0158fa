-- A seed for a lesson: what a call may answer. Definitions only.
use Rattle.std.specs.Prelude.{◌≡◌, Bool, cond, ◌||◌, ℕ, ◌+◌, ◌-◌, ◌^◌, ◌≤◌, ◌<◌, ltb, Result, Ok, Err, IsOkAnd}
use Rattle.composer.specs.Compose.{compose_of}
use Rattle.composer.specs.Refusal.{Answer, Gives, Refuses, answered}
use Rattle.composer.specs.declared.refusal.Refusal.{Refusal}
use Rattle.lessons.specs.Wishes.{Has, is_unknown}
use Rattle.lessons.specs.declared.wishes.Wishes.{Wishes}

-- no span: of 0 or more than 65,536 seeds, or with its last seed past the largest
unfoldable pub is_no_span : ℕ → ℕ → Bool
is_no_span start count = ltb count 1 || ltb 65536 count || ltb (2 ^ 64 - 1) (start + count - 1)

-- what is refused whatever the songs are: 1, then 10, then 11
abbrev pub lesson_checked : ℕ → ℕ → ℕ → Wishes → Result (Unit {0}) Refusal
lesson_checked style start count w =
    cond (ltb 1 style) (Err Refusal.UnknownStyle)
    (cond (is_no_span start count) (Err Refusal.LessonSpan)
    (cond (is_unknown w) (Err Refusal.LessonWish)
    (Ok tt)))

-- ---- what is left to the program: which of the seeds that fit is given
-- one of the `count` seeds from `start` on
pub record InSpan (start count seed : ℕ) : Type 0 where
  pub from : start ≤ seed
  pub to : seed < start + count

abbrev pub NoneFits : (ℕ → Type 0) → ℕ → ℕ → Type 0
NoneFits Fits start count = (seed : ℕ) → InSpan start count seed → Fits seed → ⊥

-- some seed of the span that fits, or 12, and then none of them does
abbrev pub Found : (ℕ → Type 0) → ℕ → ℕ → Answer ℕ → Type 0
Found Fits start count (Gives seed) = InSpan start count seed × Fits seed
Found Fits start count (Refuses n) = (n ≡ 12) × NoneFits Fits start count

-- ---- the answers
-- the song that `compose` gives for the style and the seed has what is wished
abbrev pub Suits : ℕ → Wishes → ℕ → Type 0
Suits style w seed = IsOkAnd (compose_of style seed) (Has w)

-- the refusals come first
abbrev pub AllowedBy : Result (Unit {0}) Refusal → (ℕ → Type 0) → ℕ → ℕ → Result ℕ Refusal → Type 0
AllowedBy (Ok u) Fits start count x = Found Fits start count (answered x)
AllowedBy (Err r) Fits start count x = x ≡ Err r

-- those that a call may give
abbrev pub LessonAllowed : ℕ → ℕ → ℕ → Wishes → Result ℕ Refusal → Type 0
LessonAllowed style start count w x = AllowedBy (lesson_checked style start count w) (Suits style w) start count x
