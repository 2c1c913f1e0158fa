-- The numbers of refusals, by documents 01 and 02, and what an answer then is: a value, or a number alone.
-- Definitions only.
use Rattle.std.specs.Prelude.{ℕ, Result, Ok, Err}
use Rattle.composer.specs.declared.refusal.Refusal.{Refusal}

abbrev pub number_of : Refusal → ℕ
number_of Refusal.UnknownStyle = 1
number_of Refusal.ShortBuffer = 2
number_of Refusal.NoSuchBar = 3
number_of Refusal.Malformed = 4
number_of Refusal.WrongLength = 5
number_of Refusal.HallCount = 6
number_of Refusal.SheetFields = 7
number_of Refusal.SheetValues = 8
number_of Refusal.OtherSong = 9
number_of Refusal.LessonSpan = 10
number_of Refusal.LessonWish = 11
number_of Refusal.NoSeed = 12

pub data Answer (A : Type 0) : Type 0 where
  Gives : A → Answer A
  Refuses : ℕ → Answer A

-- the answer of a call as the documents have it
abbrev pub answered : {A : Type 0} → Result A Refusal → Answer A
answered (Ok x) = Gives x
answered (Err r) = Refuses (number_of r)
