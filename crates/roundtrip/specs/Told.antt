-- A call's refusal as a number. Definitions only.
use Rattle.std.specs.Prelude.{ℕ, Result, Ok, Err}
use Rattle.composer.specs.Refusal.{number_of}
use Rattle.composer.specs.declared.refusal.Refusal.{Refusal}

-- the number of the refusal, 0 for none
abbrev pub told_of : {A : Type 0} → Result A Refusal → ℕ
told_of (Ok x) = 0
told_of (Err r) = number_of r
