-- Answers as C takes them. Definitions only.
use Rattle.std.specs.Prelude.{ℕ, ℤ, pos, neg_ℤ, Result, Ok, Err}
use Rattle.composer.specs.Refusal.{number_of}
use Rattle.composer.specs.declared.refusal.Refusal.{Refusal}

-- minus the refusal's number
abbrev pub refusal_code : Refusal → ℤ
refusal_code r = neg_ℤ (pos (number_of r))

-- the length, or that
abbrev pub code_of : Result ℕ Refusal → ℤ
code_of (Ok n) = pos n
code_of (Err r) = refusal_code r
