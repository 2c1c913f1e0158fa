-- What an answer in the documents' words says of the result. Assumes nothing.
use mathlib.Core.Path.{◌≡◌}
use Rattle.std.proofs.Common.{Result, Ok, Err}
use Rattle.composer.specs.Refusal.{Gives, answered}
use Rattle.composer.specs.declared.refusal.Refusal.{Refusal}

pub gives_ok : {A : Type 0} (o : Result A Refusal) (x : A) → answered o ≡ Gives x → o ≡ Ok x
gives_ok (Ok y) x e = cc
gives_ok (Err r) x e = cc
