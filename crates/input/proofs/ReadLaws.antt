-- What was read is all of the input, or the front of it. Assumes nothing.
use Rattle.std.proofs.Common.{ℕ, List, [], ◌≡◌, ◌++◌, Option, Some, None, IfSome, Result, Ok, Err, OnOk, sym, subst}
use Rattle.std.specs.Io.KnownBytes.{Consumes, IsAtEnd}

-- what holds of what was read, whatever is left behind it, holds of the input; where Q holds, nothing is left
pub read_whole : {V E Q : Type 0} (r : Result V E) (old new : Option (List ℕ)) (front : List ℕ) (P : List ℕ → Type 0) → Consumes old new front
    → OnOk r (Q → IsAtEnd new) → ((rest : List ℕ) → (Q → rest ≡ []) → P (front ++ rest)) → OnOk r (IfSome old P)
read_whole (Err e) old new front P p q h = tt
read_whole (Ok v) None new front P p q h = tt
read_whole (Ok v) (Some xs) None front P p q h = absurd p
read_whole (Ok v) (Some xs) (Some rest) front P p q h = subst P (sym p) (h rest q)
