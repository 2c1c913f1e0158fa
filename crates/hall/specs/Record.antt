-- A record of standard input, and what the program has to write for it. Definitions only.
use Rattle.std.specs.Prelude.{cond, List, ℕ, eqb, length}
use Rattle.composer.specs.declared.refusal.Refusal.{Refusal}
use Rattle.halls.specs.List.{list_asked}
use Rattle.pages.specs.Answer.{Asked, Declines}
use Rattle.pages.specs.Bytes.{be16_at, be64_at}

-- 8 bytes of hall number and 2 of count; refusal 5 comes before the list's own
unfoldable pub hall_asked : List ℕ → Asked
hall_asked input = cond (eqb (length input) 10) (list_asked (be64_at input 0) (be16_at input 8)) (Declines Refusal.WrongLength)
