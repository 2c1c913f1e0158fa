-- Document 01's checked cases of the draws, as the first rows of its table. Definitions only.
use Rattle.std.specs.Prelude.{ℕ, List, [], ◌∷◌}
use Rattle.streams.specs.Mix.{splitmix64_of}
use Rattle.streams.specs.Stream.{unit_by}
use Rattle.streams.specs.Draw.{picked_of}

-- a row: the case's number, what the definitions give, and what the document says
pub record Case : Type 0 where
  pub number : ℕ
  pub given : List ℕ
  pub wanted : List ℕ

abbrev pub case : ℕ → List ℕ → List ℕ → Case
case n g w = record { number = n; given = g; wanted = w }

abbrev pub draw_cases : List Case
draw_cases =
    case 1 (splitmix64_of 0 ∷ []) (0 ∷ [])
    ∷ case 2 (picked_of (unit_by 13981013) 12 ∷ []) (10 ∷ [])
    ∷ case 3 (picked_of (unit_by 16777215) 12 ∷ []) (11 ∷ [])
    ∷ []
