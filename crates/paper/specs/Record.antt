-- A record of standard input, and what the program has to write for it. Definitions only.
use Rattle.std.specs.Prelude.{Bool, cond, ◌||◌, List, ℕ, eqb, length, get_or}
use Rattle.composer.specs.declared.refusal.Refusal.{Refusal}
use Rattle.pages.specs.Answer.{Asked, Declines}
use Rattle.pages.specs.Bytes.{be64_at}
use Rattle.pages.specs.Sheet.{sheet_asked}

-- the style of a record that names none
abbrev pub default_style : ℕ
default_style = 0

abbrev pub is_record : List ℕ → Bool
is_record input = eqb (length input) 8 || eqb (length input) 9

-- 8 seed bytes
abbrev pub seed_in : List ℕ → ℕ
seed_in input = be64_at input 0

-- an optional style byte
abbrev pub style_in : List ℕ → ℕ
style_in input = get_or input 8 default_style

-- refusal 5 comes before the sheet's own
unfoldable pub paper_asked : List ℕ → Asked
paper_asked input = cond (is_record input) (sheet_asked (style_in input) (seed_in input)) (Declines Refusal.WrongLength)
