-- What each record means, by how many bytes it has. Definitions only.
use Rattle.std.specs.Prelude.{◌≡◌, List, [], ◌∷◌, ◌++◌, ℕ, length}
use Rattle.composer.specs.declared.refusal.Refusal.{Refusal}
use Rattle.composer.specs.declared.style.Style.{Style}
use Rattle.pages.specs.Answer.{Writes, Declines}
use Rattle.pages.specs.Bytes.{byte_at, be64_at}
use Rattle.pages.specs.Demand3.{sheet_for}
use Rattle.pages.specs.Sheet.{sheet_asked}
use Rattle.paper.specs.Record.{paper_asked}

pub record PaperPromise (input : List ℕ) : Type 0 where
  -- nine bytes name seed and style, and no default has a part in what they get
  pub nine : length input ≡ 9 → paper_asked input ≡ sheet_asked (byte_at input 8) (be64_at input 0)
  -- eight bytes get what they would get with style 0 as the ninth
  pub eight : length input ≡ 8 → paper_asked input ≡ paper_asked (input ++ (0 ∷ []))
  -- so they are never refused: they get the sheet of their seed in hiphop
  pub served : length input ≡ 8 → paper_asked input ≡ Writes (sheet_for Style.Hiphop (be64_at input 0))
  -- any other number of bytes is refused with 5
  pub other : (length input ≡ 8 → ⊥) → (length input ≡ 9 → ⊥) → paper_asked input ≡ Declines Refusal.WrongLength
