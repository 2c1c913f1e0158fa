-- What is written is no longer than what was asked, and so no longer than a sheet, a page or a list can be.
-- Assumes nothing.
use mathlib.Core.List.{List}
use Prim.Native.Nat.{ℕ, ◌^◌, ◌<◌}
use native.Mathlib.Omega.{arith}
use Rattle.editions.specs.Convert.{convert_asked}
use Rattle.editions.proofs.ConvertLaws.{convert_most}
use Rattle.halls.specs.List.{list_asked}
use Rattle.halls.proofs.ListLaws.{list_most}
use Rattle.pages.specs.Answer.{written_of, written_count}
use Rattle.pages.specs.Page.{page_asked}
use Rattle.pages.specs.Sheet.{sheet_asked}
use Rattle.pages.specs.declared.edition.Edition.{Edition}
use Rattle.pages.proofs.AnswerLaws.{count_most}
use Rattle.pages.proofs.PageLaws.{page_most_lem}
use Rattle.pages.proofs.SheetLaws.{sheet_most_lem, edition_most}
use Rattle.reader.specs.Read.{reread_asked}
use Rattle.reader.proofs.MostLaws.{reread_most}

-- whatever is asked, its length is a number of C's
pub sheet_count : (room style seed : ℕ) → written_count (written_of room (sheet_asked style seed)) < 2 ^ 63
sheet_count room style seed = omega (arith, count_most room (sheet_asked style seed), sheet_most_lem style seed)

pub page_count : (room style seed b : ℕ) → written_count (written_of room (page_asked style seed b)) < 2 ^ 63
page_count room style seed b = omega (arith, count_most room (page_asked style seed b), page_most_lem style seed b)

pub list_count : (room hall n : ℕ) → written_count (written_of room (list_asked hall n)) < 2 ^ 63
list_count room hall n = omega (arith, count_most room (list_asked hall n), list_most hall n)

pub reread_count : (room : ℕ) (bytes : List ℕ) → written_count (written_of room (reread_asked bytes)) < 2 ^ 63
reread_count room bytes = omega (arith, count_most room (reread_asked bytes), reread_most bytes)

pub convert_count : (room : ℕ) (wanted : Edition) (sheet : List ℕ) → written_count (written_of room (convert_asked wanted sheet)) < 2 ^ 63
convert_count room wanted sheet = omega (arith, count_most room (convert_asked wanted sheet), convert_most wanted sheet, edition_most wanted)
