-- What the program replies is no longer than a sheet can be, and the first ten bytes of an input tell it. Assumes nothing.
use Rattle.std.proofs.Common.{◌≡◌, ℕ, ◌<◌, ◌≤◌, false, List, [], ◌++◌, ◌⊎◌, inl, inr, length, length-append, append-nil, arith}
use Rattle.std.proofs.lemmas.Bool.{cases_lt, ne_eqb}
use Rattle.composer.specs.declared.refusal.Refusal.{Refusal}
use Rattle.pages.specs.Reply.{reply_bytes}
use Rattle.pages.specs.Sheet.{sheet_asked}
use Rattle.pages.proofs.ReplyLaws.{record_most}
use Rattle.pages.specs.Edition.{sheet_most}
use Rattle.pages.specs.declared.edition.Edition.{Edition}
use Rattle.pages.proofs.SheetLaws.{sheet_most_lem}
use Rattle.paper.specs.Record.{is_record, seed_in, style_in, paper_asked}

pub paper_most : (input : List ℕ) → length (reply_bytes (paper_asked input)) ≤ sheet_most Edition.Two
unfolding paper_asked
paper_most input =
    record_most (is_record input) (sheet_asked (style_in input) (seed_in input)) Refusal.WrongLength (sheet_most Edition.Two) (omega arith) (sheet_most_lem (style_in input) (seed_in input))

-- ten bytes or more are no record, whatever they are; so with fewer, or with ten, no more need be read
pub asked_whole : (input rest : List ℕ) → (length input < 10 → rest ≡ []) → paper_asked (input ++ rest) ≡ paper_asked input
unfolding paper_asked
asked_whole input rest h = go (cases_lt (length input) 10)
  where
    longer : (xs : List ℕ) → 10 ≤ length xs → is_record xs ≡ false
    longer xs l = rw (ne_eqb (length xs) 8 (λ e. omega arith), ne_eqb (length xs) 9 (λ e. omega arith))

    go : (length input < 10) ⊎ (10 ≤ length input) → paper_asked (input ++ rest) ≡ paper_asked input
    go (inl l) = rw (h l, append-nil input)
    go (inr l) = rw (longer input l, longer (input ++ rest) (omega (arith, length-append input rest)))
