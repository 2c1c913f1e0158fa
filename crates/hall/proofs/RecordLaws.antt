-- What the program replies is no longer than a list can be, and the first eleven bytes of an input tell it. Assumes nothing.
use Rattle.std.proofs.Common.{◌≡◌, ℕ, ◌<◌, ◌≤◌, eqb, List, [], ◌++◌, ◌⊎◌, inl, inr, length, length-append, append-nil, arith}
use Rattle.std.proofs.lemmas.Bool.{cases_lt, ne_eqb}
use Rattle.composer.specs.declared.refusal.Refusal.{Refusal}
use Rattle.halls.specs.List.{list_asked}
use Rattle.halls.proofs.ListLaws.{list_most}
use Rattle.pages.specs.Bytes.{be16_at, be64_at}
use Rattle.pages.specs.Reply.{reply_bytes}
use Rattle.pages.proofs.ReplyLaws.{record_most}
use Rattle.hall.specs.Record.{hall_asked}

pub hall_most : (input : List ℕ) → length (reply_bytes (hall_asked input)) ≤ 32768
unfolding hall_asked
hall_most input =
    record_most (eqb (length input) 10) (list_asked (be64_at input 0) (be16_at input 8)) Refusal.WrongLength 32768 (omega arith) (list_most (be64_at input 0) (be16_at input 8))

-- eleven bytes or more are no record, whatever they are; so with fewer, or with eleven, no more need be read
pub asked_whole : (input rest : List ℕ) → (length input < 11 → rest ≡ []) → hall_asked (input ++ rest) ≡ hall_asked input
unfolding hall_asked
asked_whole input rest h = go (cases_lt (length input) 11)
  where
    go : (length input < 11) ⊎ (11 ≤ length input) → hall_asked (input ++ rest) ≡ hall_asked input
    go (inl l) = rw (h l, append-nil input)
    go (inr l) = rw (ne_eqb (length input) 10 (λ e. omega arith), ne_eqb (length (input ++ rest)) 10 (λ e. omega (arith, length-append input rest)))
