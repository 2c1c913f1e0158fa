-- The chance decides, and each call is its definition. Assumes nothing.
use lib.Ieee.{of_bits, of_int, div, le}
use borrow.Author.Rules.{rules}
use borrow.Author.Tests.{not-false}
use Rattle.laws.specs.Lists.{list_to}
use Rattle.composer.specs.Lead.Answer.{shift_of}
use Rattle.composer.proofs.lead.answer.shift.Goals as goal

pub returns-then-not-shifts : goal.returns-then-not-shifts
unfolding shift_of
returns-then-not-shifts c = search rules

pub clamp-moved-requires : goal.clamp-moved-requires
clamp-moved-requires c = rw (c.grid_beat.ensures, c.grid_beat-2.ensures) (unfold of_bits of_int div le in tt)

pub returns : goal.returns
unfolding shift_of list_to
returns c =
    rw (← c.chance-shifts.ensures, not-false _ c.if-not-shifts.false, c.clamp-moved.ensures.value, c.grid_beat.ensures, c.grid_beat-2.ensures, c.either_way.ensures, ← c.coin-up.ensures)
