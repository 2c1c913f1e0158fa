-- Each call is its definition. Assumes nothing.
use Rattle.composer.specs.Lead.Answer.{answer_bar_of}
use Rattle.composer.proofs.lead.answer.answer_bar.Goals as goal

pub returns : goal.returns
unfolding answer_bar_of
returns c =
    record { value = rw (← c.varied.ensures.value, ← c.drop_one-left.ensures.value, c.settle.ensures.value); n_bound = c.settle.ensures.n_bound }
