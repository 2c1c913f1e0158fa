-- What the array of draws decides is what the draws decide by number. Assumes nothing.
use borrow.Author.Rules.{rules}
use Rattle.composer.specs.Form.Decisions.{draw_all_of, decide_of}
use Rattle.composer.proofs.form.DecisionsLaws.{by_number}
use Rattle.composer.proofs.form.decisions.decide.Goals as goal

pub returns : goal.returns
unfolding decide_of draw_all_of
returns c = rw (← by_number c.args.s) (search rules)
