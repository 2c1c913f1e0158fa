-- The draws take the counter from 0 to 29. Assumes nothing.
use mathlib.Core.Path.{◌≡◌, ◌∙◌}
use Rattle.composer.proofs.form.DecisionsLaws.{decide_counter}
use Rattle.probe.specs.Forms.{counter_of}
use Rattle.probe.proofs.forms.probe_form_counter.Goals as goal

pub returns : goal.returns
returns c =
    let seed = c.args.seed in
    let e : c.decide.result.stream.counter ≡ counter_of seed = rw (c.decide.ensures, c.stream-s.ensures) in
    record { value = e; draws = e ∙ decide_counter seed }
