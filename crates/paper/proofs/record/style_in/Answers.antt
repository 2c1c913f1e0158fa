-- Past the end of the record stands the default. Assumes nothing.
use mathlib.Core.Path.{sym}
use lib.ListN.{get_or-eq_default}
use Rattle.laws.proofs.Lists.{get_d_any}
use Rattle.paper.specs.Record.{default_style}
use Rattle.paper.proofs.record.style_in.Goals as goal

pub returns-then-input-gt8 : goal.returns-then-input-gt8
returns-then-input-gt8 c = get_d_any c.args.input.now 8 0 default_style c.if-input-gt8.true

pub returns-else-input-gt8 : goal.returns-else-input-gt8
returns-else-input-gt8 c = sym (get_or-eq_default c.args.input.now default_style c.if-input-gt8.false)
