-- The forms of the seeds so far are tested. Assumes nothing.
use Rattle.std.proofs.Common.{arith}
use Rattle.std.proofs.lemmas.Grind.{common_steps}
use Rattle.composer.specs.Form.Spans.{spans_of}
use Rattle.composer.proofs.form.SongLaws.{arranged_bars}
use Rattle.composer.proofs.form.spans.spans.Goals as goal

pub mutes_any-mutes-requires : goal.mutes_any-mutes-requires
mutes_any-mutes-requires c = rw c.arrange-f.ensures (arranged_bars _)

pub returns : goal.returns
unfolding spans_of
returns c = grind (arith, common_steps)
