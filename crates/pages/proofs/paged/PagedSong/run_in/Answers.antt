-- A bar's run stands in its lane. Assumes nothing.
use Rattle.pages.proofs.LaneLaws.{run_within}
use Rattle.pages.proofs.paged.PagedSong.run_in.Goals as goal

pub returns-then-on-clause-in_lane : goal.returns-then-on-clause-in_lane
returns-then-on-clause-in_lane c = rw c.bar_run.ensures (run_within c.args.self.now.score.now c.args.self.now.paged.lanes c.args.lane c.args.bar)
