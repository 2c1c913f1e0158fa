-- One case for each lane. Assumes nothing.
use Rattle.composer.specs.Note.{note_bar, hit_bar}
use Rattle.pages.proofs.LaneLaws.{never_fall}
use Rattle.pages.proofs.paged.PagedSong.bar_run.Goals as goal

pub run_of_bar-requires : goal.run_of_bar-requires
run_of_bar-requires c = rw c.used.ensures.value (never_fall note_bar c.args.self.now.score.now.lead.at c.args.self.now.score.now.lead.n c.args.self.now.paged.lanes.lead)

pub run_of_bar-requires-in-Keys : goal.run_of_bar-requires-in-Keys
run_of_bar-requires-in-Keys c = rw c.used-in-Keys.ensures.value (never_fall note_bar c.args.self.now.score.now.keys.at c.args.self.now.score.now.keys.n c.args.self.now.paged.lanes.keys)

pub run_of_bar-requires-in-Hits : goal.run_of_bar-requires-in-Hits
run_of_bar-requires-in-Hits c = rw c.used-in-Hits.ensures.value (never_fall hit_bar c.args.self.now.score.now.hits.at c.args.self.now.score.now.hits.n c.args.self.now.paged.lanes.hits)

pub run_of_bar-requires-in-Bass : goal.run_of_bar-requires-in-Bass
run_of_bar-requires-in-Bass c = rw c.used-in-Bass.ensures.value (never_fall note_bar c.args.self.now.score.now.bass.at c.args.self.now.score.now.bass.n c.args.self.now.paged.lanes.bass)
