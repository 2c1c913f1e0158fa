-- The events in use are finite. Assumes nothing.
use Rattle.composer.specs.Note.{past_note, past_hit}
use Rattle.pages.specs.Writable.{FiniteNote, FiniteHit}
use Rattle.pages.proofs.LaneLaws.{each_taken}
use Rattle.pages.proofs.lane.put_events.Goals as goal

pub put_each-requires-clause-finite : goal.put_each-requires-clause-finite
put_each-requires-clause-finite c = rw c.used.ensures.value (each_taken FiniteNote past_note c.args.s.now.lead.at c.args.s.now.lead.n c.requires.writable.numbers.lead)

pub put_each-requires-in-Keys-clause-finite : goal.put_each-requires-in-Keys-clause-finite
put_each-requires-in-Keys-clause-finite c = rw c.used-in-Keys.ensures.value (each_taken FiniteNote past_note c.args.s.now.keys.at c.args.s.now.keys.n c.requires.writable.numbers.keys)

pub put_each-requires-in-Hits-clause-finite : goal.put_each-requires-in-Hits-clause-finite
put_each-requires-in-Hits-clause-finite c = rw c.used-in-Hits.ensures.value (each_taken FiniteHit past_hit c.args.s.now.hits.at c.args.s.now.hits.n c.requires.writable.numbers.hits)

pub put_each-requires-in-Bass-clause-finite : goal.put_each-requires-in-Bass-clause-finite
put_each-requires-in-Bass-clause-finite c = rw c.used-in-Bass.ensures.value (each_taken FiniteNote past_note c.args.s.now.bass.at c.args.s.now.bass.n c.requires.writable.numbers.bass)
