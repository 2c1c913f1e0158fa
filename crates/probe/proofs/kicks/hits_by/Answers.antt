-- Each call gives the hit of its place. Assumes nothing.
use Rattle.std.proofs.Common.{rules}
use Rattle.composer.specs.Note.{no_hit}
use Rattle.probe.specs.Kicks.{hit_by}
use Rattle.probe.proofs.FillLaws.{from_fn_filled}
use Rattle.probe.proofs.kicks.hits_by.Goals as goal

pub returns : goal.returns
returns c = from_fn_filled _ (hit_by c.args.words.now) _ no_hit _ (λ i y q k. search rules) 98 c.from_fn.ensures.items
