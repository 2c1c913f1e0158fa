-- The chain counts those that are in the part. Assumes nothing.
use Rattle.std.proofs.Common.{◌≡◌, refl, rules}
use Rattle.std.specs.List.{count_by}
use Rattle.pages.specs.Inner.Hits.{in_part}
use Rattle.pages.specs.Lane.{run_of}
use Rattle.pages.proofs.HitsLaws.{kept_count}
use Rattle.pages.proofs.paged.PagedSong.part_count.Goals as goal

pub returns-clause-value : goal.returns-clause-value
returns-clause-value c =
    let test = in_part c.args.part c.beat_s_of-beat_s.result in
    let hits = run_of c.args.run c.args.self.now.score.now.hits.at in
    let counted : c.count.result ≡ count_by test hits = search rules in
    rw (counted, kept_count test hits, c.beat_s_of-beat_s.ensures) refl
