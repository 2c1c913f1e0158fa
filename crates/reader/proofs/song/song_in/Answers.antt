-- What is within has its score within. Assumes nothing.
use Rattle.reader.specs.Song.{song_in}
use Rattle.reader.proofs.TestedLaws.{within_told}
use Rattle.reader.proofs.song.song_in.Goals as goal

pub score_in-requires : goal.score_in-requires
unfolding song_in
score_in-requires c = (within_told (song_in c.args.formed.now.fields.bytes.now) c.requires).0
