-- Each call is its definition; a drawn body has at most 6 phrases. Assumes nothing.
use Rattle.composer.proofs.form.SongLaws.{drawn_phrases_most}
use Rattle.composer.proofs.form.song.arrange.Goals as goal

pub form_of-requires : goal.form_of-requires
form_of-requires c = rw (c.decide.ensures, c.stream-s.ensures) (drawn_phrases_most c.args.seed)
