-- Each call is its definition; the parts are at most 8, 48 and 8 bars. Assumes nothing.
use native.Mathlib.Omega.{arith}
use Rattle.composer.specs.Form.Song.{form_of}
use Rattle.composer.proofs.form.EndsLaws.{end_bars_le, outro_length_le}
use Rattle.composer.proofs.form.song.form_of.Goals as goal

pub overflow_add-bars : goal.overflow_add-bars
overflow_add-bars c = omega (arith, c.bars-n.ensures, end_bars_le c.intro_of-intro.result)

pub overflow_add-bars-2 : goal.overflow_add-bars-2
overflow_add-bars-2 c =
    omega (arith, c.bars-n.ensures, end_bars_le c.intro_of-intro.result, c.bars.ensures, outro_length_le c.outro_of-outro.result)

pub song_plays-plays-requires : goal.song_plays-plays-requires
song_plays-plays-requires c =
    omega (arith, c.bars-n.ensures, end_bars_le c.intro_of-intro.result, c.bars.ensures, outro_length_le c.outro_of-outro.result)

pub returns : goal.returns
unfolding form_of
returns c =
    rw (c.cut_heard-cut.ensures, c.song_plays-plays.ensures, c.bars.ensures, c.bars-n.ensures, c.outro_of-outro.ensures, c.intro_of-intro.ensures)
