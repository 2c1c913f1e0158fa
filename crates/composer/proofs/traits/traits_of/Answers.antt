-- Each call is its definition, and the draws give the song's traits. Assumes nothing.
use Rattle.composer.specs.Tempo.{tempo_draw_of}
use Rattle.composer.specs.Traits.{drawn_traits}
use Rattle.composer.specs.Voice.{lead_voice_of}
use Rattle.composer.proofs.TraitsLaws.{traits_drawn}
use Rattle.composer.proofs.traits.traits_of.Goals as goal

pub returns : goal.returns
unfolding drawn_traits tempo_draw_of lead_voice_of
returns c =
    rw (traits_drawn c.args.style c.args.seed, c.lead_voice.ensures, c.stream-vs.ensures, c.beats.ensures, c.stream-ts.ensures, c.drawn_key.ensures)
