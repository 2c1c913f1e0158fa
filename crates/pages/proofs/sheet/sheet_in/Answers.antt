-- The song is what composing gives, and composing promises what its sheet asks for. Assumes nothing.
use Rattle.composer.proofs.ComposeLaws.{done_promise}
use Rattle.pages.specs.Sheet.{sheet_in}
use Rattle.pages.proofs.sheet.sheet_in.Goals as goal

pub composed_into-requires : goal.composed_into-requires
composed_into-requires c =
    rw c.compose-song.ensures (done_promise c.args.style c.args.seed)

pub returns : goal.returns
unfolding sheet_in
returns c = rw (← c.compose-song.ensures) c.composed_into.ensures
