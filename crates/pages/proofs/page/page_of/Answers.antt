-- A bar that is found is one of the song's. Assumes nothing.
use mathlib.Core.Path.{sym}
use native.Mathlib.Omega.{arith}
use Rattle.pages.proofs.PageLaws.{found_below}
use Rattle.pages.proofs.page.page_of.Goals as goal

pub page_into-requires : goal.page_into-requires
page_into-requires c = omega (arith, found_below c.args.f c.args.bar _ (sym c.in-Ok.ensures))
