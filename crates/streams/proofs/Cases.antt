-- The checked cases of the draws hold: every row's two sides compute to the same numbers. Assumes nothing.
use Rattle.std.proofs.Common.{◌≡◌, map, refl}
use Rattle.streams.specs.Mix.{splitmix64_of}
use Rattle.streams.specs.Stream.{unit_by}
use Rattle.streams.specs.Draw.{picked_of}
use Rattle.streams.specs.Cases.{draw_cases}

pub draws_checked : map (λ c. c.given) draw_cases ≡ map (λ c. c.wanted) draw_cases
unfolding splitmix64_of unit_by picked_of
draws_checked = refl
