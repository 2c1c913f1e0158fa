-- The checked cases hold: every row's two sides compute to the same numbers. Assumes nothing.
use mathlib.Core.Path.{◌≡◌, refl, ap}
use mathlib.Core.List.{List, map, ◌++◌}
use Prim.Native.Nat.{ℕ}
use lib.Ieee.{of_bits, to_bits}
use Rattle.laws.specs.Floats.{round_of}
use Rattle.laws.specs.Lists.{list_to, pad}
use Rattle.laws.specs.Sorts.{insert, sort}
use Rattle.streams.proofs.Cases.{draws_checked}
use Rattle.composer.specs.Form.Body.{cut_heard, body_bar_of}
use Rattle.composer.specs.Lead.Beats.{near_of, thin_of, settled}
use Rattle.composer.specs.Lead.Rhythm.{fallback_of}
use Rattle.composer.specs.Lead.Scale.{has_of, fits_of, snap_from, snapped_of}
use Rattle.composer.specs.Lead.Tones.{nearest_of}
use Rattle.composer.specs.Cases.{composer_cases, checked_cases, pickup_row}

pub checked : map (λ c. c.given) checked_cases ≡ map (λ c. c.wanted) checked_cases
unfolding settled sort insert thin_of near_of snapped_of snap_from fits_of has_of list_to nearest_of round_of fallback_of pad body_bar_of cut_heard of_bits to_bits
checked = ap (λ (rows : List (List ℕ)). rows ++ map (λ c. c.wanted) composer_cases) draws_checked

pub pickup_reaches : pickup_row.given ≡ pickup_row.wanted
pickup_reaches = refl
