-- What is left to find from a distance and a side on is the answer; the first hit leaves both loops. Assumes nothing.
use Rattle.std.proofs.Common.{◌≡◌, ◌-◌}
use Rattle.composer.specs.Lead.Scale.{snap_from, snapped_of}
use Rattle.composer.proofs.lead.ScaleLaws.{ahead}
use Rattle.composer.proofs.lead.scale.snapped.Given as goal

abbrev pub invariant-loop-side : goal.invariant-loop-side
invariant-loop-side l = record { out : l.out ≡ l.lo; rest : snapped_of l.pool l.lo l.hi l.n ≡ ahead l.pool l.lo l.hi l.n l.d l.side }

abbrev pub invariant-search : goal.invariant-search
invariant-search l = record { out : l.out ≡ l.lo; rest : snapped_of l.pool l.lo l.hi l.n ≡ snap_from l.pool l.lo l.hi l.n l.d (7 - l.d) }
