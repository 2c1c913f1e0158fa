-- The four lanes, one after the other. Assumes nothing.
use mathlib.Core.Path.{refl}
use native.Mathlib.Omega.{arith}
use Rattle.laws.proofs.Writes.{wrote_then, wrote_as}
use Rattle.pages.specs.Sheet.{lanes_bytes}
use Rattle.pages.proofs.contents.Contents.put_lanes.Goals as goal

pub returns : goal.returns
unfolding lanes_bytes
returns c = wrote_as (omega arith) refl (wrote_then c.put_lane-a.ensures (wrote_then c.put_lane-b.ensures (wrote_then c.put_lane-c.ensures c.put_lane.ensures)))
