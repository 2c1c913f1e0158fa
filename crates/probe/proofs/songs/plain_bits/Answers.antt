-- A plain number is no NaN. Assumes nothing.
use Rattle.laws.proofs.Bounds.{nonneg_finite, no_nan}
use Rattle.probe.proofs.songs.plain_bits.Goals as goal

pub float_to_bits-result : goal.float_to_bits-result
float_to_bits-result c = no_nan c.args.x (nonneg_finite c.args.x c.requires)
