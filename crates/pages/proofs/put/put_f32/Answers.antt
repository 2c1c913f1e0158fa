-- A finite number is no NaN, and the number that is written is its bits. Assumes nothing.
use Rattle.laws.proofs.Bounds.{no_nan}
use Rattle.pages.proofs.put.put_f32.Goals as goal

pub float_to_bits-x : goal.float_to_bits-x
float_to_bits-x c = no_nan c.args.x c.requires.finite
