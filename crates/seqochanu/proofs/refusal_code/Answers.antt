-- Minus a byte fits. Assumes nothing.
use native.Mathlib.Omega.{arith}
use Rattle.laws.proofs.Signed.{minus_fits, minus_reads}
use Rattle.seqochanu.proofs.refusal_code.Goals as goal

pub overflow_sub-result : goal.overflow_sub-result
overflow_sub-result c = minus_fits c.number.result (omega (arith, c.number.type_inv))

pub returns : goal.returns
returns c = rw (← c.number.ensures) (minus_reads c.number.result (omega (arith, c.number.type_inv)))
