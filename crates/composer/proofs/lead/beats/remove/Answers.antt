-- The two copies are what is left of the list, and zeros stand behind them. Assumes nothing.
use Rattle.std.proofs.Common.{◌≡◌, refl, length, arith, rules}
use Rattle.composer.proofs.lead.BeatsLaws.{copied, length_left}
use Rattle.composer.proofs.lead.beats.remove.Goals as goal

pub returns-clause-value : goal.returns-clause-value
returns-clause-value c =
    let a = c.args.b.at in
    let k = c.args.k in
    let n = c.args.b.n in
    let size : length a ≡ 7 = search rules in
    rw (length_left a k n (omega arith) size (omega arith), ← copied a k n (omega arith) size (omega arith) _ refl, c.copy_from_slice-2.ensures.after, c.copy_from_slice.ensures.after)
