-- 256 weights of 16 bits stay below 2^24. Assumes nothing.
use Rattle.std.proofs.Common.{ℕ, ◌*◌, ◌≤◌, length, sum, arith, rules}
use Rattle.std.proofs.lemmas.List.Elements.{All-from_get_or}
use Rattle.std.proofs.lemmas.List.Sums.{sum_by-le}
use Rattle.composer.proofs.band.total.Goals as goal

pub returns-clause-upper_bound : goal.returns-clause-upper_bound
returns-clause-upper_bound c =
    let ws = c.args.weights.now in
    let few : sum ws ≤ length ws * 65535 = sum_by-le (λ (w : ℕ). w) 65535 ws (All-from_get_or (λ (w : ℕ). w ≤ 65535) ws 0 (λ i h. omega (arith, c.type_inv.weights i))) in
    search rules
