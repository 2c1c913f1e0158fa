-- The sum wraps once where the code wraps the product and the sum. Assumes nothing.
use Rattle.std.proofs.Common.{◌≡◌, ◌+◌, ◌*◌, ◌%◌, ◌^◌, ap, ◌∙◌, arith}
use Rattle.streams.specs.Mix.{splitmix64_of, splitmix_draw_of, golden_gamma}
use Rattle.streams.proofs.mix.splitmix_draw.Goals as goal

pub returns : goal.returns
unfolding splitmix_draw_of
returns c =
    let s = c.args in
    let e : (s.seed + c.wrapping_mul_u64-g.result) % 2 ^ 64 ≡ (s.seed + s.n * golden_gamma) % 2 ^ 64 = omega (arith, c.wrapping_mul_u64-g.ensures) in
    c.splitmix64.ensures ∙ ap splitmix64_of e
