-- The n bars from a on play all. Assumes nothing.
use Rattle.std.proofs.Common.{◌≡◌, ◌+◌, ◌-◌, length, take, drop, arith, rules, length-take, length-drop}
use Rattle.std.proofs.lemmas.List.{length-replicate, drop-drop}
use Rattle.laws.specs.Lists.{splice}
use Rattle.composer.specs.Form.Plays.{all}
use Rattle.composer.proofs.form.ask.fill.Goals as goal

pub returns : goal.returns
unfolding splice
returns c =
    let a = c.args.a in
    let k = a + c.args.n - a in
    let size : length c.args.plays ≡ 64 = search rules in
    let same : k ≡ c.args.n = omega arith in
    let n : length (take k (drop a c.args.plays)) ≡ c.args.n = omega (arith, length-take k (drop a c.args.plays), length-drop a c.args.plays) in
    let is = rw n at c.fill.ensures.after (λ y e. e) in
    rw (is, same, length-replicate c.args.n all, drop-drop)
