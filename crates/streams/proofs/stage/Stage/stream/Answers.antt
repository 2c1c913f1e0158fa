-- Each call's result is its definition's. Assumes nothing.
use Rattle.std.proofs.Common.{ℕ, ap, ◌∙◌}
use Rattle.streams.specs.Mix.{splitmix_draw_of}
use Rattle.streams.specs.Stream.{new_of}
use Rattle.streams.specs.Stage.{stream_of}
use Rattle.streams.proofs.stage.Stage.stream.Goals as goal

pub returns : goal.returns
unfolding stream_of
returns c =
    let drawn = c.splitmix_draw.ensures in
    let mixed = c.splitmix64-mixed.ensures in
    c.new.ensures ∙ ap new_of (drawn ∙ ap (λ (z : ℕ). splitmix_draw_of z c.id-id.result) mixed ∙ ap (splitmix_draw_of _) c.id-id.ensures)
