-- The pick after two draws is that of the third. Assumes nothing.
use mathlib.Core.Path.{◌∙◌, ap}
use Prim.Native.Nat.{ℕ}
use Rattle.streams.specs.Stage.{stream_of}
use Rattle.streams.specs.Stream.{after}
use Rattle.streams.specs.declared.stage.Stage.{Stage}
use Rattle.streams.specs.declared.stream.NoiseStream.{NoiseStream}
use Rattle.streams.specs.declared.stream.Draw.{Draw}
use Rattle.streams.proofs.DrawLaws.{pick_number}
use Rattle.composer.specs.Traits.{drawn_key}
use Rattle.composer.proofs.traits.drawn_key.Goals as goal

pub returns : goal.returns
unfolding drawn_key
returns c =
    let s = c.stream in
    let seed = c.args.seed in
    ap (λ (d : Draw ℕ). d.value) c.pick.ensures
    ∙ pick_number (stream_of Stage.Harmony seed) c.skipped-third.result 2 12 (c.skipped-third.ensures ∙ ap (λ (t : NoiseStream). after t 2) s.ensures)
