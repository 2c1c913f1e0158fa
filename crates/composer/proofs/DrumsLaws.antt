-- What the drums of every stream keep: at most 98 hits, each bar's in turn, none with fewer than two or more than 13,
-- and the draws that they take. Assumes nothing.
use mathlib.Core.Path.{◌≡◌, sym, ap, ◌∙◌}
use mathlib.Core.Bool.{Bool}
use Prim.Native.Nat.{ℕ, ◌+◌, ◌*◌, ◌^◌, ◌≤◌, ◌<◌}
use native.Mathlib.Omega.{arith}
use lib.Dec.{eqb}
use lib.ListN.{take, get_or}
use lib.Ieee.{Float}
use Rattle.laws.specs.Lanes.{Occurs, EachAtMost, Laid}
use Rattle.laws.specs.Sorts.{count}
use Rattle.streams.specs.Stream.{after}
use Rattle.streams.specs.Draw.{pick_of}
use Rattle.streams.specs.Stage.{stream_of}
use Rattle.streams.specs.declared.stream.NoiseStream.{NoiseStream}
use Rattle.streams.specs.declared.stage.Stage.{Stage}
use Rattle.streams.proofs.StreamLaws.{after_none, after_counter}
use Rattle.streams.proofs.StageLaws.{stream_counter}
use Rattle.streams.proofs.DrawLaws.{pick_advances}
use Rattle.composer.specs.Note.{no_hit, past_hit, hit_bar}
use Rattle.composer.specs.Drums.{no_hits, bars_to, lay_groove_of, drums_of, drum_draws_of}
use Rattle.composer.specs.Drums.Grooves.{hiphop_groove_of, sleep_groove}
use Rattle.composer.specs.declared.style.Style.{Style}
use Rattle.composer.specs.declared.style.Style.TheVariants.{Hiphop, Sleep}
use Rattle.composer.proofs.drums.GroovesLaws.{hiphop_snares, hiphop_eighths}
use Rattle.composer.proofs.drums.DrawsLaws.{chances_to, bars_made}
use Rattle.composer.proofs.drums.BarsLaws.{lane_laid, lane_occurs, lane_many, lane_few}

-- at most 98 hits, bar after bar, and zero behind them
pub drums_laid : (s : NoiseStream) (style : Style) (beatS : Float) → Laid past_hit no_hit hit_bar 98 7 (drums_of s style beatS).value.at (drums_of s style beatS).value.n
unfolding drums_of lay_groove_of
drums_laid s Hiphop beatS = lane_laid (hiphop_groove_of (pick_of s 4).value) (hiphop_snares (pick_of s 4).value) beatS (pick_of s 4).stream
drums_laid s Sleep beatS = lane_laid sleep_groove (omega arith) beatS s

-- every loop bar has a hit
pub drums_occur : (s : NoiseStream) (style : Style) (beatS : Float) (b : ℕ) → b < 8 → Occurs (λ i. hit_bar (get_or (drums_of s style beatS).value.at i past_hit)) (drums_of s style beatS).value.n b
unfolding drums_of lay_groove_of
drums_occur s Hiphop beatS = lane_occurs (hiphop_groove_of (pick_of s 4).value) (hiphop_snares (pick_of s 4).value) beatS (pick_of s 4).stream
drums_occur s Sleep beatS = lane_occurs sleep_groove (omega arith) beatS s

-- and two at least
pub drums_many : (s : NoiseStream) (style : Style) (beatS : Float) (b : ℕ) → b < 8 → 2 ≤ count (λ h. eqb (hit_bar h) b) (take (drums_of s style beatS).value.n (drums_of s style beatS).value.at)
unfolding drums_of lay_groove_of
drums_many s Hiphop beatS = lane_many (hiphop_groove_of (pick_of s 4).value) (hiphop_snares (pick_of s 4).value) beatS (pick_of s 4).stream
drums_many s Sleep beatS = lane_many sleep_groove (omega arith) beatS s

-- at most 13 hits in any one bar
pub drums_few : (s : NoiseStream) (style : Style) (beatS : Float) → EachAtMost hit_bar 13 (take (drums_of s style beatS).value.n (drums_of s style beatS).value.at)
unfolding drums_of lay_groove_of
drums_few s Hiphop beatS = lane_few (hiphop_groove_of (pick_of s 4).value) (hiphop_snares (pick_of s 4).value) beatS (pick_of s 4).stream
drums_few s Sleep beatS = lane_few sleep_groove (omega arith) beatS s

-- a counter is a u64
pub drums_stream : (s : NoiseStream) (style : Style) (beatS : Float) → s.counter < 2 ^ 64 → (drums_of s style beatS).stream ≡ after s (drum_draws_of style (drums_of s style beatS).value.n)
unfolding drums_of lay_groove_of
drums_stream s Hiphop beatS h =
    let p = pick_of s 4 in
    let g = hiphop_groove_of p.value in
    bars_made s g 1 (no_hits p.stream) beatS 8 (pick_advances s 4)
    ∙ ap (λ (b : Bool). after s (1 + 8 * (1 + chances_to b 8) + 2 * (bars_to (no_hits p.stream) g beatS 8).value.n)) (hiphop_eighths p.value)
drums_stream s Sleep beatS h = bars_made s sleep_groove 0 (no_hits s) beatS 8 (sym (after_none s h))

draws_few : (style : Style) (n : ℕ) → n ≤ 98 → drum_draws_of style n < 2 ^ 64
draws_few Hiphop n h = omega arith
draws_few Sleep n h = omega arith

-- the counter of the stage's own stream
pub drums_counter : (seed : ℕ) (style : Style) (beatS : Float) → (drums_of (stream_of Stage.Drums seed) style beatS).stream.counter ≡ drum_draws_of style (drums_of (stream_of Stage.Drums seed) style beatS).value.n
drums_counter seed style beatS =
    let s = stream_of Stage.Drums seed in
    let n = drum_draws_of style (drums_of s style beatS).value.n in
    let none = stream_counter Stage.Drums seed in
    let few = draws_few style (drums_of s style beatS).value.n (drums_laid s style beatS).few in
    ap (λ (t : NoiseStream). t.counter) (drums_stream s style beatS (omega (arith, none))) ∙ after_counter s n ∙ omega (arith, none, few)
