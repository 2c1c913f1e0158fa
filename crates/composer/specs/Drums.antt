-- The drums stage: a groove of the style's, laid over the loop's eight bars. Definitions only.
use Rattle.std.specs.Prelude.{ℕ, zero, suc, ◌+◌, ◌*◌, replicate, Float}
use Rattle.std.specs.Float.{binary32}
use Rattle.std.specs.Float.Ieee.{of_bits}
use Rattle.streams.specs.Draw.{pick_of}
use Rattle.streams.specs.declared.stream.NoiseStream.{NoiseStream}
use Rattle.composer.specs.Note.{no_hit}
use Rattle.composer.specs.Spread.{draw_of}
use Rattle.composer.specs.Timing.{bar_start_of}
use Rattle.composer.specs.Drums.Grooves.{hiphop_groove_of, sleep_groove}
use Rattle.composer.specs.Drums.Kit.{DrumLane, drawn_on, lay_kicks_of, lay_snares_of, lay_hats_of}
use Rattle.composer.specs.declared.spread.Spread.{Spread}
use Rattle.composer.specs.declared.style.Style.{Style}
use Rattle.composer.specs.declared.style.Style.TheVariants.{Hiphop, Sleep}
use Rattle.composer.specs.declared.drums.grooves.Groove.{Groove}
use Rattle.composer.specs.declared.drums.kit.Bar.{Bar}
pub mod Grooves
pub mod Kit

-- 0.9 and 0.2
abbrev pub wobble : Spread
wobble = record { base = of_bits binary32 0x3f66_6666; span = of_bits binary32 0x3e4c_cccd }

abbrev pub bar_of : ℕ → Float → Float → Bar
bar_of number beatS w = record { number = number; start = bar_start_of number beatS; beat_s = beatS; wobble = w }

-- loop bar `number`: its wobble is drawn first, then kicks, snares, hats
unfoldable pub lay_bar_of : DrumLane → Groove → Float → ℕ → DrumLane
lay_bar_of l g beatS number =
    let w = draw_of wobble l.stream in
    let bar = bar_of number beatS w.value in
    lay_hats_of (lay_snares_of (lay_kicks_of (drawn_on l w.stream) g bar) g bar) g bar

-- the first n bars
unfoldable pub bars_to : DrumLane → Groove → Float → ℕ → DrumLane
bars_to l g beatS zero = l
bars_to l g beatS (suc n) = lay_bar_of (bars_to l g beatS n) g beatS n

abbrev pub no_hits : NoiseStream → DrumLane
no_hits s = record { value = record { at = replicate 98 no_hit; n = 0 }; stream = s }

unfoldable pub lay_groove_of : NoiseStream → Groove → Float → DrumLane
lay_groove_of s g beatS = bars_to (no_hits s) g beatS 8

-- hiphop draws one of its four grooves, sleep draws nothing for its one
unfoldable pub drums_of : NoiseStream → Style → Float → DrumLane
drums_of s Hiphop beatS = lay_groove_of (pick_of s 4).stream (hiphop_groove_of (pick_of s 4).value) beatS
drums_of s Sleep beatS = lay_groove_of s sleep_groove beatS

-- how many draws n hits take: for each bar its wobble and its eighths that may strike, and hiphop's pick
abbrev pub drum_draws_of : Style → ℕ → ℕ
drum_draws_of Hiphop n = 73 + 2 * n
drum_draws_of Sleep n = 40 + 2 * n
