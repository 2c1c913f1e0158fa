-- One bar of the kit: its kicks, its snares, its hats. A hit draws where it lands, then how hard. Definitions only.
use Rattle.std.specs.Prelude.{Bool, ◌&&◌, cond, ℕ, zero, suc, ◌%◌, eqb, get_or, Float}
use Rattle.std.specs.Float.{nan, binary32}
use Rattle.std.specs.Float.Ieee.{of_bits, add, mul, div, ne}
use Rattle.laws.specs.Floats.{f32_of, fract_of}
use Rattle.streams.specs.Draw.{chance_of}
use Rattle.streams.specs.declared.stream.NoiseStream.{NoiseStream}
use Rattle.streams.specs.declared.stream.Draw.{Draw}
use Rattle.composer.specs.Few.{one_more}
use Rattle.composer.specs.Note.{zero32}
use Rattle.composer.specs.Spread.{draw_of, jitter_of}
use Rattle.composer.specs.Timing.{swing_delay_of, held_at_zero}
use Rattle.composer.specs.Drums.Grooves.{ghost_kick}
use Rattle.composer.specs.declared.note.DrumKind.{DrumKind}
use Rattle.composer.specs.declared.spread.Spread.{Spread}
use Rattle.composer.specs.declared.spread.Jitter.{Jitter}
use Rattle.composer.specs.declared.few.Few.{Few}
use Rattle.composer.specs.declared.drums.grooves.Kick.{Kick}
use Rattle.composer.specs.declared.drums.grooves.Groove.{Groove}
use Rattle.composer.specs.declared.drums.kit.Bar.{Bar}
use Rattle.composer.specs.declared.note.Hit.{Hit}

-- ---- a bar's times
abbrev pub bar_at : Bar → Float → Float
bar_at bar beat = add binary32 bar.start (mul binary32 beat bar.beat_s)

abbrev pub eighth_of : Bar → Float
eighth_of bar = div binary32 bar.beat_s (of_bits binary32 0x4000_0000)

-- a statement or its answer ends with this bar
abbrev pub ends_statement : Bar → Bool
ends_statement bar = eqb (bar.number % 4) 3

-- ---- the lane: its hits, in the order drawn, and the stream after their draws
abbrev pub DrumLane : Type 0
DrumLane = Draw (Few Hit 98)

-- after a draw that adds no hit
abbrev pub drawn_on : DrumLane → NoiseStream → DrumLane
drawn_on l s = record { value = l.value; stream = s }

-- one hit more, and the stream after its draws
abbrev pub struck_of : DrumLane → Draw Hit → DrumLane
struck_of l d = record { value = one_more l.value d.value; stream = d.stream }

-- 0.95 and 0.1
abbrev pub hit_accent : Spread
hit_accent = record { base = of_bits binary32 0x3f73_3333; span = of_bits binary32 0x3dcc_cccd }

-- ---- kicks
-- 0.3 and 0.010
abbrev pub kick_jitter : Jitter
kick_jitter = record { early = of_bits binary32 0x3e99_999a; width = of_bits binary32 0x3c23_d70a }

-- the slot: dragged, and off the beat swung by 0.53
abbrev pub kick_slot_of : Bar → Float → Float → Float
kick_slot_of bar dragS beat =
    let at = add binary32 (bar_at bar beat) dragS in
    cond (ne (fract_of beat) zero32) (add binary32 at (swing_delay_of (of_bits binary32 0x3f07_ae14) (eighth_of bar))) at

abbrev pub kick_beat_of : Kick → ℕ → Float
kick_beat_of k number = cond (eqb (number % 2) 0) k.even k.odd

unfoldable pub kick_hit_of : NoiseStream → Bar → Float → Kick → Draw Hit
kick_hit_of s bar dragS k =
    let slot = kick_slot_of bar dragS (kick_beat_of k bar.number) in
    let j = jitter_of kick_jitter s in
    let a = draw_of hit_accent j.stream in
    record {
      value = record {
        bar = bar.number;
        spare = 0;
        at = held_at_zero (add binary32 slot j.value);
        kind = DrumKind.Kick;
        gain = mul binary32 (mul binary32 k.gain bar.wobble) a.value;
      };
      stream = a.stream;
    }

unfoldable pub push_kick_of : DrumLane → Bar → Float → Kick → DrumLane
push_kick_of l bar dragS k = struck_of l (kick_hit_of l.stream bar dragS k)

-- two kicks, and where a statement ends the ghost kick
unfoldable pub lay_kicks_of : DrumLane → Groove → Bar → DrumLane
lay_kicks_of l g bar =
    let two = push_kick_of (push_kick_of l bar g.drag_s g.first) bar g.drag_s g.second in
    cond (g.ghost_pickup && ends_statement bar) (push_kick_of two bar g.drag_s ghost_kick) two

-- how many kicks the bar has
abbrev pub kick_count_of : Groove → Bar → ℕ
kick_count_of g bar = cond (g.ghost_pickup && ends_statement bar) 3 2

-- kick k of a bar
abbrev pub kick_of : Groove → ℕ → Kick
kick_of g k = cond (eqb k 0) g.first (cond (eqb k 1) g.second ghost_kick)

-- ---- snares
-- 0.008
abbrev pub snare_drag_s : Float
snare_drag_s = of_bits binary32 0x3c03_126f

-- 0.3 and 0.008
abbrev pub snare_jitter : Jitter
snare_jitter = record { early = of_bits binary32 0x3e99_999a; width = of_bits binary32 0x3c03_126f }

unfoldable pub snare_hit_of : NoiseStream → Bar → Float → Float → Draw Hit
snare_hit_of s bar beat gain =
    let j = jitter_of snare_jitter s in
    let a = draw_of hit_accent j.stream in
    record {
      value = record {
        bar = bar.number;
        spare = 0;
        at = held_at_zero (add binary32 (add binary32 (bar_at bar beat) snare_drag_s) j.value);
        kind = DrumKind.Snare;
        gain = mul binary32 (mul binary32 gain bar.wobble) a.value;
      };
      stream = a.stream;
    }

unfoldable pub push_snare_of : DrumLane → Bar → Float → Float → DrumLane
push_snare_of l bar beat gain = struck_of l (snare_hit_of l.stream bar beat gain)

-- the first i snares
unfoldable pub snares_to : DrumLane → Groove → Bar → ℕ → DrumLane
snares_to l g bar zero = l
snares_to l g bar (suc i) = push_snare_of (snares_to l g bar i) bar (get_or g.snares.at i nan) g.snare_gain

abbrev pub lay_snares_of : DrumLane → Groove → Bar → DrumLane
lay_snares_of l g bar = snares_to l g bar g.snares.n

-- ---- hats
-- 0.5 and 0.012
abbrev pub hat_jitter : Jitter
hat_jitter = record { early = of_bits binary32 0x3f00_0000; width = of_bits binary32 0x3c44_9ba6 }

-- the slot of eighth e: the off-eighths are swung
abbrev pub hat_slot_of : Bar → Float → ℕ → Float
hat_slot_of bar swing e =
    let at = add binary32 bar.start (mul binary32 (f32_of e) (eighth_of bar)) in
    cond (eqb (e % 2) 1) (add binary32 at (swing_delay_of swing (eighth_of bar))) at

-- the last hat of a statement opens
abbrev pub hat_kind_of : Bool → Bar → ℕ → DrumKind
hat_kind_of openHat bar e = cond (openHat && ends_statement bar && eqb e 7) DrumKind.OpenHat DrumKind.Hat

unfoldable pub hat_hit_of : NoiseStream → Groove → Bar → ℕ → Draw Hit
hat_hit_of s g bar e =
    let j = jitter_of hat_jitter s in
    let v = draw_of g.hats.velocity j.stream in
    record {
      value = record {
        bar = bar.number;
        spare = 0;
        at = held_at_zero (add binary32 (hat_slot_of bar g.hats.swing e) j.value);
        kind = hat_kind_of g.open_hat bar e;
        gain = mul binary32 v.value bar.wobble;
      };
      stream = v.stream;
    }

unfoldable pub push_hat_of : DrumLane → Groove → Bar → ℕ → DrumLane
push_hat_of l g bar e = struck_of l (hat_hit_of l.stream g bar e)

-- eighth e: a slot that may not strike draws nothing, one that stays silent draws only that
unfoldable pub lay_hat_of : DrumLane → Groove → Bar → ℕ → DrumLane
lay_hat_of l g bar e =
    let skip = chance_of l.stream g.hats.skip_p in
    let m = drawn_on l skip.stream in
    cond (g.hats.off_eighths_only && eqb (e % 2) 0) l (cond skip.value m (push_hat_of m g bar e))

-- the first e eighths
unfoldable pub hats_to : DrumLane → Groove → Bar → ℕ → DrumLane
hats_to l g bar zero = l
hats_to l g bar (suc e) = lay_hat_of (hats_to l g bar e) g bar e

abbrev pub lay_hats_of : DrumLane → Groove → Bar → DrumLane
lay_hats_of l g bar = hats_to l g bar 8
