-- A bar's bass notes: the root on its first step, then the root or its fifth, and a pickup into the next bar.
-- Definitions only.
use Rattle.std.specs.Prelude.{Bool, false, cond, ◌&&◌, ℕ, zero, suc, ◌+◌, ◌-◌, ◌<◌, eqb, ltb, leb, get_or, Float}
use Rattle.std.specs.Float.{binary32}
use Rattle.std.specs.Float.Ieee.{of_bits, add, sub, mul, lt}
use Rattle.laws.specs.Floats.{f32_of}
use Rattle.streams.specs.Draw.{chance_of}
use Rattle.streams.specs.declared.stream.NoiseStream.{NoiseStream}
use Rattle.streams.specs.declared.stream.Draw.{Draw}
use Rattle.composer.specs.Few.{one_more}
use Rattle.composer.specs.Chord.{in_octave_from}
use Rattle.composer.specs.Spread.{draw_of, after_of}
use Rattle.composer.specs.Timing.{sixteenth_beats, bar_s_of, bar_start_of}
use Rattle.composer.specs.Style.{odds_of}
use Rattle.composer.specs.Bass.Rhythm.{Steps, Rising}
use Rattle.composer.specs.declared.note.NoteRole.{NoteRole}
use Rattle.composer.specs.declared.spread.Spread.{Spread}
use Rattle.composer.specs.declared.style.BassStyle.{BassStyle}
use Rattle.composer.specs.declared.few.Few.{Few}
use Rattle.composer.specs.declared.bass.line.BarPart.{BarPart}
use Rattle.composer.specs.declared.bass.line.Strike.{Strike}
use Rattle.composer.specs.declared.note.Note.{Note}

-- ---- the constants: lag 0.014 and 0.010, a later note 0.14 softer; pickup's lag 0.012 and 0.008, its velocity 0.34
-- and 0.06
abbrev pub bass_lag : Spread
bass_lag = record { base = of_bits binary32 0x3c65_6042; span = of_bits binary32 0x3c23_d70a }

abbrev pub later_softer : Float
later_softer = of_bits binary32 0x3e0f_5c29

abbrev pub pickup_lag : Spread
pickup_lag = record { base = of_bits binary32 0x3c44_9ba6; span = of_bits binary32 0x3c03_126f }

abbrev pub pickup_velocity : Spread
pickup_velocity = record { base = of_bits binary32 0x3eae_147b; span = of_bits binary32 0x3d75_c28f }

-- 0.9
abbrev pub bass_gate : Float
bass_gate = of_bits binary32 0x3f66_6666

abbrev pub step_s_of : Float → Float
step_s_of beatS = mul binary32 sixteenth_beats beatS

-- eight bars
abbrev pub loop_s_of : Float → Float
loop_s_of beatS = mul binary32 (bar_s_of beatS) (of_bits binary32 0x4100_0000)

-- the pitch with class pc in the octave from 31 up
abbrev pub bass_pitch_of : ℕ → ℕ
bass_pitch_of pc = in_octave_from 31 pc

-- a semitone under the next root
abbrev pub pickup_pitch_of : ℕ → ℕ
pickup_pitch_of pc = bass_pitch_of pc - 1

-- ---- the three kinds of note; each draws its lag, then its velocity
unfoldable pub struck_of : NoiseStream → Float → ℕ → Spread → Spread → Draw Strike
struck_of s on midi lag velocity =
    let a = after_of lag on s in
    let v = draw_of velocity a.stream in
    record { value = record { at = a.value; midi = midi; vel = v.value }; stream = v.stream }

unfoldable pub root_note_of : NoiseStream → Float → BarPart → BassStyle → Draw Strike
root_note_of s on p style = struck_of s on (bass_pitch_of p.root_pc) bass_lag style.velocity

unfoldable pub pickup_note_of : NoiseStream → Float → BarPart → Draw Strike
pickup_note_of s on p = struck_of s on (pickup_pitch_of p.next_pc) pickup_lag pickup_velocity

abbrev pub later_velocity : Spread → Spread
later_velocity v = record { base = sub binary32 v.base later_softer; span = v.span }

abbrev pub later_pitch_of : ℕ → Bool → ℕ
later_pitch_of pc fifth = cond fifth (bass_pitch_of (pc + 7)) (bass_pitch_of pc)

-- the fifth by its chance, else the root
unfoldable pub later_note_of : NoiseStream → Float → BarPart → BassStyle → Draw Strike
later_note_of s on p style =
    let c = chance_of s style.fifth_p in
    struck_of c.stream on (later_pitch_of p.root_pc c.value) bass_lag (later_velocity style.velocity)

-- ---- which it is
-- the bar's last note, in its last beat
abbrev pub ends_late : Steps → ℕ → Bool
ends_late t i = eqb (i + 1) t.n && leb 12 (get_or t.at i 0)

unfoldable pub pickup_drawn_of : NoiseStream → BarPart → BassStyle → ℕ → Draw Bool
pickup_drawn_of s p style i = cond (ends_late p.steps i) (odds_of style.pickup_p s) (record { value = false; stream = s })

-- in the last bar a pickup is drawn and then not played
unfoldable pub note_drawn_of : NoiseStream → Float → BarPart → BassStyle → ℕ → Draw Strike
note_drawn_of s on p style i =
    let c = pickup_drawn_of s p style i in
    cond (eqb i 0) (root_note_of s on p style)
    (cond (c.value && ltb p.bar 7) (pickup_note_of c.stream on p) (later_note_of c.stream on p style))

-- ---- when it sounds, and for how long
-- the 16ths from note i to the next
abbrev pub gap_of : BarPart → ℕ → ℕ
gap_of p i = cond (ltb (i + 1) p.steps.n) (get_or p.steps.at (i + 1) 0) (16 + p.next_step) - get_or p.steps.at i 0

abbrev pub onset_of : Float → ℕ → ℕ → Float
onset_of beatS bar step = add binary32 (bar_start_of bar beatS) (mul binary32 (f32_of step) (step_s_of beatS))

-- the gate's share of the gap, or what is left of the loop
unfoldable pub held_of : Float → ℕ → Float → Float
held_of beatS gap at =
    let a = mul binary32 (mul binary32 (f32_of gap) (step_s_of beatS)) bass_gate in
    let b = sub binary32 (loop_s_of beatS) at in
    cond (lt a b) a b

-- ---- the bar
-- note i as it sounds
unfoldable pub played_note_of : NoiseStream → BarPart → BassStyle → Float → ℕ → Draw Note
played_note_of s p style beatS i =
    let d = note_drawn_of s (onset_of beatS p.bar (get_or p.steps.at i 0)) p style i in
    record {
      value = record { bar = p.bar; role = NoteRole.Backing; spare = 0; at = d.value.at; midi = d.value.midi; vel = d.value.vel; dur = held_of beatS (gap_of p i) d.value.at };
      stream = d.stream;
    }

-- ---- the lane: its notes, in the order drawn, and the stream after their draws
abbrev pub BassLane : Type 0
BassLane = Draw (Few Note 104)

-- one note more
unfoldable pub play_of : BassLane → BarPart → BassStyle → Float → ℕ → BassLane
play_of l p style beatS i =
    let d = played_note_of l.stream p style beatS i in
    record { value = one_more l.value d.value; stream = d.stream }

-- the bar's first i notes
unfoldable pub bar_played : BassLane → BarPart → BassStyle → Float → ℕ → BassLane
bar_played l p style beatS zero = l
bar_played l p style beatS (suc i) = play_of (bar_played l p style beatS i) p style beatS i

-- ---- what a bar asks of its part: pitch classes, and steps within the bar
pub record Playable (p : BarPart) : Type 0 where
  pub root_lt : p.root_pc < 12
  pub next_lt : p.next_pc < 12
  pub steps : Rising p.steps 16
  pub next_step_lt : p.next_step < 16
