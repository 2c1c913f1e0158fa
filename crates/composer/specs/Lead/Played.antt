-- The melody as played: behind the grid, each note with an accent. Definitions only.
use Rattle.std.specs.Prelude.{ℕ, zero, suc, get_or, replicate, Float}
use Rattle.std.specs.Float.{binary32}
use Rattle.std.specs.Float.Ieee.{of_bits, add, mul}
use Rattle.streams.specs.declared.stream.NoiseStream.{NoiseStream}
use Rattle.streams.specs.declared.stream.Draw.{Draw}
use Rattle.composer.specs.Few.{one_more}
use Rattle.composer.specs.Note.{no_note}
use Rattle.composer.specs.Spread.{draw_of, after_of}
use Rattle.composer.specs.Timing.{bar_start_of}
use Rattle.composer.specs.Lead.Melody.{past_lead}
use Rattle.composer.specs.Lead.Role.{noted_of}
use Rattle.composer.specs.declared.spread.Spread.{Spread}
use Rattle.composer.specs.declared.few.Few.{Few}
use Rattle.composer.specs.declared.lead.melody.LeadNote.{LeadNote}
use Rattle.composer.specs.declared.lead.melody.Sung.{Sung}
use Rattle.composer.specs.declared.note.Note.{Note}

-- 0.008 and 0.014
abbrev pub lead_lag : Spread
lead_lag = record { base = of_bits binary32 0x3c03_126f; span = of_bits binary32 0x3c65_6042 }

-- 0.92 and 0.16
abbrev pub lead_accent : Spread
lead_accent = record { base = of_bits binary32 0x3f6b_851f; span = of_bits binary32 0x3e23_d70a }

abbrev pub on_grid_of : LeadNote → Float → Float
on_grid_of x beatS = add binary32 (bar_start_of x.bar beatS) (mul binary32 x.beat beatS)

-- its lag is drawn, then its accent
unfoldable pub played_note_of : LeadNote → Float → Float → NoiseStream → Draw Note
played_note_of x beatS dur s =
    let d = after_of lead_lag (on_grid_of x beatS) s in
    let e = draw_of lead_accent d.stream in
    record { value = record { bar = x.bar; role = noted_of x.role; spare = 0; at = d.value; midi = x.note; vel = mul binary32 x.vel e.value; dur = dur }; stream = e.stream }

-- ---- the lane: its notes, in the order drawn, and the stream after their draws
abbrev pub LeadLane : Type 0
LeadLane = Draw (Few Note 56)

-- one note more
unfoldable pub play_of : Sung → Float → Float → LeadLane → ℕ → LeadLane
play_of m beatS dur l i =
    let p = played_note_of (get_or m.notes.at i past_lead) beatS dur l.stream in
    record { value = one_more l.value p.value; stream = p.stream }

-- the first i notes
unfoldable pub play_to : Sung → Float → Float → LeadLane → ℕ → LeadLane
play_to m beatS dur l zero = l
play_to m beatS dur l (suc i) = play_of m beatS dur (play_to m beatS dur l i) i

abbrev pub silence_of : NoiseStream → LeadLane
silence_of s = record { value = record { at = replicate 56 no_note; n = 0 }; stream = s }

unfoldable pub played_of : Sung → Float → Float → LeadLane
played_of m beatS dur = play_to m beatS dur (silence_of m.line.stream) m.notes.n
