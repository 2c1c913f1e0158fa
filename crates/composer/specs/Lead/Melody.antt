-- The melody: each note of the rhythm gets a pitch and a velocity. Definitions only.
use Rattle.std.specs.Prelude.{Bool, cond, List, [], ◌∷◌, ℕ, zero, suc, ◌+◌, ◌-◌, ◌/◌, max, eqb, get_or, replicate, Float}
use Rattle.std.specs.Float.{nan, binary32}
use Rattle.std.specs.Float.Ieee.{of_bits, add}
use Rattle.streams.specs.declared.stream.NoiseStream.{NoiseStream}
use Rattle.composer.specs.Chord.{past_chord}
use Rattle.composer.specs.Few.{one_more}
use Rattle.composer.specs.Note.{zero32}
use Rattle.composer.specs.Spread.{draw_of}
use Rattle.composer.specs.Lead.Beats.{Beats, past_beats}
use Rattle.composer.specs.Lead.Tones.{no_class, tones_in, nearest_of}
use Rattle.composer.specs.Lead.Line.{place_of, carried_of}
use Rattle.composer.specs.Lead.Role.{role_of}
use Rattle.composer.specs.Lead.Ground.{ground_of}
use Rattle.composer.specs.Lead.Pitch.{pitch_of}
use Rattle.composer.specs.declared.chord.Chord.{Chord}
use Rattle.composer.specs.declared.style.LeadStyle.{LeadStyle}
use Rattle.composer.specs.declared.lead.line.Place.{Place}
use Rattle.composer.specs.declared.lead.line.Line.{Line}
use Rattle.composer.specs.declared.lead.role.Role.{Role}
use Rattle.composer.specs.declared.lead.role.Role.TheVariants.{Quote, Close, Peak, Resolve, ChordTone, Passing}
use Rattle.composer.specs.declared.lead.ground.Ground.{Ground}
use Rattle.composer.specs.declared.lead.melody.LeadNote.{LeadNote}
use Rattle.composer.specs.declared.lead.melody.LeadStep.{LeadStep}
use Rattle.composer.specs.declared.lead.melody.Sung.{Sung}

abbrev pub no_lead : LeadNote
no_lead = record { bar = 0; beat = zero32; note = 0; role = Quote; vel = zero32 }

abbrev pub past_lead : LeadNote
past_lead = record { bar = 0; beat = nan; note = 0; role = Quote; vel = nan }

-- the peak is 0.06 louder
abbrev pub velocity_of : Role → Float → Float
velocity_of Quote x = x
velocity_of Close x = x
velocity_of Peak x = add binary32 x (of_bits binary32 0x3d75_c28f)
velocity_of Resolve x = x
velocity_of ChordTone x = x
velocity_of Passing x = x

-- the role, the pitch, the velocity: drawn in this order
unfoldable pub step_of : List Bool → Ground → Line → Place → ℕ → LeadStep
step_of pool g l p first =
    let c = role_of l p in
    let q = pitch_of c.value c.stream pool g l p first in
    let d = draw_of g.velocity q.stream in
    record { note = q.value; role = c.value; vel = velocity_of c.value d.value; line = carried_of l p.bar q.value d.stream }

-- the first note sung, or else the one that the line starts from
abbrev pub opening_of : ℕ → ℕ → ℕ → ℕ
opening_of count start sung = cond (eqb count 0) start sung

abbrev pub first_sung_of : Sung → ℕ
first_sung_of m = opening_of m.notes.n m.line.prev (get_or m.notes.at 0 past_lead).note

-- one note more
unfoldable pub sing_of : List Bool → Ground → ℕ → Beats → Sung → ℕ → Sung
sing_of pool g bar b m i =
    let t = step_of pool g m.line (place_of bar b i) (first_sung_of m) in
    record {
      notes = one_more m.notes (record { bar = bar; beat = get_or b.at i nan; note = t.note; role = t.role; vel = t.vel });
      line = t.line;
    }

-- a bar's first i notes
unfoldable pub bar_to : List Bool → Ground → ℕ → Beats → Sung → ℕ → Sung
bar_to pool g bar b m zero = m
bar_to pool g bar b m (suc i) = sing_of pool g bar b (bar_to pool g bar b m i) i

abbrev pub sing_bar_of : List Bool → Ground → ℕ → Beats → Sung → Sung
sing_bar_of pool g bar b m = bar_to pool g bar b m b.n

-- a tone of the window's top octave, the nearest to 2 over the window's middle
unfoldable pub start_of : LeadStyle → Chord → List Bool → ℕ
start_of style chord pool =
    nearest_of (tones_in chord.notes pool no_class (max style.lo (style.hi - 12)) style.hi) ((style.lo + style.hi) / 2 + 2)

abbrev pub open_line_of : ℕ → NoiseStream → Line
open_line_of first s = record { stream = s; from = first; prev = first; head = record { at = 0 ∷ 0 ∷ []; n = 0 } }

-- nothing sung yet
unfoldable pub nothing_sung : ℕ → NoiseStream → Sung
nothing_sung first s = record { notes = record { at = replicate 56 no_lead; n = 0 }; line = open_line_of first s }

-- the first k bars, each over its chord
unfoldable pub bars_to : List Beats → List Chord → List Bool → LeadStyle → Sung → ℕ → Sung
bars_to beats bars pool style m zero = m
bars_to beats bars pool style m (suc k) =
    sing_bar_of pool (ground_of style (get_or bars k past_chord) pool) k (get_or beats k past_beats) (bars_to beats bars pool style m k)

unfoldable pub melody_of : NoiseStream → List Beats → List Chord → List Bool → LeadStyle → Sung
melody_of s beats bars pool style = bars_to beats bars pool style (nothing_sung (start_of style (get_or bars 0 past_chord) pool) s) 8
