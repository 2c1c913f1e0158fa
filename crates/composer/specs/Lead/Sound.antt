-- What the melody's functions ask: a bar's tones, the line and the notes so far are in the window and the scale. Definitions only.
use Rattle.std.specs.Prelude.{◌≡◌, Bool, true, List, ℕ, ◌+◌, ◌-◌, ◌≤◌, ◌<◌, max, T, get_or, length}
use Rattle.laws.specs.Lists.{all_of}
use Rattle.composer.specs.Chord.{past_chord}
use Rattle.composer.specs.Lead.Beats.{Beats, past_beats}
use Rattle.composer.specs.Lead.Scale.{fits_of, snapped_of}
use Rattle.composer.specs.Lead.Tones.{Tones, no_class, tones_in, listed}
use Rattle.composer.specs.Lead.Ground.{ground_of}
use Rattle.composer.specs.Lead.Melody.{past_lead, first_sung_of, start_of}
use Rattle.composer.specs.declared.chord.Chord.{Chord}
use Rattle.composer.specs.declared.style.LeadStyle.{LeadStyle}
use Rattle.composer.specs.declared.lead.line.Line.{Line}
use Rattle.composer.specs.declared.lead.role.Role.{Role}
use Rattle.composer.specs.declared.lead.role.Role.TheVariants.{Quote, Close, Peak, Resolve, ChordTone, Passing}
use Rattle.composer.specs.declared.lead.ground.Ground.{Ground}
use Rattle.composer.specs.declared.lead.melody.Sung.{Sung}

-- tones: some, few, each in the window and the scale
pub record Tuned (pool : List Bool) (lo hi : ℕ) (t : Tones) : Type 0 where
  pub count : 0 < t.n
  pub few : t.n ≤ 20
  pub some : 0 < length (listed t)
  pub fit : T (all_of (fits_of pool lo hi) (listed t))

-- a bar's ground: a window of at most 20, tuned tones, and every snap lands in the window and the scale
pub record Sound (pool : List Bool) (g : Ground) : Type 0 where
  pub low : 40 ≤ g.lo
  pub wide : g.hi < g.lo + 20
  pub high : g.hi < 120
  pub tones : Tuned pool g.lo g.hi g.tones
  pub strong : Tuned pool g.lo g.hi g.strong
  pub snaps : (n : ℕ) → g.lo ≤ n → n ≤ g.hi → T (fits_of pool g.lo g.hi (snapped_of pool g.lo g.hi n))

-- a line: its last note, the notes to quote, and the melody's first note are in the window and the scale
pub record Fit (pool : List Bool) (lo hi : ℕ) (l : Line) (opening : ℕ) : Type 0 where
  pub low : lo ≤ l.prev
  pub high : l.prev ≤ hi
  pub size : length l.head.at ≡ 2
  pub heads : l.head.n ≤ 2
  pub prev : T (fits_of pool lo hi l.prev)
  pub head : (i : ℕ) → i < l.head.n → T (fits_of pool lo hi (get_or l.head.at i 0))
  pub first : T (fits_of pool lo hi opening)

-- where note i is a quote, there is a note to quote
abbrev pub Quotable : Role → ℕ → ℕ → Type 0
Quotable Quote i heads = i < heads
Quotable Close i heads = T true
Quotable Peak i heads = T true
Quotable Resolve i heads = T true
Quotable ChordTone i heads = T true
Quotable Passing i heads = T true

-- the notes sung so far
pub record Good (pool : List Bool) (lo hi : ℕ) (m : Sung) : Type 0 where
  pub size : length m.notes.at ≡ 56
  pub line : Fit pool lo hi m.line (first_sung_of m)
  pub notes : (i : ℕ) → i < m.notes.n → T (fits_of pool lo hi (get_or m.notes.at i past_lead).note)

-- all that a melody is sung over
pub record Ready (beats : List Beats) (bars : List Chord) (pool : List Bool) (style : LeadStyle) : Type 0 where
  pub low : 40 ≤ style.lo
  pub fair : style.lo + 12 ≤ style.hi
  pub wide : style.hi < style.lo + 20
  pub high : style.hi < 120
  pub sound : (k : ℕ) → k < 8 → Sound pool (ground_of style (get_or bars k past_chord) pool)
  pub few : (k : ℕ) → k < 8 → (get_or beats k past_beats).n ≤ 7
  pub start : T (fits_of pool style.lo style.hi (start_of style (get_or bars 0 past_chord) pool))
  pub some_start : 0 < length (tones_in (get_or bars 0 past_chord).notes pool no_class (max style.lo (style.hi - 12)) style.hi)
