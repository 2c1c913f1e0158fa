-- A note's place in the melody, and what the line carries from note to note. Definitions only.
use Rattle.std.specs.Prelude.{Bool, cond, ◌&&◌, ◌||◌, ℕ, ◌+◌, ltb, eqb, get_or, Float}
use Rattle.std.specs.Float.{nan, binary32}
use Rattle.std.specs.Float.Ieee.{of_bits, eq}
use Rattle.laws.specs.Floats.{fract_of}
use Rattle.streams.specs.declared.stream.NoiseStream.{NoiseStream}
use Rattle.composer.specs.Few.{one_more}
use Rattle.composer.specs.Lead.Beats.{Beats}
use Rattle.composer.specs.declared.few.Few.{Few}
use Rattle.composer.specs.declared.lead.line.Place.{Place}
use Rattle.composer.specs.declared.lead.line.Line.{Line}

-- on a beat, or pushed a sixteenth ahead of one: a fraction of 0 or 0.75
abbrev pub is_strong_of : Float → Bool
is_strong_of beat = eq (fract_of beat) (of_bits binary32 0) || eq (fract_of beat) (of_bits binary32 0x3f40_0000)

-- the last note of the last bar
abbrev pub is_last_of : ℕ → ℕ → ℕ → Bool
is_last_of bar i n = eqb bar 7 && eqb (i + 1) n

abbrev pub place_of : ℕ → Beats → ℕ → Place
place_of bar b i = record { bar = bar; i = i; last = is_last_of bar i b.n; strong = is_strong_of (get_or b.at i nan) }

-- the first two notes of bar 0 are kept
abbrev pub opens_line_of : ℕ → ℕ → Bool
opens_line_of bar heads = eqb bar 0 && ltb heads 2

abbrev pub head_of : ℕ → Few ℕ 2 → ℕ → Few ℕ 2
head_of bar head note = cond (opens_line_of bar head.n) (one_more head note) head

-- the line after one note more
unfoldable pub carried_of : Line → ℕ → ℕ → NoiseStream → Line
carried_of l bar note s = record {
  stream = s;
  from = l.prev;
  prev = note;
  head = head_of bar l.head note;
}
