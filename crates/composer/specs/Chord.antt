-- Chords: a degree of the grammar voiced in a key. Definitions only.
use Rattle.std.specs.Prelude.{◌≡◌, List, [], ◌∷◌, ℕ, ◌+◌, ◌-◌, ◌%◌, ◌≤◌, get_or}
use Rattle.composer.specs.declared.chord.Degree.{Degree}
use Rattle.composer.specs.declared.chord.Chord.{Chord}

-- C, D minor, E minor, F, G, A minor
abbrev pub degrees : List Degree
degrees =
    record { root_pc = 0; third = 4; seventh = 11 }
    ∷ record { root_pc = 2; third = 3; seventh = 10 }
    ∷ record { root_pc = 4; third = 3; seventh = 10 }
    ∷ record { root_pc = 5; third = 4; seventh = 11 }
    ∷ record { root_pc = 7; third = 4; seventh = 10 }
    ∷ record { root_pc = 9; third = 3; seventh = 10 }
    ∷ []

abbrev pub degree_at : ℕ → Degree
degree_at d = get_or degrees d (record { root_pc = 0; third = 0; seventh = 0 })

abbrev pub past_chord : Chord
past_chord = record { notes = [] }

-- an entry that is not set
abbrev pub no_chord : Chord
no_chord = record { notes = 0 ∷ 0 ∷ 0 ∷ 0 ∷ [] }

-- the pitch class of its root, the first of its notes
abbrev pub root_class_of : Chord → ℕ
root_class_of c = get_or c.notes 0 0 % 12

-- and of its fifth, the third of them
abbrev pub fifth_class_of : Chord → ℕ
fifth_class_of c = get_or c.notes 2 0 % 12

-- the pitch with class pc in the octave from lo up
abbrev pub in_octave_from : ℕ → ℕ → ℕ
in_octave_from lo pc = lo + (pc + 12 - lo % 12) % 12

-- a degree in a key: root, third, fifth, seventh
abbrev pub voiced_of : Degree → ℕ → Chord
voiced_of d key =
    let pc = (d.root_pc + key) % 12 in
    let root = in_octave_from 48 pc in
    record { notes = root ∷ (root + d.third) ∷ (root + 7) ∷ (root + d.seventh) ∷ [] }

-- a root in 48 to 59, and above it a minor or major third, the fifth, a minor or major seventh
pub record RootPosition (c : Chord) : Type 0 where
  pub root : ℕ
  pub third : ℕ
  pub seventh : ℕ
  pub notes : c.notes ≡ root ∷ (root + third) ∷ (root + 7) ∷ (root + seventh) ∷ []
  pub least : 48 ≤ root
  pub most : root ≤ 59
  pub third_within : (3 ≤ third) × (third ≤ 4)
  pub seventh_within : (10 ≤ seventh) × (seventh ≤ 11)
