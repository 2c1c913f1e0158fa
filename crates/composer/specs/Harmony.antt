-- The harmony stage: a loop of chords in a drawn key, and the scale that the lead sings. Definitions only.
use Rattle.std.specs.Prelude.{◌≡◌, Bool, true, false, List, [], ◌∷◌, ◌++◌, map, ℕ, ◌+◌, ◌%◌, ◌<◌, get_or, length}
use Rattle.laws.specs.Lists.{pad}
use Rattle.streams.specs.Draw.{pick_of, chance_of}
use Rattle.streams.specs.declared.stream.NoiseStream.{NoiseStream}
use Rattle.streams.specs.declared.stream.Draw.{Draw}
use Rattle.composer.specs.Chord.{degree_at, past_chord, voiced_of}
use Rattle.composer.specs.Style.{major_share_of}
use Rattle.composer.specs.declared.chord.Chord.{Chord}
use Rattle.composer.specs.declared.style.Style.{Style}
use Rattle.composer.specs.declared.harmony.Scale.{Scale}
use Rattle.composer.specs.declared.harmony.Harmony.{Harmony}

-- ---- the loops, a degree for each bar, every row repeated to eight
abbrev pub major_loops : List (List ℕ)
major_loops =
    (0 ∷ 3 ∷ 0 ∷ 3 ∷ 0 ∷ 3 ∷ 0 ∷ 3 ∷ [])
    ∷ (0 ∷ 5 ∷ 0 ∷ 5 ∷ 0 ∷ 5 ∷ 0 ∷ 5 ∷ [])
    ∷ (0 ∷ 0 ∷ 3 ∷ 3 ∷ 0 ∷ 0 ∷ 3 ∷ 3 ∷ [])
    ∷ (3 ∷ 4 ∷ 0 ∷ 5 ∷ 3 ∷ 4 ∷ 0 ∷ 5 ∷ [])
    ∷ (0 ∷ 5 ∷ 3 ∷ 4 ∷ 0 ∷ 5 ∷ 3 ∷ 4 ∷ [])
    ∷ (0 ∷ 4 ∷ 5 ∷ 3 ∷ 0 ∷ 4 ∷ 5 ∷ 3 ∷ [])
    ∷ (0 ∷ 1 ∷ 3 ∷ 0 ∷ 0 ∷ 1 ∷ 3 ∷ 0 ∷ [])
    ∷ (1 ∷ 3 ∷ 0 ∷ 0 ∷ 1 ∷ 3 ∷ 0 ∷ 0 ∷ [])
    ∷ (0 ∷ 2 ∷ 3 ∷ 0 ∷ 0 ∷ 2 ∷ 3 ∷ 0 ∷ [])
    ∷ (3 ∷ 0 ∷ 5 ∷ 0 ∷ 3 ∷ 0 ∷ 5 ∷ 0 ∷ [])
    ∷ (3 ∷ 2 ∷ 1 ∷ 0 ∷ 3 ∷ 2 ∷ 1 ∷ 0 ∷ [])
    ∷ (0 ∷ 3 ∷ 0 ∷ 3 ∷ 5 ∷ 3 ∷ 4 ∷ 4 ∷ [])
    ∷ (0 ∷ 1 ∷ 3 ∷ 0 ∷ 0 ∷ 2 ∷ 3 ∷ 4 ∷ [])
    ∷ (3 ∷ 0 ∷ 3 ∷ 0 ∷ 1 ∷ 3 ∷ 4 ∷ 4 ∷ [])
    ∷ (0 ∷ 0 ∷ 3 ∷ 3 ∷ 1 ∷ 1 ∷ 4 ∷ 4 ∷ [])
    ∷ (0 ∷ 3 ∷ 1 ∷ 3 ∷ 0 ∷ 3 ∷ 2 ∷ 3 ∷ [])
    ∷ []

abbrev pub minor_loops : List (List ℕ)
minor_loops =
    (5 ∷ 3 ∷ 5 ∷ 3 ∷ 5 ∷ 3 ∷ 5 ∷ 3 ∷ [])
    ∷ (5 ∷ 1 ∷ 5 ∷ 1 ∷ 5 ∷ 1 ∷ 5 ∷ 1 ∷ [])
    ∷ (5 ∷ 5 ∷ 3 ∷ 3 ∷ 5 ∷ 5 ∷ 3 ∷ 3 ∷ [])
    ∷ (5 ∷ 3 ∷ 1 ∷ 5 ∷ 5 ∷ 3 ∷ 1 ∷ 5 ∷ [])
    ∷ (5 ∷ 1 ∷ 3 ∷ 5 ∷ 5 ∷ 1 ∷ 3 ∷ 5 ∷ [])
    ∷ (5 ∷ 3 ∷ 4 ∷ 5 ∷ 5 ∷ 3 ∷ 4 ∷ 5 ∷ [])
    ∷ (5 ∷ 0 ∷ 3 ∷ 4 ∷ 5 ∷ 0 ∷ 3 ∷ 4 ∷ [])
    ∷ (5 ∷ 1 ∷ 3 ∷ 4 ∷ 5 ∷ 1 ∷ 3 ∷ 4 ∷ [])
    ∷ (5 ∷ 2 ∷ 3 ∷ 1 ∷ 5 ∷ 2 ∷ 3 ∷ 1 ∷ [])
    ∷ (3 ∷ 4 ∷ 5 ∷ 5 ∷ 3 ∷ 4 ∷ 5 ∷ 5 ∷ [])
    ∷ (3 ∷ 2 ∷ 1 ∷ 5 ∷ 3 ∷ 2 ∷ 1 ∷ 5 ∷ [])
    ∷ (5 ∷ 3 ∷ 5 ∷ 3 ∷ 1 ∷ 3 ∷ 4 ∷ 4 ∷ [])
    ∷ (5 ∷ 1 ∷ 3 ∷ 5 ∷ 5 ∷ 1 ∷ 2 ∷ 2 ∷ [])
    ∷ (5 ∷ 3 ∷ 1 ∷ 5 ∷ 3 ∷ 0 ∷ 4 ∷ 2 ∷ [])
    ∷ (5 ∷ 5 ∷ 3 ∷ 3 ∷ 1 ∷ 1 ∷ 2 ∷ 2 ∷ [])
    ∷ []

abbrev pub loops_of : Bool → List (List ℕ)
loops_of true = major_loops
loops_of false = minor_loops

abbrev pub rows_of : Bool → ℕ
rows_of true = 16
rows_of false = 15

abbrev pub loop_at : Bool → ℕ → List ℕ
loop_at major row = get_or (loops_of major) row []

-- ---- the scale: the key's pentatonic, and over a major loop its major seventh
abbrev pub pentatonic : List ℕ
pentatonic = 0 ∷ 2 ∷ 4 ∷ 7 ∷ 9 ∷ []

abbrev pub colour : Bool → List ℕ
colour true = 11 ∷ []
colour false = []

abbrev pub class_in : ℕ → ℕ → ℕ
class_in key pc = (pc + key) % 12

abbrev pub classes_of : ℕ → Bool → List ℕ
classes_of key major = map (class_in key) (pentatonic ++ colour major)

-- a list of at most six in the struct
abbrev pub scale_of : List ℕ → Scale
scale_of pcs = record { pcs = pad 0 6 pcs; n = length pcs }

unfoldable pub melody_pcs_of : ℕ → Bool → Scale
melody_pcs_of key major = scale_of (classes_of key major)

-- ---- the harmony
abbrev pub chord_in : ℕ → ℕ → Chord
chord_in key d = voiced_of (degree_at d) key

unfoldable pub chords_of : ℕ → List ℕ → List Chord
chords_of key row = map (chord_in key) row

unfoldable pub harmony_in : Bool → ℕ → ℕ → Harmony
harmony_in major row key = record { scale = melody_pcs_of key major; bars = chords_of key (loop_at major row) }

-- major or minor, the row, the key
unfoldable pub harmony_of : NoiseStream → Style → Draw Harmony
harmony_of s style =
    let a = chance_of s (major_share_of style) in
    let b = pick_of a.stream (rows_of a.value) in
    let c = pick_of b.stream 12 in
    record { value = harmony_in a.value b.value c.value; stream = c.stream }

-- ---- what the other stages ask of a harmony: some key's scale, and in each bar one of its chords
pub record Tonal (h : Harmony) : Type 0 where
  pub major : Bool
  pub key : ℕ
  pub degree : ℕ → ℕ
  pub key_lt : key < 12
  pub degree_lt : (k : ℕ) → degree k < 6
  pub scale : h.scale ≡ melody_pcs_of key major
  pub bar : (k : ℕ) → k < 8 → get_or h.bars k past_chord ≡ voiced_of (degree_at (degree k)) key

-- the eight chords of four notes
abbrev pub notes_in : Chord → List ℕ
notes_in c = c.notes

abbrev pub notes_of : List Chord → List (List ℕ)
notes_of bars = map notes_in bars
