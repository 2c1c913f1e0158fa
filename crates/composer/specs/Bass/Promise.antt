-- What a bass note sounds: its bar's root or fifth, or the note under the next bar's root. Definitions only.
use Rattle.std.specs.Prelude.{◌≡◌, List, ℕ, ◌+◌, ◌%◌, get_or}
use Rattle.composer.specs.Chord.{root_class_of, fifth_class_of, past_chord}
use Rattle.composer.specs.declared.chord.Chord.{Chord}

-- modulo 12: the root or the fifth of a chord, or the next chord's root less 1, which is 11 more
pub data Sounds (chord next : Chord) (midi : ℕ) : Type 0 where
  is_root : midi % 12 ≡ root_class_of chord → Sounds chord next midi
  is_fifth : midi % 12 ≡ fifth_class_of chord → Sounds chord next midi
  is_under : midi % 12 ≡ (root_class_of next + 11) % 12 → Sounds chord next midi

-- in a loop bar; loop bar 0 follows 7
abbrev pub SoundsIn : List Chord → ℕ → ℕ → Type 0
SoundsIn chords bar midi = Sounds (get_or chords bar past_chord) (get_or chords ((bar + 1) % 8) past_chord) midi
