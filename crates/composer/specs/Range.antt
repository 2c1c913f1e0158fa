-- How low and how high the MIDI notes of a score are. Definitions only.
use Rattle.std.specs.Prelude.{◌≡◌, ℕ, ◌≤◌, ◌<◌, length, get_or}
use Rattle.composer.specs.Chord.{past_chord}
use Rattle.composer.specs.Note.{past_note}
use Rattle.composer.specs.declared.score.Score.{Score}

-- from lo to hi
pub record Within (lo hi n : ℕ) : Type 0 where
  pub least : lo ≤ n
  pub most : n ≤ hi

-- all of them are MIDI notes, at most 127
pub record RangePromise (s : Score) : Type 0 where
  pub chord_size : (b : ℕ) → b < 8 → length (get_or s.bar_chords b past_chord).notes ≡ 4
  pub chords : (b k : ℕ) → b < 8 → k < 4 → Within 48 70 (get_or (get_or s.bar_chords b past_chord).notes k 0)
  pub lead : (i : ℕ) → i < s.lead.n → Within 60 81 (get_or s.lead.at i past_note).midi
  pub keys : (i : ℕ) → i < s.keys.n → Within 48 73 (get_or s.keys.at i past_note).midi
  pub bass : (i : ℕ) → i < s.bass.n → Within 30 42 (get_or s.bass.at i past_note).midi
