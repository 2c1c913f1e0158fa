-- Kicks in words, and scores of hits that no draw need give. Definitions only.
use Rattle.std.specs.Prelude.{cond, List, [], ◌∷◌, ℕ, ◌+◌, ◌-◌, ◌*◌, ◌^◌, ◌%◌, eqb, ltb, get_or, Result}
use Rattle.std.specs.Result.{result_unwrap_or}
use Rattle.std.specs.Float.{nan, binary32}
use Rattle.std.specs.Float.Ieee.{to_bits, of_bits}
use Rattle.laws.specs.Lists.{list_to}
use Rattle.composer.specs.Compose.{compose_of}
use Rattle.composer.specs.Kicks.{KickTimes, kick_times}
use Rattle.composer.specs.Note.{zero32}
use Rattle.composer.specs.declared.note.DrumKind.{DrumKind}
use Rattle.composer.specs.declared.note.Hit.{Hit}
use Rattle.composer.specs.declared.score.Score.{Score}
use Rattle.composer.specs.declared.refusal.Refusal.{Refusal}
use Rattle.probe.specs.Forms.{outcome_number_of}
use Rattle.probe.specs.Scores.{song_or_none}

-- the refusal, 0 for none, how many times there are, then 98 places for them
unfoldable pub times_word_of : ℕ → KickTimes → ℕ → ℕ
times_word_of refusal t k =
    cond (eqb k 0) refusal
    (cond (eqb k 1) t.n
    (cond (ltb k 100) (to_bits binary32 (get_or t.at (k - 2) nan)) 0))

-- of what `kicks` answers; a refusal has no times
abbrev pub kicks_word_of : Result KickTimes Refusal → ℕ → ℕ
kicks_word_of a k = times_word_of (outcome_number_of a) (result_unwrap_or a (kick_times [])) k

-- ---- hits from words: their count, then for each the bits of its time and its drum's number
abbrev pub kinds : List DrumKind
kinds = DrumKind.Kick ∷ DrumKind.Snare ∷ DrumKind.Hat ∷ DrumKind.OpenHat ∷ []

-- a number of none is a kick
unfoldable pub kind_by : ℕ → DrumKind
kind_by n = get_or kinds n DrumKind.Kick

unfoldable pub hit_by : List ℕ → ℕ → Hit
hit_by words i = record {
  bar = 0;
  spare = 0;
  at = of_bits binary32 (get_or words (2 * i + 1) 0 % 2 ^ 32);
  kind = kind_by (get_or words (2 * i + 2) 0);
  gain = zero32;
}

-- a song's score with these hits
unfoldable pub score_by : List ℕ → Score
score_by words =
    let s = (song_or_none (compose_of 0 0)).score in
    record {
      style = s.style;
      bpm = s.bpm;
      bar_chords = s.bar_chords;
      lead = s.lead;
      keys = s.keys;
      hits = record { at = list_to (hit_by words) 98; n = get_or words 0 0 };
      bass = s.bass;
      lead_voice = s.lead_voice;
    }
