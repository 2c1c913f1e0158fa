-- The times of a score's kicks in order, and a score with no drums. Definitions only.
use Rattle.std.specs.Prelude.{Bool, true, false, cond, List, [], ◌∷◌, leb, take, replicate, Float, Result, Ok, Err}
use Rattle.laws.specs.Order.{total_le}
use Rattle.laws.specs.Sorts.{sort}
use Rattle.composer.specs.Few.{few_of}
use Rattle.composer.specs.Note.{zero32, no_hit}
use Rattle.composer.specs.declared.refusal.Refusal.{Refusal}
use Rattle.composer.specs.declared.note.Hit.{Hit}
use Rattle.composer.specs.declared.note.DrumKind.{DrumKind}
use Rattle.composer.specs.declared.score.Score.{Score}
use Rattle.composer.specs.declared.few.Few.{Few}

-- the times of the kicks, in order; the entries behind the first n are 0
abbrev pub KickTimes : Type 0
KickTimes = Few Float 98

abbrev pub is_kick : DrumKind → Bool
is_kick DrumKind.Kick = true
is_kick DrumKind.Snare = false
is_kick DrumKind.Hat = false
is_kick DrumKind.OpenHat = false

-- the times of those hits that are kicks
unfoldable pub times_of : List Hit → List Float
times_of [] = []
times_of (h ∷ hs) = cond (is_kick h.kind) (h.at ∷ times_of hs) (times_of hs)

-- a list of at most 98 in the struct
abbrev pub kick_times : List Float → KickTimes
kick_times xs = few_of zero32 98 xs

-- a score's kicks in order, as a list
unfoldable pub kicks_in : Score → List Float
kicks_in score = sort total_le (times_of (take score.hits.n score.hits.at))

unfoldable pub kicks_of : Score → Result KickTimes Refusal
kicks_of score = cond (leb score.hits.n 98) (Ok (kick_times (kicks_in score))) (Err Refusal.Malformed)

abbrev pub unbeaten_of : Score → Score
unbeaten_of score = record {
  style = score.style;
  bpm = score.bpm;
  bar_chords = score.bar_chords;
  lead = score.lead;
  keys = score.keys;
  hits = record { at = replicate 98 no_hit; n = 0 };
  bass = score.bass;
  lead_voice = score.lead_voice;
}
