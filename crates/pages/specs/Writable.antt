-- Which scores can be written: counts within the capacities, every number finite; and for a page, lanes in the order
-- of their bars. What composing gave can. Definitions only.
use Rattle.std.specs.Prelude.{◌≡◌, List, ℕ, ◌≤◌, ◌<◌, T, length, get_or, Result, IfOk}
use Rattle.std.specs.Float.Ieee.Scale.{finite}
use Rattle.composer.specs.Note.{past_note, past_hit}
use Rattle.composer.specs.Promise.{LanesPromise, ScorePromise}
use Rattle.composer.specs.declared.compose.Composed.{Composed}
use Rattle.composer.specs.declared.refusal.Refusal.{Refusal}
use Rattle.composer.specs.declared.note.Hit.{Hit}
use Rattle.composer.specs.declared.note.Note.{Note}
use Rattle.composer.specs.declared.score.Score.{Score}

-- an array of `cap` entries, of which n are in use
pub record Sized {A : Type 0} (cap : ℕ) (xs : List A) (n : ℕ) : Type 0 where
  pub size : length xs ≡ cap
  pub few : n ≤ cap

pub record SizedLanes (s : Score) : Type 0 where
  pub lead : Sized 56 s.lead.at s.lead.n
  pub keys : Sized 128 s.keys.at s.keys.n
  pub hits : Sized 98 s.hits.at s.hits.n
  pub bass : Sized 104 s.bass.at s.bass.n

pub record FiniteNote (x : Note) : Type 0 where
  pub at : T (finite x.at)
  pub vel : T (finite x.vel)
  pub dur : T (finite x.dur)

pub record FiniteHit (x : Hit) : Type 0 where
  pub at : T (finite x.at)
  pub gain : T (finite x.gain)

-- the tempo, and every note and hit in use, of either sign
pub record FiniteEvents (s : Score) : Type 0 where
  pub bpm : T (finite s.bpm)
  pub lead : (i : ℕ) → i < s.lead.n → FiniteNote (get_or s.lead.at i past_note)
  pub keys : (i : ℕ) → i < s.keys.n → FiniteNote (get_or s.keys.at i past_note)
  pub hits : (i : ℕ) → i < s.hits.n → FiniteHit (get_or s.hits.at i past_hit)
  pub bass : (i : ℕ) → i < s.bass.n → FiniteNote (get_or s.bass.at i past_note)

-- what a writer of a sheet asks of a score: no order of its events, no range, no sign
pub record Writable (s : Score) : Type 0 where
  pub lanes : SizedLanes s
  pub numbers : FiniteEvents s

-- a writer of a page finds a bar's events by the order of each lane
pub record Paged (s : Score) : Type 0 where
  pub lanes : LanesPromise s
  pub writable : Writable s

-- what composing gave: where it is a song, its score and its scale have what `ScorePromise` says
abbrev pub Promised : Result Composed Refusal → Type 0
Promised song = IfOk song (λ s. ScorePromise s.score.style s.score s.scale)
