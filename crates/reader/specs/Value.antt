-- Which values a sheet can have: every number in its range, counts within the capacities, unused entries zero; as
-- tests, and once more as facts. Definitions only.
use Rattle.std.specs.Prelude.{Bool, true, false, ◌&&◌, List, ◌≡◌, ℕ, ◌^◌, ◌≤◌, ◌<◌, T, length, get_or}
use Rattle.std.specs.Float.Ieee.Scale.{finite}
use Rattle.composer.specs.Chord.{past_chord, no_chord}
use Rattle.composer.specs.Form.{parts_of}
use Rattle.composer.specs.Form.Plays.{silent}
use Rattle.composer.specs.Note.{no_note, past_note, no_hit, past_hit}
use Rattle.composer.specs.Plain.{Fits32}
use Rattle.composer.specs.Roles.{Leads, Backs}
use Rattle.composer.specs.declared.chord.Chord.{Chord}
use Rattle.composer.specs.declared.note.Hit.{Hit}
use Rattle.composer.specs.declared.note.Note.{Note}
use Rattle.pages.specs.Writable.{FiniteNote, FiniteHit}
use Rattle.pages.specs.declared.edition.Edition.{Edition}
use Rattle.reader.specs.Cleared.{cleared}
use Rattle.reader.specs.Within.{within}
use Rattle.reader.specs.declared.song.Song.{Song}

-- what the writer takes
unfoldable pub valid : Song → Bool
valid v = within v && cleared v

-- ---- what the code's types say of every value: arrays of their lengths, numbers that an f32 holds, a seed of 64 bits
pub record TypedNote (n : Note) : Type 0 where
  pub at : Fits32 n.at
  pub vel : Fits32 n.vel
  pub dur : Fits32 n.dur

pub record TypedHit (h : Hit) : Type 0 where
  pub at : Fits32 h.at
  pub gain : Fits32 h.gain

pub record TypedLane {A : Type 0} (P : A → Type 0) (d : A) (cap : ℕ) (xs : List A) : Type 0 where
  pub size : length xs ≡ cap
  pub each : (i : ℕ) → i < cap → P (get_or xs i d)

pub record Shaped (v : Song) : Type 0 where
  pub bpm : Fits32 v.score.bpm
  pub chords : TypedLane (λ c. length c.notes ≡ 4) past_chord 8 v.score.bar_chords
  pub lead : TypedLane TypedNote past_note 56 v.score.lead.at
  pub keys : TypedLane TypedNote past_note 128 v.score.keys.at
  pub hits : TypedLane TypedHit past_hit 98 v.score.hits.at
  pub bass : TypedLane TypedNote past_note 104 v.score.bass.at
  pub pcs : length v.scale.pcs ≡ 6
  pub plays : length v.form.plays ≡ 64

pub record Typed (v : Song) : Type 0 where
  pub seed : v.seed < 2 ^ 64
  pub shape : Shaped v

-- ---- what `valid` tests, in facts; `ValueTells` (Promise.antt) has both equal
-- an array of `cap` entries: the first n as P says, the others z; d stands past its end
pub record Padded {A : Type 0} (P : A → Type 0) (d z : A) (cap : ℕ) (xs : List A) (n : ℕ) : Type 0 where
  pub size : length xs ≡ cap
  pub few : n ≤ cap
  pub used : (i : ℕ) → i < n → P (get_or xs i d)
  pub rest : (i : ℕ) → n ≤ i → i < cap → get_or xs i d ≡ z

-- of which nothing is asked
abbrev pub Any : {A : Type 0} → A → Type 0
Any x = Unit

-- in edition 2 the lead's notes have one of its six roles, and all others that of keys and bass; in edition 1 all have
-- it
abbrev pub RoleIn : Edition → Bool → Note → Type 0
RoleIn Edition.One leads x = Backs x
RoleIn Edition.Two true x = Leads x
RoleIn Edition.Two false x = Backs x

pub record NoteIn (edition : Edition) (leads : Bool) (x : Note) : Type 0 where
  pub bar : x.bar < 8
  pub midi : x.midi ≤ 127
  pub role : RoleIn edition leads x
  pub spare : x.spare ≡ 0
  pub numbers : FiniteNote x
  pub typed : TypedNote x

pub record HitIn (x : Hit) : Type 0 where
  pub bar : x.bar < 8
  pub spare : x.spare ≡ 0
  pub numbers : FiniteHit x
  pub typed : TypedHit x

pub record ChordIn (c : Chord) : Type 0 where
  pub size : length c.notes ≡ 4
  pub notes : (k : ℕ) → k < 4 → get_or c.notes k 0 ≤ 127

pub record Value (v : Song) : Type 0 where
  pub bpm : T (finite v.score.bpm)
  pub bpm_fits : Fits32 v.score.bpm
  pub chords : Padded ChordIn past_chord no_chord 8 v.score.bar_chords 8
  pub lead : Padded (NoteIn v.edition true) past_note no_note 56 v.score.lead.at v.score.lead.n
  pub keys : Padded (NoteIn v.edition false) past_note no_note 128 v.score.keys.at v.score.keys.n
  pub hits : Padded HitIn past_hit no_hit 98 v.score.hits.at v.score.hits.n
  pub bass : Padded (NoteIn v.edition false) past_note no_note 104 v.score.bass.at v.score.bass.n
  pub classes : Padded (λ c. c < 12) 0 0 6 v.scale.pcs v.scale.n
  pub classes_least : 5 ≤ v.scale.n
  pub phrases : (4 ≤ v.form.phrases) × (v.form.phrases ≤ 6)
  pub parts : parts_of v.form ≡ v.form.bars
  pub plays : Padded Any silent silent 64 v.form.plays v.form.bars
