-- Every f32 of a score is a plain number: one that f32 holds, finite, no negative zero, and within bounds that suit
-- what it says; and every spare byte is zero. Definitions only.
use Rattle.std.specs.Prelude.{◌≡◌, ℕ, ◌<◌, T, get_or, Float}
use Rattle.std.specs.Float.{binary32}
use Rattle.std.specs.Float.Ieee.{of_bits, fits}
use Rattle.laws.specs.Floats.{f32_of, In}
use Rattle.composer.specs.Note.{zero32, past_note, past_hit}
use Rattle.composer.specs.declared.note.Note.{Note}
use Rattle.composer.specs.declared.note.Hit.{Hit}
use Rattle.composer.specs.declared.score.Score.{Score}

-- 27.3 s, the f32 just under it; eight bars take 27.43 s at the slowest
abbrev pub latest : Float
latest = of_bits binary32 0x41da_6666

-- 0.2 and 1.0
abbrev pub softest : Float
softest = of_bits binary32 0x3e4c_cccd

abbrev pub loudest : Float
loudest = of_bits binary32 0x3f80_0000

-- 0.15 s and 4.0 s
abbrev pub shortest : Float
shortest = of_bits binary32 0x3e19_999a

abbrev pub longest : Float
longest = of_bits binary32 0x4080_0000

-- a value of f32
abbrev pub Fits32 : Float → Type 0
Fits32 x = T (fits binary32 x)

pub record PlainNote (x : Note) : Type 0 where
  pub at : In zero32 latest x.at
  pub vel : In softest loudest x.vel
  pub dur : In shortest longest x.dur
  pub at_fits : Fits32 x.at
  pub vel_fits : Fits32 x.vel
  pub dur_fits : Fits32 x.dur
  pub spare : x.spare ≡ 0

pub record PlainHit (x : Hit) : Type 0 where
  pub at : In zero32 latest x.at
  pub gain : In softest loudest x.gain
  pub at_fits : Fits32 x.at
  pub gain_fits : Fits32 x.gain
  pub spare : x.spare ≡ 0

-- the tempo, and every note and hit in use
pub record PlainPromise (s : Score) : Type 0 where
  pub bpm : In (f32_of 70) (f32_of 82) s.bpm
  pub bpm_fits : Fits32 s.bpm
  pub lead : (i : ℕ) → i < s.lead.n → PlainNote (get_or s.lead.at i past_note)
  pub keys : (i : ℕ) → i < s.keys.n → PlainNote (get_or s.keys.at i past_note)
  pub hits : (i : ℕ) → i < s.hits.n → PlainHit (get_or s.hits.at i past_hit)
  pub bass : (i : ℕ) → i < s.bass.n → PlainNote (get_or s.bass.at i past_note)
