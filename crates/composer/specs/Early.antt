-- Early hits: those, of any kind, whose time is below their bar line. Definitions only.
use Rattle.std.specs.Prelude.{◌≡◌, Bool, not, List, [], ℕ, ◌≤◌, ◌<◌, eqb, length, take, Float}
use Rattle.std.specs.Float.Ieee.{lt}
use Rattle.laws.specs.Lists.{filter_of}
use Rattle.composer.specs.Compose.{beat_s_of}
use Rattle.composer.specs.Timing.{bar_start_of}
use Rattle.composer.specs.declared.note.Hit.{Hit}
use Rattle.composer.specs.declared.score.Score.{Score}

-- the line is the start of the loop bar that the hit was drawn for
abbrev pub is_early : Float → Hit → Bool
is_early beatS h = lt h.at (bar_start_of h.bar beatS)

-- ---- the hits drawn for a loop bar, in the order drawn
abbrev pub hits_for : Score → ℕ → List Hit
hits_for s bar = filter_of (λ h. eqb h.bar bar) (take s.hits.n s.hits.at)

abbrev pub early_for : Score → ℕ → List Hit
early_for s bar = filter_of (is_early (beat_s_of s.bpm)) (hits_for s bar)

abbrev pub late_for : Score → ℕ → List Hit
late_for s bar = filter_of (λ h. not (is_early (beat_s_of s.bpm) h)) (hits_for s bar)

pub record EarlyPromise (s : Score) : Type 0 where
  -- at most one in a loop bar, and none in the first
  pub few : (bar : ℕ) → length (early_for s bar) ≤ 1
  pub first : early_for s 0 ≡ []
  -- every loop bar has a hit that is not early
  pub late : (bar : ℕ) → bar < 8 → 1 ≤ length (late_for s bar)
