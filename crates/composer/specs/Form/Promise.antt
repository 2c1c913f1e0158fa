-- What every song's form promises: demand 3's statements of chords, drums and bass with a bar for a page, and the
-- form's own. Definitions only.
use Rattle.std.specs.Prelude.{◌≡◌, Bool, true, false, ◌&&◌, ◌⊎◌, ℕ, ◌+◌, ◌-◌, ◌*◌, ◌/◌, ◌≤◌, ◌<◌, length, get_or}
use Rattle.laws.specs.Runs.{Among, RunsAtMost, lacking}
use Rattle.streams.specs.Stage.{stream_of}
use Rattle.streams.specs.declared.stage.Stage.{Stage}
use Rattle.composer.specs.Refusal.{Answer, Gives, Refuses, answered}
use Rattle.composer.specs.Form.{intro_bars_of, body_bars_of, outro_bars_of, loop_bar_of}
use Rattle.composer.specs.Form.Plays.{silent, all}
use Rattle.composer.specs.Form.Decisions.{decide_of}
use Rattle.composer.specs.Form.Body.{whole_break, cut_heard}
use Rattle.composer.specs.Form.Song.{decisions_of}
use Rattle.composer.specs.Form.Ask.{plays_of, beatless_form, beatless_of}
use Rattle.composer.specs.Form.Spans.{edged_of}
use Rattle.composer.specs.declared.form.Form.{Form}
use Rattle.composer.specs.declared.form.plays.Plays.{Plays}

-- a body of P phrases: `chord b`, `drums b` and `bass b` say what bar b of its 8 * P has
pub record BodyPromise (P : ℕ) (chord drums bass : ℕ → Bool) : Type 0 where
  pub chords : (b : ℕ) → b < 8 * P → chord b ≡ true
  -- wherever one starts, at most 8 running lack drums, and at most 11 bass
  pub drums_running : RunsAtMost 8 drums (8 * P)
  pub bass_running : RunsAtMost 11 bass (8 * P)
  -- any 12 running include one with drums and bass
  pub together : (b : ℕ) → b + 12 ≤ 8 * P → Among b 12 (λ k. drums k && bass k)
  -- and in all
  pub drums_in_all : lacking drums (8 * P) + 4 ≤ 3 * P
  pub bass_in_all : lacking bass (8 * P) + 1 ≤ 3 * P

-- what `plays` answers of song bar b, as document 01 has it
abbrev pub plays_at : Form → ℕ → Answer Plays
plays_at f b = answered (plays_of f b)

abbrev pub strikes : (Plays → Bool) → Answer Plays → Bool
strikes layer (Gives p) = layer p
strikes layer (Refuses n) = false

-- the layer strikes in body bar b
abbrev pub body_strikes : Form → (Plays → Bool) → ℕ → Bool
body_strikes f layer b = strikes layer (plays_at f (intro_bars_of f + b))

-- the form of a seed
pub record FormPromise (seed : ℕ) (f : Form) : Type 0 where
  pub draws : (decide_of (stream_of Stage.Form seed)).stream.counter ≡ 29
  pub phrases : (4 ≤ f.phrases) × (f.phrases ≤ 6)
  pub intro_bars : (intro_bars_of f ≡ 0) ⊎ ((intro_bars_of f ≡ 4) ⊎ (intro_bars_of f ≡ 8))
  pub outro_bars : (outro_bars_of f ≡ 0) ⊎ ((outro_bars_of f ≡ 2) ⊎ ((outro_bars_of f ≡ 4) ⊎ (outro_bars_of f ≡ 8)))
  pub song_bars : f.bars ≡ intro_bars_of f + 8 * f.phrases + outro_bars_of f
  pub most : f.bars ≤ 64
  pub size : length f.plays ≡ 64
  -- nothing plays past the song
  pub rest : (b : ℕ) → f.bars ≤ b → get_or f.plays b silent ≡ silent
  -- no bar of the song is refused
  pub found : (b : ℕ) → b < f.bars → (p : Plays) × (plays_at f b ≡ Gives p)
  -- wherever the bass plays, the pad has its chord
  pub over_pad : (b : ℕ) → b < f.bars → strikes (λ p. p.bass) (plays_at f b) ≡ true → strikes (λ p. p.pad) (plays_at f b) ≡ true
  pub body : BodyPromise f.phrases (body_strikes f (λ p. p.pad)) (body_strikes f (λ p. p.drums)) (body_strikes f (λ p. p.bass))
  -- a whole break is not preceded by a cut: the bar before it has drums
  pub before_break : whole_break (decisions_of seed) ≡ true → body_strikes f (λ p. p.drums) (8 * (f.phrases / 2) - 1) ≡ true
  -- drums that come back do so at loop bar 0
  pub drums_back : (b : ℕ) → b + 1 < f.bars → strikes (λ p. p.drums) (plays_at f b) ≡ false → strikes (λ p. p.drums) (plays_at f (b + 1)) ≡ true → loop_bar_of f (b + 1) ≡ 0
  -- the dip is dropped where phrase 1 was cut
  pub dip : cut_heard (decisions_of seed) 1 ≡ true → f.dip ≡ false

-- a form without its beat: the body plays all, no edge and no dip move, and the other bars keep their plays
pub record BeatlessPromise (f : Form) : Type 0 where
  pub answer : answered (beatless_of f) ≡ Gives (beatless_form f)
  pub intro : (b : ℕ) → b < intro_bars_of f → plays_at (beatless_form f) b ≡ plays_at f b
  pub body : (b : ℕ) → b < body_bars_of f → plays_at (beatless_form f) (intro_bars_of f + b) ≡ Gives all
  pub outro : (b : ℕ) → intro_bars_of f + body_bars_of f ≤ b → plays_at (beatless_form f) b ≡ plays_at f b
  pub still : edged_of (beatless_form f) ≡ false
