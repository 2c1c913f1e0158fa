-- In every bar of a song the bass sounds over the pad's chord: so it is in each row of openings and closings, and in
-- the body the pad always plays. Assumes nothing.
use mathlib.Core.Path.{◌≡◌}
use mathlib.Core.Bool.{Bool, true, not, cond}
use Prim.Native.Nat.{ℕ, ◌-◌, ◌*◌}
use lib.Dec.{T, ltb}
use lib.Ieee.{Float}
use Rattle.laws.specs.Lists.{all_of}
use Rattle.laws.proofs.Bools.{holds, either}
use Rattle.laws.proofs.Lists.{all_at}
use Rattle.streams.specs.Stream.{unit_at}
use Rattle.streams.specs.Stage.{stream_of}
use Rattle.streams.specs.declared.stage.Stage.{Stage}
use Rattle.composer.specs.Band.{band_of}
use Rattle.composer.specs.Form.Plays.{silent}
use Rattle.composer.specs.Form.Body.{bass_out, body_bar_of}
use Rattle.composer.specs.Form.Decisions.{openings, intro_weights, closings, outro_weights, opening_of, closing_of, decisions_by, decide_of}
use Rattle.composer.specs.Form.Song.{intro_plays, outro_plays, song_bar_of, decisions_of}
use Rattle.composer.specs.declared.form.decisions.Opening.{Opening}
use Rattle.composer.specs.declared.form.decisions.Closing.{Closing}
use Rattle.composer.specs.declared.form.decisions.Decisions.{Decisions}
use Rattle.composer.specs.declared.form.plays.Plays.{Plays}

-- where the bass plays, so does the pad
abbrev over : Plays → Bool
over p = cond p.bass p.pad true

pub over_pad : (p : Plays) → T (over p) → p.bass ≡ true → p.pad ≡ true
over_pad p t e = holds p.pad (rw e at t)

-- ---- the rows
opens_over : (u : Float) → T (over (intro_plays (opening_of u)))
unfolding opening_of
opens_over u = all_at (λ o. over (intro_plays o)) (Opening.Sparse silent) tt openings (unfold all_of in tt) (band_of u intro_weights)

abbrev closes_over : Closing → Bool
closes_over (Closing.Sparse p) = over p
closes_over Closing.RingOut = true
closes_over (Closing.Edged e) = true
closes_over Closing.Cold = true

closes_over_lem : (u : Float) → T (closes_over (closing_of u))
unfolding closing_of
closes_over_lem u = all_at closes_over (Closing.Sparse silent) tt closings (unfold all_of in tt) (band_of u outro_weights)

outro_over : (c : Closing) (k : ℕ) → T (closes_over c) → T (over (outro_plays c k))
outro_over (Closing.Sparse p) k t = t
outro_over Closing.RingOut k t = tt
outro_over (Closing.Edged e) k t = tt
outro_over Closing.Cold k t = tt

-- ---- the song
body_over : (d : Decisions) (b : ℕ) → T (over (body_bar_of d b))
unfolding body_bar_of
body_over d b = either (λ (x : Bool). T x) (not (bass_out d b)) true true tt tt

bar_over : (d : Decisions) → T (over (intro_plays d.opening)) → T (closes_over d.closing) → (n b : ℕ) → T (over (song_bar_of d n b))
unfolding song_bar_of
bar_over d o c n b =
    let end = outro_plays d.closing (b - n - 8 * d.phrases) in
    let body = body_bar_of d (b - n) in
    either (λ (p : Plays). T (over p)) (ltb b n) (intro_plays d.opening) (cond (ltb (b - n) (8 * d.phrases)) body end) o
    (either (λ (p : Plays). T (over p)) (ltb (b - n) (8 * d.phrases)) body end (body_over d (b - n)) (outro_over d.closing (b - n - 8 * d.phrases) c))

pub song_over : (seed n b : ℕ) → T (over (song_bar_of (decisions_of seed) n b))
unfolding decide_of decisions_by
song_over seed n b =
    let draw = unit_at (stream_of Stage.Form seed) in
    bar_over (decisions_of seed) (opens_over (draw 1)) (closes_over_lem (draw 28)) n b
