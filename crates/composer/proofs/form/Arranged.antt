-- The form of every seed keeps its promise: the body's bars are those of the decisions, and no look-up is refused.
-- Assumes nothing.
use mathlib.Core.Path.{◌≡◌, refl, sym, ap, ◌∙◌}
use mathlib.Core.Bool.{Bool, true, false, not, ◌&&◌, and-false}
use Prim.Native.Nat.{ℕ, ◌+◌, ◌-◌, ◌*◌, ◌/◌, ◌<◌}
use native.Mathlib.Omega.{arith}
use borrow.Author.Tests.{eq-eqb, ne_eqb}
use lib.Dec.{leb, eqb}
use lib.ListN.{get_or}
use Rattle.laws.specs.Lists.{list_to}
use Rattle.laws.proofs.Lists.{length_pad, pad_past, length_list_to}
use Rattle.composer.specs.Refusal.{Gives}
use Rattle.composer.specs.Form.{intro_bars_of, loop_bar_of}
use Rattle.composer.specs.Form.Plays.{silent}
use Rattle.composer.specs.Form.Body.{is_break, whole_break, cut_at, cut_heard, body_bar_of}
use Rattle.composer.specs.Form.Song.{intro_of, outro_of, intro_length, song_length, song_bar_of, form_of, decisions_of, arrange_of}
use Rattle.composer.specs.Form.Promise.{BodyPromise, plays_at, strikes, body_strikes, FormPromise}
use Rattle.composer.specs.declared.form.Form.{Form}
use Rattle.composer.specs.declared.form.plays.Plays.{Plays}
use Rattle.composer.specs.declared.form.decisions.Decisions.{Decisions}
use Rattle.composer.proofs.form.AskLaws.{plays_found}
use Rattle.composer.proofs.form.BackLaws.{drums_return}
use Rattle.composer.proofs.form.BodyLaws.{body_promise}
use Rattle.composer.proofs.form.DecisionsLaws.{decide_counter}
use Rattle.composer.proofs.form.EndsLaws.{end_bars_is, outro_length_is}
use Rattle.composer.proofs.form.OverLaws.{over_pad, song_over}
use Rattle.composer.proofs.form.PromiseLaws.{promise_more}
use Rattle.composer.proofs.form.SongLaws.{drawn_phrases_least, drawn_phrases_most, drawn_cuts_short, form_bar, body_bar, arranged_sound, arranged_bars}

-- ---- a cut never stands just before a whole break
pub no_cut_before_break : (d : Decisions) (p : ℕ) → whole_break d ≡ true → p + 1 ≡ d.phrases / 2 → cut_heard d p ≡ false
unfolding cut_heard
no_cut_before_break d p whole e =
    rw (eq-eqb (p + 1) (d.phrases / 2) e, whole, and-false (not (eqb p (d.phrases / 2))), and-false (leb 1 p && leb (p + 2) d.phrases), and-false (d.cutting && (cut_at d p).on))

bar_before_break : (d : Decisions) (b : ℕ) → whole_break d ≡ true → b / 8 + 1 ≡ d.phrases / 2 → (body_bar_of d b).drums ≡ true
unfolding body_bar_of
bar_before_break d b whole e =
    let other : eqb (b / 8) (d.phrases / 2) ≡ false = ne_eqb (b / 8) (d.phrases / 2) (omega arith) in
    rw (other, no_cut_before_break d (b / 8) whole e, and-false (is_break d.thinning))

dip_dropped : (d : Decisions) → cut_heard d 1 ≡ true → (form_of d).dip ≡ false
unfolding form_of
dip_dropped d e = rw (e, and-false d.dip)

-- ---- the bars of an arranged form
module _ (seed : ℕ) where
  abbrev f : Form
  f = arrange_of seed

  abbrev d : Decisions
  d = decisions_of seed

  found_at : (b : ℕ) → b < f.bars → plays_at f b ≡ Gives (get_or f.plays b silent)
  found_at = plays_found f (arranged_sound seed)

  body_at : (b : ℕ) → b < 8 * d.phrases → plays_at f (intro_bars_of f + b) ≡ Gives (body_bar_of d b)
  unfolding form_of
  body_at b h = found_at (intro_length d + b) (omega arith) ∙ ap (λ (p : Plays). Gives p) (body_bar d b h)

  strikes_at : (layer : Plays → Bool) (b : ℕ) → b < 8 * d.phrases → layer (body_bar_of d b) ≡ true → body_strikes f layer b ≡ true
  strikes_at layer b h e = rw (body_at b h) e

  bass_over : (b : ℕ) → b < f.bars → strikes (λ p. p.bass) (plays_at f b) ≡ true → strikes (λ p. p.pad) (plays_at f b) ≡ true
  unfolding form_of
  bass_over b h = rw (found_at b h) (over_pad (get_or f.plays b silent) (rw (form_bar d b h) (song_over seed (intro_length d) b)))

  drums_at_lem : (b : ℕ) → b < f.bars → strikes (λ p. p.drums) (plays_at f b) ≡ (song_bar_of d (intro_length d) b).drums
  unfolding form_of
  drums_at_lem b h = rw (found_at b h, form_bar d b h)

  drums_back : (b : ℕ) → b + 1 < f.bars → strikes (λ p. p.drums) (plays_at f b) ≡ false → strikes (λ p. p.drums) (plays_at f (b + 1)) ≡ true → loop_bar_of f (b + 1) ≡ 0
  unfolding form_of
  drums_back b h out back =
      let c = drums_return d (intro_length d) b (sym (drums_at_lem b (omega arith)) ∙ out) (sym (drums_at_lem (b + 1) h) ∙ back) in
      omega (arith, c.0, c.1)

  body : BodyPromise d.phrases (body_strikes f (λ p. p.pad)) (body_strikes f (λ p. p.drums)) (body_strikes f (λ p. p.bass))
  body =
      promise_more d.phrases (λ b. (body_bar_of d b).pad) (λ b. (body_bar_of d b).drums) (λ b. (body_bar_of d b).bass) (body_strikes f (λ p. p.pad)) (body_strikes f (λ p. p.drums))
      (body_strikes f (λ p. p.bass)) (strikes_at (λ p. p.pad)) (strikes_at (λ p. p.drums)) (strikes_at (λ p. p.bass))
      (body_promise d (drawn_cuts_short seed) (drawn_phrases_most seed) (drawn_phrases_least seed))

  pub arranged_promise : FormPromise seed (arrange_of seed)
  unfolding form_of
  arranged_promise =
      let P = d.phrases in
      let least = drawn_phrases_least seed in
      let most = drawn_phrases_most seed in
      record {
        draws = decide_counter seed;
        phrases = (least, most);
        intro_bars = end_bars_is (intro_of d.opening d.long_intro);
        outro_bars = outro_length_is (outro_of d.closing d.long_outro);
        song_bars = refl;
        most = arranged_bars seed;
        size = length_pad silent 64 (list_to (song_bar_of d (intro_length d)) (song_length d)) (omega (arith, length_list_to (song_bar_of d (intro_length d)) (song_length d), arranged_bars seed));
        rest = λ b h. pad_past silent 64 (list_to (song_bar_of d (intro_length d)) (song_length d)) b (omega (arith, length_list_to (song_bar_of d (intro_length d)) (song_length d), h));
        found = λ b h. (get_or f.plays b silent, found_at b h);
        over_pad = bass_over;
        body = body;
        before_break = λ whole. strikes_at (λ p. p.drums) (8 * (P / 2) - 1) (omega arith) (bar_before_break d (8 * (P / 2) - 1) whole (omega arith));
        drums_back = drums_back;
        dip = dip_dropped d;
      }
