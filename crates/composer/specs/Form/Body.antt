-- The body: P phrases of 8 bars, of which phrase P div 2, counted from 0, is thin. Definitions only.
use Rattle.std.specs.Prelude.{Bool, true, false, not, ◌&&◌, ◌||◌, ℕ, ◌+◌, ◌-◌, ◌/◌, ◌%◌, leb, eqb, get_or}
use Rattle.composer.specs.declared.form.plays.Plays.{Plays}
use Rattle.composer.specs.declared.form.decisions.Thinning.{Thinning}
use Rattle.composer.specs.declared.form.decisions.Cut.{Cut}
use Rattle.composer.specs.declared.form.decisions.Decisions.{Decisions}
use Rattle.composer.specs.declared.form.body.Phrase.{Phrase}

abbrev pub is_break : Thinning → Bool
is_break Thinning.Break = true
is_break Thinning.BassDrop = false
is_break Thinning.Steady = false

-- the thinning mutes the bass
abbrev pub takes_bass : Thinning → Bool → Bool
takes_bass Thinning.Break low = low
takes_bass Thinning.BassDrop low = true
takes_bass Thinning.Steady low = false

abbrev pub whole_break : Decisions → Bool
whole_break d = is_break d.thinning && d.whole

abbrev pub low_thinning : Decisions → Bool
low_thinning d = takes_bass d.thinning d.low_with_break

-- body bar b thins: all bars of the thin phrase, or its last 4
abbrev pub thins : Decisions → ℕ → Bool
thins d b = eqb (b / 8) (d.phrases / 2) && (d.whole || leb 4 (b % 8))

abbrev pub no_cut : Cut
no_cut = record { on = false; bars = 0; low = false }

abbrev pub cut_at : Decisions → ℕ → Cut
cut_at d p = get_or d.cuts p no_cut

-- phrase p may be cut: 1 ≤ p ≤ P - 2, p not thin, and not just before a whole break
abbrev pub may_cut : Decisions → ℕ → Bool
may_cut d p = (leb 1 p && leb (p + 2) d.phrases) && (not (eqb p (d.phrases / 2)) && not (eqb (p + 1) (d.phrases / 2) && whole_break d))

unfoldable pub cut_heard : Decisions → ℕ → Bool
cut_heard d p = (d.cutting && (cut_at d p).on) && may_cut d p

-- body bar b is among the last bars of its phrase, which a cut takes
abbrev pub cut_takes : Decisions → ℕ → Bool
cut_takes d b = cut_heard d (b / 8) && leb (8 - b % 8) (cut_at d (b / 8)).bars

-- the late bass drop: the second half of the phrase after the thin one, if drawn, P ≥ 5, and the thinning left the bass
abbrev pub late_drop : Decisions → ℕ → Bool
late_drop d b = ((d.bass_drop && leb 5 d.phrases) && not (low_thinning d)) && (eqb (b / 8) (d.phrases / 2 + 1) && leb 4 (b % 8))

abbrev pub drums_out : Decisions → ℕ → Bool
drums_out d b = (is_break d.thinning && thins d b) || cut_takes d b

abbrev pub bass_out : Decisions → ℕ → Bool
bass_out d b = ((low_thinning d && thins d b) || (cut_takes d b && (cut_at d (b / 8)).low)) || late_drop d b

unfoldable pub body_bar_of : Decisions → ℕ → Plays
body_bar_of d b = record { pad = true; keys = true; drums = not (drums_out d b); bass = not (bass_out d b) }

-- ---- as the code has the bars: from what their phrase loses, worked out once
unfoldable pub phrase_of : Decisions → ℕ → Phrase
phrase_of d p = record {
  breaks = is_break d.thinning;
  low = low_thinning d;
  thin = eqb p (d.phrases / 2);
  whole = d.whole;
  cuts = cut_heard d p;
  cut_bars = (cut_at d p).bars;
  cut_low = (cut_at d p).low;
  late_drop = ((d.bass_drop && leb 5 d.phrases) && not (low_thinning d)) && eqb p (d.phrases / 2 + 1);
}

-- bar i of a phrase
unfoldable pub phrase_bar_of : Phrase → ℕ → Plays
phrase_bar_of h i =
    let thinned = h.thin && (h.whole || leb 4 i) in
    let cut = h.cuts && leb (8 - i) h.cut_bars in
    let late = h.late_drop && leb 4 i in
    record {
      pad = true;
      keys = true;
      drums = not ((h.breaks && thinned) || cut);
      bass = not (((h.low && thinned) || (cut && h.cut_low)) || late);
    }
