-- Every note of the melody is in the window and the scale, and each bar finds its notes and its room. Assumes nothing.
use mathlib.Core.Path.{◌≡◌, refl, ap, ◌∙◌}
use mathlib.Core.Logic.{⊎_elim}
use mathlib.Core.Bool.{Bool, cond}
use mathlib.Core.List.{List}
use Prim.Native.Nat.{ℕ, zero, suc, ◌+◌, ◌*◌, ◌≤◌, ◌<◌}
use native.Mathlib.Nat.{eq-or-lt_of_le}
use native.Mathlib.Numerals.{add-one}
use native.Mathlib.Omega.{arith}
use lib.Dec.{T, eqb, eqb-suc-zero}
use lib.ListN.{get_or, set, length, length-set}
use lib.Seq.{get_or-set_same, get_or-set_other}
use lib.Ieee.{nan}
use Rattle.streams.specs.declared.stream.NoiseStream.{NoiseStream}
use Rattle.composer.specs.Chord.{past_chord}
use Rattle.composer.specs.Lead.Beats.{Beats, past_beats}
use Rattle.composer.specs.Lead.Scale.{fits_of}
use Rattle.composer.specs.Lead.Line.{place_of}
use Rattle.composer.specs.Lead.Ground.{ground_of}
use Rattle.composer.specs.Lead.Melody.{past_lead, step_of, opening_of, first_sung_of, sing_of, bar_to, start_of, nothing_sung, bars_to, melody_of}
use Rattle.composer.specs.Lead.Sound.{Sound, Fit, Good, Ready}
use Rattle.composer.specs.declared.chord.Chord.{Chord}
use Rattle.composer.specs.declared.style.LeadStyle.{LeadStyle}
use Rattle.composer.specs.declared.lead.line.Place.{Place}
use Rattle.composer.specs.declared.lead.line.Line.{Line}
use Rattle.composer.specs.declared.lead.ground.Ground.{Ground}
use Rattle.composer.specs.declared.lead.melody.LeadNote.{LeadNote}
use Rattle.composer.specs.declared.lead.melody.LeadStep.{LeadStep}
use Rattle.composer.specs.declared.lead.melody.Sung.{Sung}
use Rattle.composer.proofs.lead.FitLaws.{fits_what}
use Rattle.composer.proofs.lead.PitchLaws.{step_note_fits, line_fits}

-- ---- one note more
module _ (pool : List Bool) (lo hi : ℕ) where
  notes_on : (l : List LeadNote) (n : ℕ) (x : LeadNote) → n < length l → ((j : ℕ) → j < n → T (fits_of pool lo hi (get_or l j past_lead).note)) → T (fits_of pool lo hi x.note)
      → (j : ℕ) → j < n + 1 → T (fits_of pool lo hi (get_or (set l n x) j past_lead).note)
  notes_on l n x k ns t j h =
      let u : j ≤ n = omega arith in
      ⊎_elim
      (λ (e : j ≡ n). rw (e, get_or-set_same l n x past_lead k) t)
      (λ (e : j < n). rw (get_or-set_other l n j x past_lead (λ q. omega arith)) (ns j e))
      (eq-or-lt_of_le u)

  first_on : (n p q : ℕ) → T (fits_of pool lo hi q) → T (fits_of pool lo hi (cond (eqb (n + 1) 0) p q))
  first_on n p q t = rw (add-one, eqb-suc-zero) t

  good_put : (l : List LeadNote) (n : ℕ) (x : LeadNote) (m : Line) → length l ≡ 56 → n < 56 → ((j : ℕ) → j < n → T (fits_of pool lo hi (get_or l j past_lead).note)) → T (fits_of pool lo hi x.note)
      → ((next : ℕ) → T (fits_of pool lo hi next) → Fit pool lo hi m next) → Good pool lo hi (record { notes = record { at = set l n x; n = n + 1 }; line = m })
  good_put l n x m e r ns t f =
      let all-on = notes_on l n x (omega arith) ns t in
      record {
        size = length-set l n x ∙ e;
        line = f _ (first_on n m.prev (get_or (set l n x) 0 past_lead).note (all-on 0 (omega arith)));
        notes = all-on;
      }

-- ---- a bar
module _ (pool : List Bool) (g : Ground) (bar : ℕ) (b : Beats) where
  pub bar_count : (m : Sung) (i : ℕ) → (bar_to pool g bar b m i).notes.n ≡ m.notes.n + i
  unfolding bar_to sing_of
  bar_count m zero = omega arith
  bar_count m (suc i) = omega (arith, bar_count m i)

  -- one note more, over the code's own equations
  pub bar_more : (m : Sung) (i : ℕ) (notes : List LeadNote) (count : ℕ) (line : Line) (p : Place) (first : ℕ) (t : LeadStep) → record { notes = record { at = notes; n = count }; line = line } ≡ bar_to pool g bar b m i
      → p ≡ place_of bar b i → first ≡ opening_of count line.prev (get_or notes 0 past_lead).note → t ≡ step_of pool g line p first
      → record { notes = record { at = set notes count (record { bar = bar; beat = get_or b.at i nan; note = t.note; role = t.role; vel = t.vel }); n = count + 1 }; line = t.line } ≡ bar_to pool g bar b m (i + 1)
  unfolding bar_to sing_of
  bar_more m i notes count line p first t e f h u =
      let n : i + 1 ≡ suc i = add-one i in
      rw (n, ← e, u, h, f)

  module _ (sound : Sound pool g) where
    good_sing : (m : Sung) (i : ℕ) → Good pool g.lo g.hi m → m.notes.n < 56 → Good pool g.lo g.hi (sing_of pool g bar b m i)
    unfolding sing_of step_of
    good_sing m i h room =
        let t = step_of pool g m.line (place_of bar b i) (first_sung_of m) in
        let fits = step_note_fits pool g sound m.line (place_of bar b i) (first_sung_of m) h.line in
        good_put pool g.lo g.hi m.notes.at m.notes.n (record { bar = bar; beat = get_or b.at i nan; note = t.note; role = t.role; vel = t.vel }) t.line h.size room h.notes fits
        (line_fits pool g.lo g.hi m.line (first_sung_of m) t.note h.line fits bar _)

    pub good_bar : (m : Sung) (i : ℕ) → Good pool g.lo g.hi m → m.notes.n + i ≤ 56 → Good pool g.lo g.hi (bar_to pool g bar b m i)
    unfolding bar_to
    good_bar m zero h room = h
    good_bar m (suc i) h room = good_sing (bar_to pool g bar b m i) i (good_bar m i h (omega arith)) (omega (arith, bar_count m i))

-- ---- the start
good_open : (pool : List Bool) (lo hi first : ℕ) (s : NoiseStream) → T (fits_of pool lo hi first) → Good pool lo hi (nothing_sung first s)
unfolding nothing_sung
good_open pool lo hi first s t =
    let w = fits_what pool lo hi first t in
    record {
      size = refl;
      line = record { low = w.0; high = w.1; size = refl; heads = omega arith; prev = t; head = (λ i h. absurd (omega arith)); first = t };
      notes = (λ i h. absurd (omega arith));
    }

-- ---- the eight bars
module _ (beats : List Beats) (bars : List Chord) (pool : List Bool) (style : LeadStyle) (ready : Ready beats bars pool style) where
  abbrev first : ℕ
  first = start_of style (get_or bars 0 past_chord) pool

  abbrev ground : ℕ → Ground
  ground k = ground_of style (get_or bars k past_chord) pool

  pub good_bars : (m : Sung) (k : ℕ) → k ≤ 8 → Good pool style.lo style.hi m → m.notes.n ≡ 0
      → Good pool style.lo style.hi (bars_to beats bars pool style m k) × ((bars_to beats bars pool style m k).notes.n ≤ 7 * k)
  unfolding bars_to ground_of
  good_bars m zero h g e = (g, omega arith)
  good_bars m (suc k) h g e =
      let before = good_bars m k (omega arith) g e in
      let few = ready.few k (omega arith) in
      let n = bars_to beats bars pool style m k in
      let b = get_or beats k past_beats in (
        good_bar pool (ground k) k b (ready.sound k (omega arith)) n b.n before.0 (omega (arith, before.1, few)),
        omega (arith, bar_count pool (ground k) k b n b.n, before.1, few),
      )

  pub good_start : (s : NoiseStream) (m : Sung) (from : ℕ) → from ≡ first → m ≡ nothing_sung from s → Good pool style.lo style.hi m × (m.notes.n ≡ 0)
  unfolding nothing_sung
  good_start s m from e f = rw (f, e) (good_open pool style.lo style.hi first s ready.start, refl)

  -- one bar more, over the code's own equations
  pub bars_more : (start m sung : Sung) (g : Ground) (k i : ℕ) → m ≡ bars_to beats bars pool style start k → g ≡ ground k → sung ≡ bar_to pool g k (get_or beats k past_beats) m i
      → i ≡ (get_or beats k past_beats).n → sung ≡ bars_to beats bars pool style start (k + 1)
  unfolding bars_to
  bars_more start m sung g k i e f h n =
      let next : k + 1 ≡ suc k = add-one k in
      rw next (rw (f, e) at (h ∙ ap (bar_to pool g k (get_or beats k past_beats) m) n))

  -- what note i of bar k asks, over the code's own equations
  pub note_asks : (s : NoiseStream) (from : ℕ) (start m sung : Sung) (g : Ground) (k i : ℕ) → from ≡ first → start ≡ nothing_sung from s → m ≡ bars_to beats bars pool style start k → g ≡ ground k
      → sung ≡ bar_to pool g k (get_or beats k past_beats) m i → k < 8 → i < (get_or beats k past_beats).n → Sound pool g × Good pool g.lo g.hi sung
  unfolding ground_of
  note_asks s from start m sung g k i e f h gs t k_lt i_lt =
      let b = get_or beats k past_beats in
      let opened = good_start s start from e f in
      let before = good_bars start k (omega arith) opened.0 opened.1 in
      let sound = ready.sound k k_lt in
      rw (t, h, gs) (sound, good_bar pool (ground k) k b sound (bars_to beats bars pool style start k) i before.0 (omega (arith, before.1, ready.few k k_lt)))

  -- every note is in the window and the scale, and there are at most 56
  pub melody_good : (s : NoiseStream) → Good pool style.lo style.hi (melody_of s beats bars pool style) × ((melody_of s beats bars pool style).notes.n ≤ 56)
  unfolding melody_of
  melody_good s =
      let g = good_start s (nothing_sung first s) first refl refl in
      let b = good_bars (nothing_sung first s) 8 (omega arith) g.0 g.1 in
      (b.0, omega (arith, b.1))
