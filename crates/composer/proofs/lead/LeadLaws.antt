-- The lead over every tonal harmony: at most 56 notes, each in the style's window and in the scale, bar by bar and at most 7 in each. Assumes nothing.
use mathlib.Core.Path.{◌≡◌, sym, ap, ◌∙◌}
use mathlib.Core.Bool.{true}
use Prim.Native.Nat.{ℕ, suc, ◌%◌, ◌≤◌, ◌<◌}
use native.Mathlib.Omega.{arith}
use lib.Dec.{eqb}
use lib.ListN.{get_or, take}
use lib.Ieee.{Float}
use Rattle.laws.specs.Lanes.{EachAtMost, Laid}
use Rattle.laws.specs.Sorts.{count}
use Rattle.laws.proofs.Counts.{count_same}
use Rattle.streams.specs.declared.stream.NoiseStream.{NoiseStream}
use Rattle.composer.specs.Harmony.{Tonal}
use Rattle.composer.specs.Note.{role_number_of, no_note, past_note, note_bar}
use Rattle.composer.specs.Roles.{Leads}
use Rattle.composer.specs.Style.{lead_style_of}
use Rattle.composer.specs.Lead.{sung_of, lead_of}
use Rattle.composer.specs.Lead.Rhythm.{rhythm_of}
use Rattle.composer.specs.Lead.Scale.{pcs_of, has_of, pool_of}
use Rattle.composer.specs.Lead.Melody.{no_lead, past_lead}
use Rattle.composer.specs.Lead.Role.{noted_of}
use Rattle.composer.specs.Lead.Sound.{Good, Ready}
use Rattle.composer.specs.declared.harmony.Harmony.{Harmony}
use Rattle.composer.specs.declared.style.Style.{Style}
use Rattle.composer.specs.declared.style.LeadStyle.{LeadStyle}
use Rattle.composer.specs.declared.lead.melody.Sung.{Sung}
use Rattle.composer.specs.declared.lead.role.Role.{Role}
use Rattle.composer.specs.declared.lead.role.Role.TheVariants.{Quote, Close, Peak, Resolve, ChordTone, Passing}
use Rattle.composer.proofs.lead.BarsLaws.{lead_bar, melody_laid, melody_few}
use Rattle.composer.proofs.lead.FitLaws.{fits_what}
use Rattle.composer.proofs.lead.GroundLaws.{ready}
use Rattle.composer.proofs.lead.MelodyLaws.{melody_good}
use Rattle.composer.proofs.lead.PlayedLaws.{played_count, played_size, played_keeps, played_rest}
use Rattle.composer.proofs.lead.RhythmLaws.{rhythm_few}
use Rattle.composer.proofs.lead.ScaleLaws.{pool_at}

noted_six : (role : Role) → role_number_of (noted_of role) < 6
noted_six Quote = omega arith
noted_six Close = omega arith
noted_six Peak = omega arith
noted_six Resolve = omega arith
noted_six ChordTone = omega arith
noted_six Passing = omega arith

module _ (s : NoiseStream) (h : Harmony) (tonal : Tonal h) (style : Style) where
  abbrev l : LeadStyle
  l = lead_style_of style

  pub song_ready : Ready (rhythm_of s l).value h.bars (pool_of h.scale) l
  song_ready = ready h tonal style (rhythm_of s l).value (rhythm_few s l)

  pub sung_good : Good (pool_of h.scale) l.lo l.hi (sung_of s h style) × ((sung_of s h style).notes.n ≤ 56)
  unfolding sung_of
  sung_good = melody_good (rhythm_of s l).value h.bars (pool_of h.scale) l song_ready (rhythm_of s l).stream

  sung_laid : Laid past_lead no_lead lead_bar 56 7 (sung_of s h style).notes.at (sung_of s h style).notes.n
  unfolding sung_of
  sung_laid = melody_laid (rhythm_of s l).stream (rhythm_of s l).value h.bars (pool_of h.scale) l song_ready

  sung_few : EachAtMost lead_bar 7 (take (sung_of s h style).notes.n (sung_of s h style).notes.at)
  unfolding sung_of
  sung_few = melody_few (rhythm_of s l).stream (rhythm_of s l).value h.bars (pool_of h.scale) l song_ready

  module _ (beatS : Float) where
    abbrev m : Sung
    m = sung_of s h style

    same_count : (lead_of s h style beatS).value.n ≡ m.notes.n
    unfolding lead_of
    same_count = played_count m beatS l.dur

    pub keeps : (i : ℕ) → i < (lead_of s h style beatS).value.n
        → ((get_or (lead_of s h style beatS).value.at i past_note).bar ≡ lead_bar (get_or m.notes.at i past_lead)) × ((get_or (lead_of s h style beatS).value.at i past_note).midi ≡ (get_or m.notes.at i past_lead).note)
        × ((get_or (lead_of s h style beatS).value.at i past_note).role ≡ noted_of (get_or m.notes.at i past_lead).role)
    unfolding lead_of
    keeps i a = played_keeps m beatS l.dur sung_good.1 i (omega (arith, same_count))

    -- each note is in the style's window, and its class in the scale
    pub lead_fits : (i : ℕ) → i < (lead_of s h style beatS).value.n
        → (l.lo ≤ (get_or (lead_of s h style beatS).value.at i past_note).midi) × ((get_or (lead_of s h style beatS).value.at i past_note).midi ≤ l.hi)
        × (has_of (pcs_of h.scale) ((get_or (lead_of s h style beatS).value.at i past_note).midi % 12) ≡ true)
    lead_fits i a =
        let note = (get_or m.notes.at i past_lead).note in
        let f = fits_what (pool_of h.scale) l.lo l.hi note (sung_good.0.notes i (omega (arith, same_count))) in
        rw (keeps i a).1 (f.0, f.1, sym (pool_at (pcs_of h.scale) (note % 12) (omega arith)) ∙ f.2)

    -- each note has one of the six roles
    pub lead_roles : (i : ℕ) → i < (lead_of s h style beatS).value.n → Leads (get_or (lead_of s h style beatS).value.at i past_note)
    lead_roles i a = rw (keeps i a).2 (noted_six (get_or m.notes.at i past_lead).role)

    -- at most 56 notes, bar after bar, and zero behind them
    pub lead_laid : Laid past_note no_note note_bar 56 7 (lead_of s h style beatS).value.at (lead_of s h style beatS).value.n
    unfolding lead_of
    lead_laid = record {
      size = played_size m beatS l.dur;
      few = omega (arith, same_count, sung_laid.few);
      rises = record {
        most = λ i a. rw (keeps i a).0 (sung_laid.rises.most i (omega (arith, same_count)));
        rise = λ i a. rw ((keeps i (omega arith)).0, (keeps (suc i) a).0) (sung_laid.rises.rise i (omega (arith, same_count)));
      };
      rest = λ i a b. played_rest m beatS l.dur i (omega (arith, same_count)) b;
    }

    same_in_bar : (v : ℕ) → count (λ x. eqb (note_bar x) v) (take (lead_of s h style beatS).value.n (lead_of s h style beatS).value.at) ≡ count (λ x. eqb (lead_bar x) v) (take (lead_of s h style beatS).value.n m.notes.at)
    same_in_bar v =
        count_same (λ x. eqb (note_bar x) v) (λ x. eqb (lead_bar x) v) past_note past_lead (lead_of s h style beatS).value.at m.notes.at (lead_of s h style beatS).value.n
        (omega (arith, lead_laid.few, lead_laid.size))
        (omega (arith, lead_laid.few, sung_laid.size))
        (λ i a. ap (λ (b : ℕ). eqb b v) (keeps i a).0)

    -- at most 7 notes in any one bar
    pub lead_few : EachAtMost note_bar 7 (take (lead_of s h style beatS).value.n (lead_of s h style beatS).value.at)
    lead_few v = rw (same_in_bar v, same_count) (sung_few v)
