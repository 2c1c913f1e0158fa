-- The melody's notes come bar by bar: their bars never fall, none is past bar 7, and no bar has more than 7. Assumes nothing.
use mathlib.Core.Path.{◌≡◌, refl}
use mathlib.Core.Bool.{Bool}
use mathlib.Core.List.{List}
use Prim.Native.Nat.{ℕ, zero, suc, ◌+◌, ◌*◌, ◌≤◌, ◌<◌}
use native.Mathlib.Omega.{arith}
use lib.ListN.{get_or, length, take, replicate}
use Rattle.laws.specs.Lanes.{EachAtMost, Laid}
use Rattle.laws.proofs.Lanes.{Grown, grown_none, grown_push, grown_then, bars_laid, bars_few}
use Rattle.streams.specs.declared.stream.NoiseStream.{NoiseStream}
use Rattle.composer.specs.Chord.{past_chord}
use Rattle.composer.specs.Lead.Beats.{Beats, past_beats}
use Rattle.composer.specs.Lead.Ground.{ground_of}
use Rattle.composer.specs.Lead.Melody.{no_lead, past_lead, sing_of, bar_to, start_of, nothing_sung, bars_to, melody_of}
use Rattle.composer.specs.Lead.Sound.{Good, Ready}
use Rattle.composer.specs.declared.chord.Chord.{Chord}
use Rattle.composer.specs.declared.style.LeadStyle.{LeadStyle}
use Rattle.composer.specs.declared.lead.ground.Ground.{Ground}
use Rattle.composer.specs.declared.lead.melody.LeadNote.{LeadNote}
use Rattle.composer.specs.declared.lead.melody.Sung.{Sung}
use Rattle.composer.proofs.lead.MelodyLaws.{bar_count, good_bars, good_start}

abbrev pub lead_bar : LeadNote → ℕ
lead_bar x = x.bar

module _ (pool : List Bool) (g : Ground) (bar : ℕ) (b : Beats) where
  pub sing_grown : (m : Sung) (i : ℕ) → m.notes.n < length m.notes.at → Grown past_lead (λ x. x.bar ≡ bar) m.notes.at (sing_of pool g bar b m i).notes.at m.notes.n (sing_of pool g bar b m i).notes.n
  unfolding sing_of
  sing_grown m i room = grown_push past_lead (λ x. x.bar ≡ bar) m.notes.at m.notes.n _ room refl

  pub bar_grown : (m : Sung) (i : ℕ) → m.notes.n + i ≤ length m.notes.at → Grown past_lead (λ x. x.bar ≡ bar) m.notes.at (bar_to pool g bar b m i).notes.at m.notes.n (bar_to pool g bar b m i).notes.n
  unfolding bar_to
  bar_grown m zero room = grown_none past_lead (λ x. x.bar ≡ bar) m.notes.at m.notes.n
  bar_grown m (suc i) room =
      let n = bar_to pool g bar b m i in
      let before = bar_grown m i (omega arith) in
      let count : n.notes.n ≡ m.notes.n + i = bar_count pool g bar b m i in
      grown_then past_lead (λ x. x.bar ≡ bar) m.notes.at n.notes.at (sing_of pool g bar b n i).notes.at m.notes.n n.notes.n (sing_of pool g bar b n i).notes.n before
      (sing_grown n i (omega (arith, before.size)))

module _ (s : NoiseStream) (beats : List Beats) (bars : List Chord) (pool : List Bool) (style : LeadStyle) (ready : Ready beats bars pool style) where
  abbrev first : ℕ
  first = start_of style (get_or bars 0 past_chord) pool

  abbrev lane_to : ℕ → Sung
  lane_to k = bars_to beats bars pool style (nothing_sung first s) k

  pub good_to : (k : ℕ) → k ≤ 8 → Good pool style.lo style.hi (lane_to k) × ((lane_to k).notes.n ≤ 7 * k)
  good_to k h =
      let g = good_start beats bars pool style ready s (nothing_sung first s) first refl refl in
      good_bars beats bars pool style ready (nothing_sung first s) k h g.0 g.1

  lane_bar : (k : ℕ) → k < 8 → length (lane_to k).notes.at ≡ 56 → Grown past_lead (λ x. lead_bar x ≡ k) (lane_to k).notes.at (lane_to (suc k)).notes.at (lane_to k).notes.n (lane_to (suc k)).notes.n
  unfolding bars_to
  lane_bar k h size =
      let b = get_or beats k past_beats in
      bar_grown pool (ground_of style (get_or bars k past_chord) pool) k b (lane_to k) b.n (omega (arith, (good_to k (omega arith)).1, ready.few k h))

  start : (lane_to 0).notes.at ≡ replicate 56 no_lead
  start = unfold bars_to nothing_sung in refl

  empty : (lane_to 0).notes.n ≡ 0
  empty = unfold bars_to nothing_sung in refl

  few : (k : ℕ) → k ≤ 8 → (lane_to k).notes.n ≤ 56
  few k h = omega (arith, (good_to k h).1)

  bar_few : (k : ℕ) → k < 8 → (lane_to (suc k)).notes.n ≤ (lane_to k).notes.n + 7
  unfolding bars_to
  bar_few k h =
      let b = get_or beats k past_beats in
      omega (arith, bar_count pool (ground_of style (get_or bars k past_chord) pool) k b (lane_to k) b.n, ready.few k h)

  -- at most 56 notes, bar after bar
  pub melody_laid : Laid past_lead no_lead lead_bar 56 7 (melody_of s beats bars pool style).notes.at (melody_of s beats bars pool style).notes.n
  unfolding melody_of
  melody_laid = bars_laid past_lead no_lead lead_bar 56 8 (λ k. (lane_to k).notes.at) (λ k. (lane_to k).notes.n) start empty few lane_bar 8 (omega arith)

  -- at most 7 notes in any one bar
  pub melody_few : EachAtMost lead_bar 7 (take (melody_of s beats bars pool style).notes.n (melody_of s beats bars pool style).notes.at)
  unfolding melody_of
  melody_few = bars_few past_lead no_lead lead_bar 56 8 (λ k. (lane_to k).notes.at) (λ k. (lane_to k).notes.n) start empty few lane_bar 7 bar_few 8 (omega arith)
