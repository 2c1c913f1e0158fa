-- The early hits of the drums: at most one in a bar, the first hat; none in loop bar 0; and every bar has another hit.
-- Assumes nothing.
use mathlib.Core.Path.{◌≡◌, refl, ap}
use mathlib.Core.Bool.{Bool, true, false, not, ◌&&◌, and-false, cond}
use mathlib.Core.List.{List, []}
use Prim.Native.Nat.{ℕ, zero, suc, ◌+◌, ◌%◌, ◌≤◌, ◌<◌}
use native.Mathlib.Numerals.{add-one}
use native.Mathlib.Omega.{arith}
use borrow.Author.Tests.{ltb-true, ltb-false, eqb-true, eq-eqb, ne_eqb}
use lib.Dec.{T, eqb, ltb, lit≤}
use lib.Ieee.{Float, nan, binary32, le, mul, of_bits, of_int}
use lib.ListN.{length, get_or, take}
use Rattle.laws.specs.Floats.{f32_of, In}
use Rattle.laws.specs.Lists.{filter_of}
use Rattle.laws.specs.Sorts.{count}
use Rattle.laws.specs.Sums.{sum_to}
use Rattle.laws.proofs.Bools.{either}
use Rattle.laws.proofs.Bounds.{wider, mul_in, whole_in, le_trans_nn, le→not_lt}
use Rattle.laws.proofs.Counts.{count_filter, count_push, filter_parts, all_filter, filter_both, filter_none}
use Rattle.laws.proofs.Sorts.{all_by}
use Rattle.laws.proofs.Sums.{sum_none, sum_once}
use Rattle.streams.specs.Draw.{chance_of, pick_of}
use Rattle.streams.specs.declared.stream.NoiseStream.{NoiseStream}
use Rattle.streams.specs.declared.stream.Draw.{Draw}
use Rattle.streams.proofs.DrawLaws.{pick_lt}
use Rattle.composer.specs.Compose.{beat_s_of}
use Rattle.composer.specs.Drums.{wobble, bar_of, lay_bar_of, bars_to, no_hits, lay_groove_of, drums_of}
use Rattle.composer.specs.Drums.Grooves.{ghost_kick, hiphop_groove_of, sleep_groove}
use Rattle.composer.specs.Drums.Kit.{DrumLane, ends_statement, drawn_on, struck_of, kick_beat_of, kick_hit_of, push_kick_of, lay_kicks_of, snare_hit_of, push_snare_of, snares_to, lay_snares_of, hat_hit_of, push_hat_of, lay_hat_of, hats_to}
use Rattle.composer.specs.Early.{is_early}
use Rattle.composer.specs.Note.{zero32, past_hit}
use Rattle.composer.specs.Spread.{draw_of}
use Rattle.composer.specs.Timing.{bar_start_of}
use Rattle.composer.specs.declared.drums.grooves.Groove.{Groove}
use Rattle.composer.specs.declared.drums.grooves.Kick.{Kick}
use Rattle.composer.specs.declared.drums.kit.Bar.{Bar}
use Rattle.composer.specs.declared.note.Hit.{Hit}
use Rattle.composer.specs.declared.style.Style.{Style}
use Rattle.composer.specs.declared.style.Style.TheVariants.{Hiphop, Sleep}
use Rattle.composer.proofs.DrumsLaws.{drums_many}
use Rattle.composer.proofs.RangeLaws.{quickest, slowest, beat_in, bar_in_lem}
use Rattle.composer.proofs.drums.FairLaws.{least_drag, most_drag, last_beat, fair_kick, fair, hiphop_fair, sleep_fair, ghost_fair, kick_beat, kicks_fair, drag_fair, snare_beat, swing_fair}
use Rattle.composer.proofs.drums.LateLaws.{kick_late, snare_late, hat_late}
use Rattle.composer.proofs.drums.PlainLaws.{drums_plain}

-- ---- at most one in bar v, at a whole tempo
module _ (n : ℕ) (tempo : (70 ≤ n) × (n ≤ 82)) (v : ℕ) where
  abbrev beat_s : Float
  beat_s = beat_s_of (f32_of n)

  abbrev test : Hit → Bool
  test h = eqb h.bar v && is_early beat_s h

  abbrev earlies : DrumLane → ℕ
  earlies l = count test (take l.value.n l.value.at)

  struck_most : (l : DrumLane) (d : Draw Hit) → earlies (struck_of l d) ≤ earlies l + cond (test d.value) 1 0
  struck_most l d = rw (add-one l.value.n) (count_push test d.value l.value.at l.value.n)

  struck_late : (l : DrumLane) (d : Draw Hit) → is_early beat_s d.value ≡ false → earlies (struck_of l d) ≤ earlies l
  struck_late l d e =
      let off : ◌≡◌ {A = ℕ} (cond (test d.value) 1 0) 0 = rw (e, and-false (eqb d.value.bar v)) in
      omega (arith, struck_most l d, off)

  module _ (number : ℕ) (in_loop : number ≤ 7) (w : Float) where
    abbrev bar : Bar
    bar = bar_of number beat_s w

    kick_adds : (l : DrumLane) (dragS : Float) (k : Kick) → In least_drag most_drag dragS → T (fair_kick k) → earlies (push_kick_of l bar dragS k) ≤ earlies l
    unfolding push_kick_of kick_hit_of
    kick_adds l dragS k d t = struck_late l (kick_hit_of l.stream bar dragS k) (kick_late n tempo number in_loop w l.stream dragS (kick_beat_of k number) d (kick_beat k t number))

    snare_adds : (l : DrumLane) (x gain : Float) → In (f32_of 1) last_beat x → earlies (push_snare_of l bar x gain) ≤ earlies l
    unfolding push_snare_of snare_hit_of
    snare_adds l x gain i = struck_late l (snare_hit_of l.stream bar x gain) (snare_late n tempo number in_loop w l.stream x i)

    module _ (g : Groove) (isFair : T (fair g)) where
      kicks_add : (l : DrumLane) → earlies (lay_kicks_of l g bar) ≤ earlies l
      unfolding lay_kicks_of
      kicks_add l =
          let drag = drag_fair g isFair in
          let kicks = kicks_fair g isFair in
          let a = push_kick_of l bar g.drag_s g.first in
          let b = push_kick_of a bar g.drag_s g.second in
          let two : earlies b ≤ earlies l = omega (arith, kick_adds l g.drag_s g.first drag kicks.0, kick_adds a g.drag_s g.second drag kicks.1) in
          either (λ (m : DrumLane). earlies m ≤ earlies l) (g.ghost_pickup && ends_statement bar) (push_kick_of b bar g.drag_s ghost_kick) b
          (omega (arith, two, kick_adds b g.drag_s ghost_kick drag ghost_fair)) two

      snares_add : (l : DrumLane) (i : ℕ) → i ≤ g.snares.n → earlies (snares_to l g bar i) ≤ earlies l
      unfolding snares_to
      snares_add l zero h = omega arith
      snares_add l (suc i) h =
          omega (arith, snares_add l i (omega arith), snare_adds (snares_to l g bar i) (get_or g.snares.at i nan) g.snare_gain (snare_beat g isFair i (omega arith)))

      -- a hat may be early, in its own bar
      hat_most : (l : DrumLane) (e : ℕ) → earlies (push_hat_of l g bar e) ≤ earlies l + cond (eqb number v) 1 0
      unfolding push_hat_of hat_hit_of
      hat_most l e = omega (arith, struck_most l (hat_hit_of l.stream g bar e), one (eqb number v) (is_early beat_s (hat_hit_of l.stream g bar e).value))
        where
          one : (a b : Bool) → cond (a && b) 1 0 ≤ cond a 1 0
          one true true = omega arith
          one true false = omega arith
          one false b = omega arith

      -- but not from the second eighth on
      hat_adds : (l : DrumLane) (e : ℕ) → 1 ≤ e → e ≤ 7 → earlies (push_hat_of l g bar e) ≤ earlies l
      unfolding push_hat_of hat_hit_of
      hat_adds l e least most = struck_late l (hat_hit_of l.stream g bar e) (hat_late n tempo number in_loop w l.stream g.hats.swing (swing_fair g isFair) e least most)

      lay_hat : (l : DrumLane) (e m : ℕ) → earlies l ≤ m → ((k : DrumLane) → earlies k ≤ earlies l → earlies (push_hat_of k g bar e) ≤ m) → earlies (lay_hat_of l g bar e) ≤ m
      unfolding lay_hat_of
      lay_hat l e m h pushed =
          let skip = chance_of l.stream g.hats.skip_p in
          let k = drawn_on l skip.stream in
          either (λ (z : DrumLane). earlies z ≤ m) (g.hats.off_eighths_only && eqb (e % 2) 0) l (cond skip.value k (push_hat_of k g bar e)) h
          (either (λ (z : DrumLane). earlies z ≤ m) skip.value k (push_hat_of k g bar e) h (pushed k (omega arith)))

      hats_add : (l : DrumLane) (e : ℕ) → e ≤ 8 → earlies (hats_to l g bar e) ≤ earlies l + cond (eqb number v) 1 0
      unfolding hats_to
      hats_add l zero h = omega arith
      hats_add l (suc zero) h = lay_hat l 0 (earlies l + cond (eqb number v) 1 0) (omega arith) (λ k le. omega (arith, hat_most k 0))
      hats_add l (suc (suc e)) h =
          lay_hat (hats_to l g bar (suc e)) (suc e) (earlies l + cond (eqb number v) 1 0) (hats_add l (suc e) (omega arith))
          (λ k le. omega (arith, hat_adds k (suc e) (omega arith) (omega arith), hats_add l (suc e) (omega arith)))

  module _ (g : Groove) (isFair : T (fair g)) where
    bar_adds : (l : DrumLane) (number : ℕ) → number ≤ 7 → earlies (lay_bar_of l g beat_s number) ≤ earlies l + cond (eqb number v) 1 0
    unfolding lay_bar_of
    bar_adds l number h =
        let w = draw_of wobble l.stream in
        let b = bar_of number beat_s w.value in
        let a = drawn_on l w.stream in
        let k = lay_kicks_of a g b in
        let t = lay_snares_of k g b in
        omega (arith, kicks_add number h w.value g isFair a, snares_add number h w.value g isFair k g.snares.n (omega arith), hats_add number h w.value g isFair t 8 (omega arith))

    bars_add : (l : DrumLane) (m : ℕ) → m ≤ 8 → earlies (bars_to l g beat_s m) ≤ earlies l + sum_to (λ k. cond (eqb k v) 1 0) m
    unfolding bars_to sum_to
    bars_add l zero h = omega arith
    bars_add l (suc m) h = omega (arith, bars_add l m (omega arith), bar_adds (bars_to l g beat_s m) m (omega arith))

    groove_most : (s : NoiseStream) → earlies (lay_groove_of s g beat_s) ≤ 1
    unfolding lay_groove_of
    groove_most s = omega (arith, bars_add (no_hits s) 8 (omega arith), v_once (ltb v 8) refl)
      where
        v_once : (t : Bool) → ltb v 8 ≡ t → sum_to (λ k. cond (eqb k v) 1 0) 8 ≤ 1
        v_once true e = rw (sum_once (λ k. cond (eqb k v) 1 0) v 8 (ltb-true v 8 e) (λ k q. rw (ne_eqb k v q)), eq-eqb v v refl) (omega arith)
        v_once false e = rw (sum_none (λ k. cond (eqb k v) 1 0) 8 (λ k l. rw (ne_eqb k v (λ q. omega (arith, ltb-false v 8 e))))) (omega arith)

  drums_most : (s : NoiseStream) (style : Style) → earlies (drums_of s style beat_s) ≤ 1
  unfolding drums_of
  drums_most s Hiphop = groove_most (hiphop_groove_of (pick_of s 4).value) (hiphop_fair (pick_of s 4).value (pick_lt s 4 (omega arith))) (pick_of s 4).stream
  drums_most s Sleep = groove_most sleep_groove sleep_fair s

-- ---- loop bar 0, whose start is 0
zero_start : (beat_s : Float) → In quickest slowest beat_s → In zero32 zero32 (bar_start_of 0 beat_s)
unfolding of_bits of_int
zero_start beat_s beat =
    wider zero32 zero32 (mul_in binary32 (whole_in 0 0 0 (omega arith) (omega arith) (lit≤ tt)) (bar_in_lem beat_s beat) (unfold mul in tt)) tt tt (unfold mul le in tt) (unfold mul le in tt)

-- ---- the drums of a stream at a whole tempo
module _ (n : ℕ) (tempo : (70 ≤ n) × (n ≤ 82)) (s : NoiseStream) (style : Style) where
  abbrev beat : Float
  beat = beat_s_of (f32_of n)

  abbrev lane : DrumLane
  lane = drums_of s style beat

  -- the hits of a bar
  abbrev drawn : ℕ → List Hit
  drawn b = filter_of (λ h. eqb h.bar b) (take lane.value.n lane.value.at)

  pub drums_early : (b : ℕ) → length (filter_of (is_early beat) (drawn b)) ≤ 1
  drums_early b =
      let hs = take lane.value.n lane.value.at in
      omega (
        arith,
        ap length (filter_both (λ h. eqb h.bar b) (is_early beat) hs),
        count_filter (λ h. eqb h.bar b && is_early beat h) hs,
        drums_most n tempo b s style,
      )

  not_early : (i : ℕ) → i < lane.value.n → eqb (get_or lane.value.at i past_hit).bar 0 ≡ true → is_early beat (get_or lane.value.at i past_hit) ≡ false
  not_early i h e =
      let hit = get_or lane.value.at i past_hit in
      let start = zero_start beat (beat_in n tempo) in
      let at = (drums_plain beat (beat_in n tempo) s style i h).at in
      rw (eqb-true hit.bar 0 e)
      (le→not_lt (bar_start_of 0 beat) hit.at start.ok at.ok (le_trans_nn (bar_start_of 0 beat) zero32 hit.at start.ok start.hi_ok at.ok start.most at.least))

  pub drums_first : filter_of (is_early beat) (drawn 0) ≡ []
  drums_first =
      filter_none (is_early beat) (drawn 0)
      (all_filter (λ h. eqb h.bar 0) (λ h. is_early beat h ≡ false) (take lane.value.n lane.value.at)
      (all_by (λ h. eqb h.bar 0 ≡ true → is_early beat h ≡ false) past_hit lane.value.at lane.value.n not_early))

  -- every bar has two hits at least, and one at most is early
  pub drums_late : (b : ℕ) → b < 8 → 1 ≤ length (filter_of (λ h. not (is_early beat h)) (drawn b))
  drums_late b h =
      let hs = take lane.value.n lane.value.at in
      omega (arith, filter_parts (is_early beat) (drawn b), drums_early b, count_filter (λ h. eqb h.bar b) hs, drums_many s style beat b h)
