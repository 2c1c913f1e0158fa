-- No kick, no snare and no hat but a bar's first is early: the least slot of each clears the bar's start by more than
-- the widest jitter, at each tempo and in each bar. Assumes nothing.
use mathlib.Core.Path.{◌≡◌, refl}
use mathlib.Core.Bool.{Bool, true, false, ◌&&◌, cond}
use Prim.Native.Nat.{ℕ, ◌+◌, ◌-◌, ◌%◌, ◌≤◌, zero-le}
use native.Mathlib.Nat.{zero-mul, le_of_eq, le_trans}
use native.Mathlib.Omega.{arith}
use lib.Dec.{T, eqb, lit≤}
use lib.Ieee.{Float, nan, inf, fin, binary32, lt, le, ne, neg, add, sub, mul, div, of_bits, of_int}
use lib.Ieee.Positive.{den}
use lib.Ieee.Scale.{finite}
use mir.Facts.{and_yes}
use Rattle.laws.specs.Floats.{f32_of, fract_of, nonneg, In, abs, Size}
use Rattle.laws.proofs.Bools.{either}
use Rattle.laws.proofs.Bounds.{here, add_in, sub_in, mul_in, whole_in, cross→le, le_refl_nn, le_trans_nn, not_lt→le, le→not_lt}
use Rattle.laws.proofs.Runs.{every, every_at}
use Rattle.streams.specs.declared.stream.NoiseStream.{NoiseStream}
use Rattle.composer.specs.Compose.{beat_s_of}
use Rattle.composer.specs.Drums.{bar_of}
use Rattle.composer.specs.Drums.Kit.{bar_at, kick_jitter, kick_slot_of, snare_drag_s, snare_jitter, hat_jitter, hat_slot_of}
use Rattle.composer.specs.Note.{zero32}
use Rattle.composer.specs.Spread.{jitter_of}
use Rattle.composer.specs.Timing.{bar_start_of, held_at_zero}
use Rattle.composer.specs.declared.drums.kit.Bar.{Bar}
use Rattle.composer.specs.declared.spread.Jitter.{Jitter}
use Rattle.composer.proofs.RangeLaws.{jitter_size, quickest, slowest, beat_in, start_in, eighth_in, swing_in}
use Rattle.composer.proofs.drums.FairLaws.{last_beat, least_drag, most_drag, half, most_swing}
use Rattle.composer.proofs.drums.PlainLaws.{width_of, hat_swing}

-- ---- a jittered time
-- a time that is not below the line is not early when held at zero
held_late : (start t : Float) → T (nonneg start) → T (nonneg t) → T (le start t) → lt (held_at_zero t) start ≡ false
unfolding of_bits
held_late start t p q h = go (lt zero32 t) refl
  where
    go : (v : Bool) → lt zero32 t ≡ v → lt (cond v t zero32) start ≡ false
    go true e = le→not_lt start t p q h
    go false e = le→not_lt start zero32 p tt (le_trans_nn start t zero32 p q tt h (not_lt→le zero32 t tt q e))

-- a slot from `low` on clears the line by a jitter of size w, either way
abbrev clears : Float → Float → Float → Bool
clears start low w = le w low && (le start (sub binary32 low w) && le start (add binary32 low zero32))

slot_late : {low hi slot w j : Float} (start : Float) → T (nonneg start) → In low hi slot → Size w j → T (clears start low w) → T (nonneg (add binary32 hi w)) → T (nonneg (sub binary32 hi zero32))
    → lt (held_at_zero (add binary32 slot j)) start ≡ false
unfolding of_bits sub neg
slot_late {low} {hi} {slot} {w} {j} start p i z c top top' = go j z.ok z.most
  where
    two : T (le w low) × T (le start (sub binary32 low w) && le start (add binary32 low zero32))
    two = and_yes (le w low) (le start (sub binary32 low w) && le start (add binary32 low zero32)) c

    both : T (le start (sub binary32 low w)) × T (le start (add binary32 low zero32))
    both = and_yes (le start (sub binary32 low w)) (le start (add binary32 low zero32)) two.1

    size : (m : ℕ) (e : _) → T (le (fin false m e) w) → In zero32 w (fin false m e)
    size m e h = record { lo_ok = tt; hi_ok = z.hi_ok; ok = tt; least = cross→le zero32 (fin false m e) tt tt (le_trans (le_of_eq (zero-mul (den (fin false m e)))) zero-le); most = h }

    go : (j : Float) → T (finite j) → T (le (abs j) w) → lt (held_at_zero (add binary32 slot j)) start ≡ false
    go nan f h = absurd f
    go (inf s) f h = absurd f
    go (fin false m e) f h =
        let t = add_in binary32 i (size m e h) top in
        held_late start (add binary32 slot (fin false m e)) p t.ok (le_trans_nn start (add binary32 low zero32) (add binary32 slot (fin false m e)) p t.lo_ok t.ok both.1 t.least)
    go (fin true m e) f h =
        let t = sub_in binary32 i (size m e h) two.0 top' in
        held_late start (add binary32 slot (fin true m e)) p t.ok (le_trans_nn start (sub binary32 low w) (add binary32 slot (fin true m e)) p t.lo_ok t.ok both.0 t.least)

-- ---- by computation: the least slots of kicks, snares and later hats clear every line
-- 24 seconds; the shortest eighth
abbrev last_start : Float
last_start = of_bits binary32 0x41c0_0000

abbrev least_eighth : Float
least_eighth = of_bits binary32 0x3ebb_512c

abbrev least_kick_slot : Float → Float
least_kick_slot start = add binary32 (add binary32 start (mul binary32 zero32 quickest)) least_drag

abbrev least_snare_slot : Float → Float
least_snare_slot start = add binary32 (add binary32 start (mul binary32 (f32_of 1) quickest)) snare_drag_s

abbrev least_hat_slot : Float → Float
least_hat_slot start = add binary32 start (mul binary32 (f32_of 1) least_eighth)

-- kicks and hats off the beat are swung
abbrev straight_kick : Float → Bool
straight_kick start = clears start (least_kick_slot start) (width_of kick_jitter)

abbrev swung_kick : Float → Bool
swung_kick start = clears start (add binary32 (least_kick_slot start) zero32) (width_of kick_jitter)

abbrev every_snare : Float → Bool
every_snare start = clears start (least_snare_slot start) (width_of snare_jitter)

abbrev straight_hat : Float → Bool
straight_hat start = clears start (least_hat_slot start) (width_of hat_jitter)

abbrev swung_hat : Float → Bool
swung_hat start = clears start (add binary32 (least_hat_slot start) zero32) (width_of hat_jitter)

abbrev row : ℕ → ℕ → Bool
row n number = let start = bar_start_of number (beat_s_of (f32_of n)) in (straight_kick start && swung_kick start) && (every_snare start && (straight_hat start && swung_hat start))

rows : T (every 13 (λ t. every 8 (λ number. row (70 + t) number)))
unfolding of_bits of_int add sub mul div le
rows = tt

row_at : (n number : ℕ) → (70 ≤ n) × (n ≤ 82) → number ≤ 7 → T (row n number)
row_at n number tempo in_loop =
    let e : 70 + (n - 70) ≡ n = omega arith in
    let t : T (row (70 + (n - 70)) number) = every_at 8 (λ b. row (70 + (n - 70)) b) (every_at 13 (λ t. every 8 (λ b. row (70 + t) b)) rows (n - 70) (omega arith)) number (omega arith) in
    rw e at t

-- ---- one bar at a whole tempo
module _ (n : ℕ) (tempo : (70 ≤ n) × (n ≤ 82)) (number : ℕ) (in_loop : number ≤ 7) (w : Float) where
  abbrev beat_s : Float
  beat_s = beat_s_of (f32_of n)

  abbrev bar : Bar
  bar = bar_of number beat_s w

  abbrev start : Float
  start = bar_start_of number beat_s

  beat : In quickest slowest beat_s
  beat = beat_in n tempo

  start_own : In start last_start start
  start_own =
      let i = start_in beat_s beat number in_loop in
      record { lo_ok = i.ok; hi_ok = i.hi_ok; ok = i.ok; least = le_refl_nn start i.ok; most = i.most }

  halves : T (straight_kick start && swung_kick start) × T (every_snare start && (straight_hat start && swung_hat start))
  halves = and_yes (straight_kick start && swung_kick start) (every_snare start && (straight_hat start && swung_hat start)) (row_at n number tempo in_loop)

  kicks : T (straight_kick start) × T (swung_kick start)
  kicks = and_yes (straight_kick start) (swung_kick start) halves.0

  others : T (every_snare start) × T (straight_hat start && swung_hat start)
  others = and_yes (every_snare start) (straight_hat start && swung_hat start) halves.1

  hats : T (straight_hat start) × T (swung_hat start)
  hats = and_yes (straight_hat start) (swung_hat start) others.1

  -- a slot and its jitter
  abbrev Late : Jitter → NoiseStream → Float → Type 0
  Late j s slot = lt (held_at_zero (add binary32 slot (jitter_of j s).value)) start ≡ false

  -- a kick anywhere in the bar
  pub kick_late : (s : NoiseStream) (dragS x : Float) → In least_drag most_drag dragS → In zero32 last_beat x → Late kick_jitter s (kick_slot_of bar dragS x)
  unfolding of_bits of_int
  kick_late s dragS x d i =
      let size = jitter_size s kick_jitter tt tt (unfold add in tt) (unfold add mul in tt) in
      let at = add_in binary32 (add_in binary32 start_own (mul_in binary32 i beat (unfold mul in tt)) (unfold mul add in tt)) d (unfold mul add in tt) in
      let later = add_in binary32 at (swing_in beat_s beat) (unfold mul add in tt) in
      either (Late kick_jitter s) (ne (fract_of x) zero32) _ _
      (slot_late start start_own.ok later size kicks.1 (unfold mul add in tt) (unfold mul add sub in tt))
      (slot_late start start_own.ok at size kicks.0 (unfold mul add in tt) (unfold mul add sub in tt))

  -- a snare from the second beat on
  pub snare_late : (s : NoiseStream) (x : Float) → In (f32_of 1) last_beat x → Late snare_jitter s (add binary32 (bar_at bar x) snare_drag_s)
  unfolding of_bits of_int
  snare_late s x i =
      let size = jitter_size s snare_jitter tt tt (unfold add in tt) (unfold add mul in tt) in
      let at = add_in binary32 (add_in binary32 start_own (mul_in binary32 i beat (unfold mul in tt)) (unfold mul add in tt)) (here snare_drag_s tt) (unfold mul add in tt) in
      slot_late start start_own.ok at size others.0 (unfold mul add in tt) (unfold mul add sub in tt)

  -- a hat from the second eighth on
  pub hat_late : (s : NoiseStream) (x : Float) → In half most_swing x → (e : ℕ) → 1 ≤ e → e ≤ 7 → Late hat_jitter s (hat_slot_of bar x e)
  unfolding of_bits of_int
  hat_late s x i e least most =
      let size = jitter_size s hat_jitter tt tt (unfold add in tt) (unfold add mul in tt) in
      let at = add_in binary32 start_own (mul_in binary32 (whole_in 1 7 e least most (lit≤ tt)) (eighth_in beat_s beat) (unfold mul in tt)) (unfold mul add in tt) in
      let later = add_in binary32 at (hat_swing beat_s beat x i) (unfold mul add in tt) in
      either (Late hat_jitter s) (eqb (e % 2) 1) _ _
      (slot_late start start_own.ok later size hats.1 (unfold mul add in tt) (unfold mul add sub in tt))
      (slot_late start start_own.ok at size hats.0 (unfold mul add in tt) (unfold mul add sub in tt))
