-- Each bar's rhythm: the root in the first beat, then at most twelve steps more, in order, within the bar. Assumes nothing.
use mathlib.Core.Path.{◌≡◌, refl, sym, ap, ◌∙◌, subst}
use mathlib.Core.Logic.{inl, inr}
use mathlib.Core.Bool.{Bool, true, false, cond}
use mathlib.Core.List.{List}
use Prim.Native.Nat.{ℕ, zero, suc, ◌+◌, ◌-◌, ◌*◌, ◌≤◌, ◌<◌}
use native.Mathlib.Nat.{add-zero, one-mul, zero-mul, eq-or-lt_of_le, le_of_suc-le-suc}
use native.Mathlib.Numerals.{add-one}
use native.Mathlib.Omega.{arith}
use lib.ListN.{get_or, set, length, replicate, length-set}
use lib.Seq.{get_or-set_same, get_or-set_other, set-get_or}
use lib.Ieee.{Float, binary32, sub, div}
use mir.Val.{bool_byte}
use Rattle.laws.proofs.Bools.{either}
use Rattle.streams.specs.Draw.{chance_of}
use Rattle.streams.specs.declared.stream.NoiseStream.{NoiseStream}
use Rattle.streams.specs.declared.stream.Draw.{Draw}
use Rattle.composer.specs.Bass.Rhythm.{Steps, step_p, first_beat_sum, root_from, root_step_of, more_steps, one_step_of, steps_to, root_alone, bass_rhythm_of, no_steps, past_steps, one_rhythm_of, rhythms_to, bass_rhythms_of, Rising}

-- ---- the root
module _ (s : NoiseStream) (left : Float) where
  abbrev tried : ℕ → Bool
  tried i = (chance_of s (div binary32 (step_p i) left)).value

  abbrev passed : ℕ → NoiseStream
  passed i = (chance_of s (div binary32 (step_p i) left)).stream

  pub root_hit : (i : ℕ) → i < 3 → tried i ≡ true → root_from s left i (3 - i) ≡ record { value = i; stream = passed i }
  unfolding root_from
  root_hit i h t =
      let e : 3 - i ≡ suc (3 - (i + 1)) = omega arith in
      rw (e, t)

  pub root_miss : (i : ℕ) → i < 3 → tried i ≡ false → root_from s left i (3 - i) ≡ root_from (passed i) (sub binary32 left (step_p i)) (i + 1) (3 - (i + 1))
  unfolding root_from
  root_miss i h t =
      let e : 3 - i ≡ suc (3 - (i + 1)) = omega arith in
      rw (e, t)

  pub root_last : (i : ℕ) → i ≡ 3 → root_from s left i (3 - i) ≡ record { value = 3; stream = passed 3 }
  unfolding root_from
  root_last i e = rw e

pub root_le : (s : NoiseStream) (left : Float) (i more : ℕ) → (root_from s left i more).value ≤ i + more
unfolding root_from
root_le s left i zero = omega arith
root_le s left i (suc more) =
    let next = root_from (passed s left i) (sub binary32 left (step_p i)) (i + 1) more in
    either (λ (r : Draw ℕ). r.value ≤ i + suc more) (tried s left i) (record { value = i; stream = passed s left i }) next (omega arith)
    (omega (arith, root_le (passed s left i) (sub binary32 left (step_p i)) (i + 1) more))

-- ---- a bar's steps
rising_wider : {t : Steps} {m : ℕ} (k : ℕ) → Rising t m → m ≤ k → Rising t k
rising_wider k r h = record {
  size = r.size;
  some = r.some;
  few = r.few;
  below = (λ i l. omega (arith, r.below i l));
  rises = r.rises;
}

module _ (t : Steps) (m step : ℕ) (r : Rising t m) (h : m ≤ step) (room : t.n < 13) where
  abbrev longer : List ℕ
  longer = set t.at t.n step

  at_last : get_or longer t.n 0 ≡ step
  at_last = get_or-set_same t.at t.n step 0 (omega (arith, r.size))

  at_other : (i : ℕ) → i < t.n → get_or longer i 0 ≡ get_or t.at i 0
  at_other i l = get_or-set_other t.at t.n i step 0 (λ e. omega arith)

  more_below : (i : ℕ) → i < t.n + 1 → get_or longer i 0 < step + 1
  more_below i l = let u : i ≤ t.n = omega arith in elim (eq-or-lt_of_le u) [
    | inl e ↦ rw (e, at_last) (omega arith)
    | inr k ↦ rw (at_other i k) (omega (arith, r.below i k))
  ]

  more_rises : (i : ℕ) → i + 1 < t.n + 1 → get_or longer i 0 < get_or longer (i + 1) 0
  more_rises i l = let u : i + 1 ≤ t.n = omega arith in elim (eq-or-lt_of_le u) [
    | inl e ↦ rw (at_other i (omega arith), e, at_last) (omega (arith, r.below i (omega arith)))
    | inr k ↦ rw (at_other i (omega arith), at_other (i + 1) k) (r.rises i k)
  ]

  rising_more : Rising (more_steps t step) (step + 1)
  rising_more = record {
    size = length-set t.at t.n step ∙ r.size;
    some = omega arith;
    few = omega arith;
    below = more_below;
    rises = more_rises;
  }

-- a step more, or not
rising_on : (b : Bool) (t : Steps) (step : ℕ) → Rising t step → t.n < 13 → Rising (cond b (more_steps t step) t) (step + 1)
rising_on true t step r room = rising_more t step step r (omega arith) room
rising_on false t step r room = rising_wider (step + 1) r (omega arith)

few_on : (b : Bool) (t : Steps) (step : ℕ) → (cond b (more_steps t step) t).n ≤ t.n + 1
few_on true t step = omega arith
few_on false t step = omega arith

module _ (d : Draw Steps) (root : Rising d.value 4) (alone : d.value.n ≡ 1) where
  steps_few : (i : ℕ) → (steps_to d i).value.n ≤ 1 + i
  unfolding steps_to one_step_of
  steps_few zero = omega arith
  steps_few (suc i) = omega (arith, steps_few i, few_on (chance_of (steps_to d i).stream (step_p (i + 4))).value (steps_to d i).value (i + 4))

  steps_rising : (i : ℕ) → i ≤ 12 → Rising (steps_to d i).value (i + 4)
  unfolding steps_to one_step_of
  steps_rising zero h = root
  steps_rising (suc i) h =
      rising_wider (suc i + 4)
      (rising_on (chance_of (steps_to d i).stream (step_p (i + 4))).value (steps_to d i).value (i + 4) (steps_rising i (omega arith)) (omega (arith, steps_few i)))
      (omega arith)

-- ---- a turn of the loop over the later steps: what is drawn, and the steps after it
-- past its steps a bar's array is zero
abbrev Rest : Steps → Type 0
Rest t = (j : ℕ) → t.n ≤ j → get_or t.at j 0 ≡ 0

rest_on : (b : Bool) (t : Steps) (step : ℕ) → Rest t → Rest (cond b (more_steps t step) t)
rest_on true t step r j h = get_or-set_other t.at t.n j step 0 (λ e. omega arith) ∙ r j (omega arith)
rest_on false t step r j h = r j h

root_rest : (r : Draw ℕ) → Rest (root_alone r).value
root_rest r zero h = absurd (omega arith)
root_rest r (suc j) h = zeros 12 j
  where
    zeros : (k j : ℕ) → ◌≡◌ {A = ℕ} (get_or (replicate k 0) j 0) 0
    zeros zero j = refl
    zeros (suc k) zero = refl
    zeros (suc k) (suc j) = zeros k j

steps_rest : (r : Draw ℕ) (i : ℕ) → Rest (steps_to (root_alone r) i).value
unfolding steps_to one_step_of
steps_rest r zero = root_rest r
steps_rest r (suc i) = rest_on (chance_of (steps_to (root_alone r) i).stream (step_p (i + 4))).value (steps_to (root_alone r) i).value (i + 4) (steps_rest r i)

-- a step that sounds is written, and one that rests writes the 0 that stands there
one_on : (t : Steps) (s : NoiseStream) (step : ℕ) (c : Draw Bool) → c ≡ chance_of s (step_p step) → Rest t
    → one_step_of (record { value = t; stream = s }) step
    ≡ record { value = record { at = set t.at t.n (bool_byte c.value * step); n = t.n + bool_byte c.value }; stream = c.stream }
unfolding one_step_of
one_on t s step c drawn rest = rw (← drawn) (ap (λ (u : Steps). record { value = u; stream = c.stream }) (go c.value))
  where
    kept : set t.at t.n 0 ≡ t.at
    kept = ap (λ (x : ℕ). set t.at t.n x) (sym (rest t.n (omega arith))) ∙ set-get_or t.at t.n 0

    go : (b : Bool) → ◌≡◌ {A = Steps} (cond b (more_steps t step) t) (record { at = set t.at t.n (bool_byte b * step); n = t.n + bool_byte b })
    go true = rw (one-mul step) refl
    go false = rw (zero-mul step, kept, add-zero t.n) refl

pub turn_on : (r : Draw ℕ) (i : ℕ) (t : Steps) (s : NoiseStream) (c : Draw Bool) → steps_to (root_alone r) i ≡ record { value = t; stream = s } → c ≡ chance_of s (step_p (i + 4))
    → steps_to (root_alone r) (i + 1) ≡ record { value = record { at = set t.at t.n (bool_byte c.value * (i + 4)); n = t.n + bool_byte c.value }; stream = c.stream }
unfolding steps_to
turn_on r i t s c so_far drawn = rw (add-one, so_far) (one_on t s (i + 4) c drawn (subst (λ (d : Draw Steps). Rest d.value) so_far (steps_rest r i)))

root_rising : (r : Draw ℕ) → r.value < 4 → Rising (root_alone r).value 4
root_rising r h = record {
  size = refl;
  some = omega arith;
  few = omega arith;
  below = at_root;
  rises = (λ i l. absurd (omega arith));
}
  where
    at_root : (i : ℕ) → i < 1 → get_or (root_alone r).value.at i 0 < 4
    at_root zero l = h
    at_root (suc i) l = absurd (omega arith)

pub rhythm_rising : (s : NoiseStream) → Rising (bass_rhythm_of s).value 16
unfolding bass_rhythm_of root_step_of
rhythm_rising s =
    let root = root_from s first_beat_sum 0 3 in
    steps_rising (root_alone root) (root_rising root (omega (arith, root_le s first_beat_sum 0 3))) refl 12 (omega arith)

-- ---- all bars
rhythms_size : (r : Draw (List Steps)) (b : ℕ) → length r.value ≡ 8 → length (rhythms_to r b).value ≡ 8
unfolding rhythms_to one_rhythm_of
rhythms_size r zero e = e
rhythms_size r (suc b) e = length-set (rhythms_to r b).value b (bass_rhythm_of (rhythms_to r b).stream).value ∙ rhythms_size r b e

bars_rising : (r : Draw (List Steps)) (n b : ℕ) → length r.value ≡ 8 → n ≤ 8 → b < n → Rising (get_or (rhythms_to r n).value b past_steps) 16
unfolding rhythms_to one_rhythm_of
bars_rising r zero b e h l = absurd (omega arith)
bars_rising r (suc n) b e h l =
    let last = bass_rhythm_of (rhythms_to r n).stream in
    elim (eq-or-lt_of_le (le_of_suc-le-suc l)) [
      | inl k ↦ rw (k, get_or-set_same (rhythms_to r n).value n last.value past_steps (omega (arith, rhythms_size r n e))) (rhythm_rising (rhythms_to r n).stream)
      | inr k ↦ rw (get_or-set_other (rhythms_to r n).value n b last.value past_steps (λ q. omega arith)) (bars_rising r n b e (omega arith) k)
    ]

pub rhythms_rising : (s : NoiseStream) (b : ℕ) → b < 8 → Rising (get_or (bass_rhythms_of s).value b past_steps) 16
unfolding bass_rhythms_of
rhythms_rising s b h = bars_rising (record { value = replicate 8 no_steps; stream = s }) 8 b refl (omega arith) h
