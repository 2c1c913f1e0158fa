-- Over a sound ground and a fit line every role's pitch is in the window and the scale, and the line stays fit. Assumes nothing.
use mathlib.Core.Path.{◌≡◌, refl, ◌∙◌}
use mathlib.Core.Logic.{⊎_elim}
use mathlib.Core.Bool.{Bool, true, false, cond, not, ◌&&◌}
use mathlib.Core.List.{List}
use Prim.Native.Nat.{ℕ, ◌+◌, ◌-◌, ◌≤◌, ◌<◌}
use native.Mathlib.Nat.{eq-or-lt_of_le}
use native.Mathlib.Omega.{arith}
use borrow.Author.Tests.{ltb-true}
use lib.Dec.{T, ltb, eqb}
use lib.ListN.{get_or, length, length-set}
use lib.Seq.{get_or-set_same, get_or-set_other}
use Rattle.laws.proofs.Bools.{both, cond_by}
use Rattle.streams.specs.Draw.{pick_of, chance_of}
use Rattle.streams.specs.declared.stream.NoiseStream.{NoiseStream}
use Rattle.streams.specs.declared.stream.Draw.{Draw}
use Rattle.streams.proofs.DrawLaws.{pick_lt}
use Rattle.composer.specs.Few.{one_more}
use Rattle.composer.specs.Lead.Scale.{fits_of, room_of, walk_of, scale_step_of}
use Rattle.composer.specs.Lead.Tones.{Tones, listed, distance_of, near_of}
use Rattle.composer.specs.Lead.Line.{opens_line_of, carried_of}
use Rattle.composer.specs.Lead.Role.{quotes_of, peaks_of, leapt_of, tone_chance, chosen_of, chance_role_of, role_of}
use Rattle.composer.specs.Lead.Ground.{tones_for_of}
use Rattle.composer.specs.Lead.Pitch.{held_of, peak_note_of, chord_note_of, passing_note_of, pitch_of}
use Rattle.composer.specs.Lead.Melody.{step_of}
use Rattle.composer.specs.Lead.Sound.{Tuned, Sound, Fit, Quotable}
use Rattle.composer.specs.declared.lead.line.Place.{Place}
use Rattle.composer.specs.declared.lead.line.Line.{Line}
use Rattle.composer.specs.declared.lead.role.Role.{Role}
use Rattle.composer.specs.declared.lead.role.Role.TheVariants.{Quote, Close, Peak, Resolve, ChordTone, Passing}
use Rattle.composer.specs.declared.lead.ground.Ground.{Ground}
use Rattle.composer.proofs.lead.FitLaws.{fits_what, nearest_in}
use Rattle.composer.proofs.lead.ScaleLaws.{walk_in}

-- a pick in hand is below its number
pub picked_below : (s : NoiseStream) (n : ℕ) {r : Draw ℕ} → r ≡ pick_of s n → 0 < n → r.value < n
picked_below s n e h = rw e (pick_lt s n h)

-- ---- the role: where it is a quote, there is a note to quote
pub role_quotes : (l : Line) (p : Place) → Quotable (role_of l p).value p.i l.head.n
unfolding role_of chance_role_of
role_quotes l p =
    by_cases (quotes_of p l.head.n) p.last (peaks_of p) (leapt_of l.from l.prev) p.strong
    (λ h. ltb-true p.i l.head.n (both (eqb p.bar 4) (ltb p.i l.head.n) (both (eqb p.bar 4 && ltb p.i l.head.n) (not p.last) h).0).1)
  where
    by_chance : (h : Bool) (t : NoiseStream) → Quotable (cond h (chosen_of ChordTone t) (chosen_of Passing t)).value p.i l.head.n
    by_chance true t = tt
    by_chance false t = tt

    by_cases : (a b c d e : Bool) → (a ≡ true → p.i < l.head.n)
        → Quotable (cond a (chosen_of Quote l.stream) (cond b (chosen_of Close l.stream) (cond c (chosen_of Peak l.stream) (cond d (chosen_of Resolve l.stream) (cond e (chosen_of ChordTone l.stream) (chance_role_of l.stream)))))).value p.i l.head.n
    by_cases true b c d e h = h refl
    by_cases false true c d e h = tt
    by_cases false false true d e h = tt
    by_cases false false false true e h = tt
    by_cases false false false false true h = tt
    by_cases false false false false false h = by_chance (chance_of l.stream tone_chance).value (chance_of l.stream tone_chance).stream

-- ---- the pitch
module _ (pool : List Bool) (g : Ground) (sound : Sound pool g) where
  near_fits : (t : Tones) → Tuned pool g.lo g.hi t → (x : ℕ) → T (fits_of pool g.lo g.hi (near_of t x))
  near_fits t h x = nearest_in (fits_of pool g.lo g.hi) (listed t) x h.some h.fit

  step_fits : (n : ℕ) → g.lo ≤ n → n ≤ g.hi → (up : Bool) (steps : ℕ) → T (fits_of pool g.lo g.hi (scale_step_of pool g.lo g.hi n up steps))
  unfolding scale_step_of
  step_fits n a b up steps =
      let w = walk_in pool up g.lo g.hi n (room_of up g.lo g.hi n) steps a b (omega arith) in
      sound.snaps (walk_of pool up n (room_of up g.lo g.hi n) steps) w.0 w.1

  tones_for_tuned : (strong : Bool) → Tuned pool g.lo g.hi (tones_for_of g strong)
  tones_for_tuned true = sound.strong
  tones_for_tuned false = sound.tones

  pub pitch_fits : (r : Role) (s : NoiseStream) (l : Line) (p : Place) (first : ℕ) → Fit pool g.lo g.hi l first → Quotable r p.i l.head.n
      → T (fits_of pool g.lo g.hi (pitch_of r s pool g l p first).value)
  unfolding pitch_of peak_note_of chord_note_of passing_note_of
  pitch_fits Quote s l p first f q = f.head p.i q
  pitch_fits Close s l p first f q = near_fits g.tones sound.tones first
  pitch_fits Peak s l p first f q = near_fits g.strong sound.strong _
  pitch_fits Resolve s l p first f q = step_fits l.prev f.low f.high (ltb l.prev l.from) 1
  pitch_fits ChordTone s l p first f q =
      let t = tones_for_of g p.strong in
      let h = tones_for_tuned p.strong in
      let n = near_of t (held_of (l.prev + (pick_of s 9).value - 4) g.lo g.hi) in
      cond_by (λ (x : ℕ). T (fits_of pool g.lo g.hi x)) (ltb 7 (distance_of n l.prev)) (near_of t l.prev) n (λ e. near_fits t h l.prev) (λ e. near_fits t h _)
  pitch_fits Passing s l p first f q = step_fits l.prev f.low f.high _ _

  pub step_note_fits : (l : Line) (p : Place) (first : ℕ) → Fit pool g.lo g.hi l first → T (fits_of pool g.lo g.hi (step_of pool g l p first).note)
  unfolding step_of
  step_note_fits l p first f = pitch_fits (role_of l p).value (role_of l p).stream l p first f (role_quotes l p)

-- ---- the line after one note more
opens_room : (bar heads : ℕ) → opens_line_of bar heads ≡ true → heads < 2
opens_room bar heads h = ltb-true heads 2 (both (eqb bar 0) (ltb heads 2) h).1

module _ (pool : List Bool) (lo hi : ℕ) (l : Line) (opening note : ℕ) (f : Fit pool lo hi l opening) (fits : T (fits_of pool lo hi note)) where
  head_on : (o : Bool) → (o ≡ true → l.head.n < 2) → (i : ℕ) → i < (cond o (one_more l.head note) l.head).n → T (fits_of pool lo hi (get_or (cond o (one_more l.head note) l.head).at i 0))
  head_on false h i k = f.head i k
  head_on true h i k =
      ⊎_elim
      (λ (e : i ≡ l.head.n). rw (e, get_or-set_same l.head.at l.head.n note 0 (omega (arith, f.size, h refl))) fits)
      (λ (e : i < l.head.n). rw (get_or-set_other l.head.at l.head.n i note 0 (λ q. omega arith)) (f.head i e))
      (eq-or-lt_of_le (le_of_lt_suc k))
    where
      le_of_lt_suc : {a b : ℕ} → a < b + 1 → a ≤ b
      le_of_lt_suc k = omega arith

  size_on : (o : Bool) → length (cond o (one_more l.head note) l.head).at ≡ 2
  size_on true = length-set l.head.at l.head.n note ∙ f.size
  size_on false = f.size

  heads_on : (o : Bool) → (o ≡ true → l.head.n < 2) → (cond o (one_more l.head note) l.head).n ≤ 2
  heads_on true h = omega (arith, h refl)
  heads_on false h = f.heads

  pub line_fits : (bar : ℕ) (s : NoiseStream) (next : ℕ) → T (fits_of pool lo hi next) → Fit pool lo hi (carried_of l bar note s) next
  unfolding carried_of
  line_fits bar s next t =
      let w = fits_what pool lo hi note fits in
      let o = opens_line_of bar l.head.n in
      let h = opens_room bar l.head.n in
      record { low = w.0; high = w.1; size = size_on o; heads = heads_on o h; prev = fits; head = head_on o h; first = t }
