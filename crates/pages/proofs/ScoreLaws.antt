-- What the composer promises of a score, in the words of a page: the notes that a bar shows, and that it shows some.
-- Assumes nothing.
use mathlib.Core.Path.{◌≡◌, refl, sym, ap, ◌∙◌, subst}
use mathlib.Core.Bool.{Bool, true}
use mathlib.Core.List.{List, [], map}
use Prim.Native.Nat.{ℕ, ◌+◌, ◌*◌, ◌≤◌, ◌<◌}
use native.Mathlib.Omega.{arith}
use borrow.Author.Tests.{eq-eqb, eqb-true}
use lib.Dec.{eqb}
use lib.ListN.{length, get_or, take}
use Rattle.laws.specs.Lanes.{Occurs}
use Rattle.laws.specs.Lists.{joined}
use Rattle.laws.specs.Sorts.{All}
use Rattle.composer.specs.Bass.Promise.{SoundsIn}
use Rattle.composer.specs.Harmony.{notes_of}
use Rattle.composer.specs.Note.{role_number_of, past_note, note_bar}
use Rattle.composer.specs.Promise.{Sings, ScorePromise}
use Rattle.composer.specs.declared.harmony.Scale.{Scale}
use Rattle.composer.specs.declared.note.Note.{Note}
use Rattle.composer.specs.declared.score.Score.{Score}
use Rattle.composer.specs.declared.style.Style.{Style}
use Rattle.pages.specs.Bar.{shown}
use Rattle.pages.specs.Lane.{sound_bytes, note_bytes, bar_in, events_of, drawn_for}
use Rattle.pages.specs.declared.edition.Edition.{Edition}
use Rattle.pages.specs.declared.lane.Lane.{Lane}
use Rattle.laws.proofs.Counts.{count_some, all_filter}
use Rattle.laws.proofs.Joins.{joined_at}
use Rattle.laws.proofs.Sorts.{all_by, all_map}
use Rattle.pages.proofs.LaneLaws.{note_width_lem, note_bar_lem, drawn_count, all_shown, shown_size}
use Rattle.pages.proofs.PageLaws.{chord_notes}

-- ---- a bar has some
drawn_some : {A : Type 0} (bar : A → ℕ) (bytes : A → List ℕ) → ((x : A) → bar_in (bytes x) ≡ bar x) → (d : A) (n : ℕ) (xs : List A) (v : ℕ) → n ≤ length xs
    → Occurs (λ i. bar (get_or xs i d)) n v → 0 < length (drawn_for v (map bytes (take n xs)))
drawn_some bar bytes same d n xs v h o =
    omega (arith, drawn_count bar bytes same (take n xs) v, count_some (λ x. eqb (bar x) v) d n xs o.place o.until (omega (arith, o.until)) (eq-eqb (bar (get_or xs o.place d)) v o.is))

-- ---- the notes that a bar shows
midi_at : (n : Note) → get_or (note_bytes Edition.Two n) 5 0 ≡ n.midi
unfolding note_bytes sound_bytes
midi_at n = refl

role_at_lem : (n : Note) → get_or (note_bytes Edition.Two n) 14 0 ≡ role_number_of n.role
unfolding note_bytes sound_bytes
role_at_lem n = refl

-- each is one of the lane's, of this bar; byte k of it tells a value
module _ (P : ℕ → Type 0) (k : ℕ) (small : k < 15) (value : Note → ℕ) (told : (x : Note) → get_or (note_bytes Edition.Two x) k 0 ≡ value x)
    (n : ℕ) (xs : List Note) (v : ℕ) (holds : (i : ℕ) → i < n → (get_or xs i past_note).bar ≡ v → P (value (get_or xs i past_note))) where
  abbrev drawn : List (List ℕ)
  drawn = drawn_for v (map (note_bytes Edition.Two) (take n xs))

  abbrev Held : List ℕ → Type 0
  Held e = (length e ≡ 15) × P (get_or e k 0)

  held : (i : ℕ) → i < n → eqb (bar_in (note_bytes Edition.Two (get_or xs i past_note))) v ≡ true → Held (note_bytes Edition.Two (get_or xs i past_note))
  held i h e =
      let x = get_or xs i past_note in
      (note_width_lem Edition.Two x, subst P (sym (told x)) (holds i h (sym (note_bar_lem Edition.Two x) ∙ eqb-true (bar_in (note_bytes Edition.Two x)) v e)))

  all_held : All Held drawn
  all_held =
      all_filter (λ e. eqb (bar_in e) v) Held (map (note_bytes Edition.Two) (take n xs))
      (all_map (note_bytes Edition.Two) (λ e. eqb (bar_in e) v ≡ true → Held e) (take n xs)
      (all_by (λ x. eqb (bar_in (note_bytes Edition.Two x)) v ≡ true → Held (note_bytes Edition.Two x)) past_note xs n held))

  note_shown : (on : Bool) (i : ℕ) → 15 * i < length (joined (shown on drawn)) → P (get_or (joined (shown on drawn)) (15 * i + k) 0)
  note_shown on = joined_at P 0 15 k small (shown on drawn) (all_shown Held on drawn all_held)

-- ---- a loop bar of a score
module _ (style : Style) (s : Score) (scale : Scale) (promise : ScorePromise style s scale) (bar : ℕ) (h : bar < 8) where
  pub chord_some : 0 < length (get_or (notes_of s.bar_chords) bar [])
  chord_some = omega (arith, chord_notes s promise.range.chord_size bar h)

  pub bass_some : 0 < length (joined (drawn_for bar (events_of Edition.Two s Lane.Bass)))
  bass_some =
      omega (arith, shown_size s Lane.Bass true bar, drawn_some note_bar (note_bytes Edition.Two) (note_bar_lem Edition.Two) past_note s.bass.n s.bass.at bar (omega (arith, promise.lanes.bass.few, promise.lanes.bass.size)) (promise.bass_in_each bar h))

  -- note i of its lead, where it is shown
  pub lead_shown : (on : Bool) (i : ℕ) → 15 * i < length (joined (shown on (drawn_for bar (events_of Edition.Two s Lane.Lead)))) → Sings style scale (get_or (joined (shown on (drawn_for bar (events_of Edition.Two s Lane.Lead)))) (15 * i + 5) 0)
  lead_shown = note_shown (Sings style scale) 5 (omega arith) (λ x. x.midi) midi_at s.lead.n s.lead.at bar (λ i k e. promise.lead_sings i k)

  pub bass_shown : (on : Bool) (i : ℕ) → 15 * i < length (joined (shown on (drawn_for bar (events_of Edition.Two s Lane.Bass))))
      → SoundsIn s.bar_chords bar (get_or (joined (shown on (drawn_for bar (events_of Edition.Two s Lane.Bass)))) (15 * i + 5) 0)
  bass_shown =
      note_shown (SoundsIn s.bar_chords bar) 5 (omega arith) (λ x. x.midi) midi_at s.bass.n s.bass.at bar
      (λ i k e. subst (λ (b : ℕ). SoundsIn s.bar_chords b (get_or s.bass.at i past_note).midi) e (promise.bass_sounds i k))

  -- and their roles
  pub lead_role : (on : Bool) (i : ℕ) → 15 * i < length (joined (shown on (drawn_for bar (events_of Edition.Two s Lane.Lead)))) → get_or (joined (shown on (drawn_for bar (events_of Edition.Two s Lane.Lead)))) (15 * i + 14) 0 < 6
  lead_role = note_shown (λ r. r < 6) 14 (omega arith) (λ x. role_number_of x.role) role_at_lem s.lead.n s.lead.at bar (λ i k e. promise.roles.lead i k)

  pub keys_role : (on : Bool) (i : ℕ) → 15 * i < length (joined (shown on (drawn_for bar (events_of Edition.Two s Lane.Keys)))) → get_or (joined (shown on (drawn_for bar (events_of Edition.Two s Lane.Keys)))) (15 * i + 14) 0 ≡ 6
  keys_role = note_shown (λ r. r ≡ 6) 14 (omega arith) (λ x. role_number_of x.role) role_at_lem s.keys.n s.keys.at bar (λ i k e. ap role_number_of (promise.roles.keys i k))

  pub bass_role : (on : Bool) (i : ℕ) → 15 * i < length (joined (shown on (drawn_for bar (events_of Edition.Two s Lane.Bass)))) → get_or (joined (shown on (drawn_for bar (events_of Edition.Two s Lane.Bass)))) (15 * i + 14) 0 ≡ 6
  bass_role = note_shown (λ r. r ≡ 6) 14 (omega arith) (λ x. role_number_of x.role) role_at_lem s.bass.n s.bass.at bar (λ i k e. ap role_number_of (promise.roles.bass i k))
