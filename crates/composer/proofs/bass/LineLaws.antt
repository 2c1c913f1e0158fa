-- A bar's notes: each is a note of that bar, on its root, its fifth or the note under the next root, from 30 to 42,
-- and the count grows by one with each. Assumes nothing.
use mathlib.Core.Path.{◌≡◌, refl}
use mathlib.Core.Bool.{Bool, true, false, cond, ◌&&◌}
use Prim.Native.Nat.{ℕ, zero, suc, ◌+◌, ◌%◌, ◌≤◌, ◌<◌}
use native.Mathlib.Numerals.{add-one}
use native.Mathlib.Omega.{arith}
use lib.Dec.{eqb, ltb}
use lib.ListN.{get_or, set, length}
use lib.Ieee.{Float}
use Rattle.laws.proofs.Bools.{either}
use Rattle.laws.proofs.Lanes.{Grown, grown_none, grown_push, grown_then}
use Rattle.streams.specs.Draw.{chance_of}
use Rattle.streams.specs.declared.stream.NoiseStream.{NoiseStream}
use Rattle.streams.specs.declared.stream.Draw.{Draw}
use Rattle.composer.specs.Chord.{root_class_of, fifth_class_of}
use Rattle.composer.specs.Note.{past_note}
use Rattle.composer.specs.Range.{Within}
use Rattle.composer.specs.Bass.Line.{BassLane, struck_of, root_note_of, pickup_note_of, later_pitch_of, later_note_of, pickup_drawn_of, note_drawn_of, onset_of, gap_of, held_of, played_note_of, play_of, bar_played}
use Rattle.composer.specs.Bass.Promise.{Sounds, is_root, is_fifth, is_under}
use Rattle.composer.specs.declared.chord.Chord.{Chord}
use Rattle.composer.specs.declared.note.Note.{Note}
use Rattle.composer.specs.declared.note.NoteRole.{NoteRole}
use Rattle.composer.specs.declared.style.BassStyle.{BassStyle}
use Rattle.composer.specs.declared.bass.line.BarPart.{BarPart}
use Rattle.composer.specs.declared.bass.line.Strike.{Strike}

-- the chords that p is played over
pub record Over (chord next : Chord) (p : BarPart) : Type 0 where
  pub root_is : p.root_pc ≡ root_class_of chord
  pub fifth_is : (p.root_pc + 7) % 12 ≡ fifth_class_of chord
  pub next_is : p.next_pc ≡ root_class_of next

-- a note of the bar that is played from p
abbrev pub NoteOf : Chord → Chord → BarPart → Note → Type 0
NoteOf chord next p n = (n.bar ≡ p.bar) × Sounds chord next n.midi × Within 30 42 n.midi

module _ (chord next : Chord) (p : BarPart) (over : Over chord next p) (style : BassStyle) where
  abbrev InBar : ℕ → Type 0
  InBar midi = Sounds chord next midi × Within 30 42 midi

  root_sounds : (s : NoiseStream) (on : Float) → InBar (root_note_of s on p style).value.midi
  unfolding root_note_of struck_of
  root_sounds s on = (is_root (omega (arith, over.root_is)), record { least = omega arith; most = omega arith })

  pickup_sounds : (s : NoiseStream) (on : Float) → InBar (pickup_note_of s on p).value.midi
  unfolding pickup_note_of struck_of
  pickup_sounds s on = (is_under (omega (arith, over.next_is)), record { least = omega arith; most = omega arith })

  later_pitch_sounds : (fifth : Bool) → InBar (later_pitch_of p.root_pc fifth)
  later_pitch_sounds true = (is_fifth (omega (arith, over.fifth_is)), record { least = omega arith; most = omega arith })
  later_pitch_sounds false = (is_root (omega (arith, over.root_is)), record { least = omega arith; most = omega arith })

  later_sounds : (s : NoiseStream) (on : Float) → InBar (later_note_of s on p style).value.midi
  unfolding later_note_of struck_of
  later_sounds s on = later_pitch_sounds (chance_of s style.fifth_p).value

  note_sounds : (s : NoiseStream) (on : Float) (i : ℕ) → InBar (note_drawn_of s on p style i).value.midi
  unfolding note_drawn_of
  note_sounds s on i =
      let c = pickup_drawn_of s p style i in
      let later = later_note_of c.stream on p style in
      let pickup = pickup_note_of c.stream on p in
      either (λ (x : Draw Strike). InBar x.value.midi) (eqb i 0) (root_note_of s on p style) (cond (c.value && ltb p.bar 7) pickup later) (root_sounds s on)
      (either (λ (x : Draw Strike). InBar x.value.midi) (c.value && ltb p.bar 7) pickup later (pickup_sounds c.stream on) (later_sounds c.stream on))

  play_grown : (l : BassLane) (beatS : Float) (i : ℕ) → l.value.n < length l.value.at
      → Grown past_note (NoteOf chord next p) l.value.at (play_of l p style beatS i).value.at l.value.n (play_of l p style beatS i).value.n
  unfolding play_of played_note_of
  play_grown l beatS i room =
      let on = onset_of beatS p.bar (get_or p.steps.at i 0) in
      let d = note_drawn_of l.stream on p style i in
      grown_push past_note (NoteOf chord next p) l.value.at l.value.n (record { bar = p.bar; role = NoteRole.Backing; spare = 0; at = d.value.at; midi = d.value.midi; vel = d.value.vel; dur = held_of beatS (gap_of p i) d.value.at }) room
      (let n = note_sounds l.stream on i in (refl, n.0, n.1))

module _ (l : BassLane) (p : BarPart) (style : BassStyle) (beatS : Float) where
  pub bar_count : (i : ℕ) → (bar_played l p style beatS i).value.n ≡ l.value.n + i
  unfolding bar_played play_of
  bar_count zero = omega arith
  bar_count (suc i) = omega (arith, bar_count i)

  -- a note more
  pub bar_on : (i : ℕ) (m : BassLane) (d : Draw Note) → bar_played l p style beatS i ≡ m → d ≡ played_note_of m.stream p style beatS i
      → bar_played l p style beatS (i + 1) ≡ record { value = record { at = set m.value.at m.value.n d.value; n = m.value.n + 1 }; stream = d.stream }
  unfolding bar_played play_of
  bar_on i m d so_far drawn = rw (add-one, so_far, ← drawn)

  pub bar_grown : (chord next : Chord) → Over chord next p → (i : ℕ) → l.value.n + i ≤ length l.value.at
      → Grown past_note (NoteOf chord next p) l.value.at (bar_played l p style beatS i).value.at l.value.n (bar_played l p style beatS i).value.n
  unfolding bar_played
  bar_grown chord next over zero room = grown_none past_note (NoteOf chord next p) l.value.at l.value.n
  bar_grown chord next over (suc i) room =
      let before = bar_played l p style beatS i in
      let g = bar_grown chord next over i (omega arith) in
      grown_then past_note (NoteOf chord next p) l.value.at before.value.at (play_of before p style beatS i).value.at l.value.n before.value.n (play_of before p style beatS i).value.n g
      (play_grown chord next p over style before beatS i (omega (arith, bar_count i, g.size)))
