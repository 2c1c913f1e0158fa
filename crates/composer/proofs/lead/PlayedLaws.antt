-- The lane keeps the melody's bars, pitches and roles, note for note, and nothing else is played. Assumes nothing.
use mathlib.Core.Path.{◌≡◌, refl, sym, ap, ◌∙◌}
use mathlib.Core.Logic.{⊎_elim}
use mathlib.Core.List.{List}
use Prim.Native.Nat.{ℕ, zero, suc, ◌+◌, ◌≤◌, ◌<◌}
use native.Mathlib.Nat.{eq-or-lt_of_le, le_of_suc-le-suc, not-suc-le-zero}
use native.Mathlib.Numerals.{add-one}
use native.Mathlib.Omega.{arith}
use lib.ListN.{get_or, set, length, length-set, get_or-replicate}
use lib.Seq.{get_or-set_same, get_or-set_other}
use lib.Ieee.{Float}
use Rattle.streams.specs.declared.stream.NoiseStream.{NoiseStream}
use Rattle.streams.specs.declared.stream.Draw.{Draw}
use Rattle.composer.specs.Note.{no_note, past_note}
use Rattle.composer.specs.Lead.Melody.{past_lead}
use Rattle.composer.specs.Lead.Role.{noted_of}
use Rattle.composer.specs.Lead.Played.{LeadLane, played_note_of, play_of, play_to, silence_of, played_of}
use Rattle.composer.specs.declared.note.Note.{Note}
use Rattle.composer.specs.declared.lead.melody.LeadNote.{LeadNote}
use Rattle.composer.specs.declared.lead.melody.Sung.{Sung}

-- a lane's parts, together
abbrev pub lane_with : List Note → NoiseStream → ℕ → LeadLane
lane_with notes stream count = record { value = record { at = notes; n = count }; stream = stream }

-- a note as played: its bar, its pitch and its role are kept
abbrev pub Keeps : Note → LeadNote → Type 0
Keeps x y = (x.bar ≡ y.bar) × (x.midi ≡ y.note) × (x.role ≡ noted_of y.role)

module _ (m : Sung) (beatS dur : Float) (s : NoiseStream) where
  abbrev lane : ℕ → LeadLane
  lane k = play_to m beatS dur (silence_of s) k

  -- one note more, over the code's own equations
  pub lane_more : (notes : List Note) (stream : NoiseStream) (i : ℕ) (x : LeadNote) (p : Draw Note) → lane_with notes stream i ≡ lane i → x ≡ get_or m.notes.at i past_lead
      → p ≡ played_note_of x beatS dur stream → lane_with (set notes i p.value) p.stream (i + 1) ≡ lane (i + 1)
  unfolding play_to play_of
  lane_more notes stream i x p e f h =
      let next : lane_with (set notes i p.value) p.stream (i + 1) ≡ lane (suc i) = rw (← e, h, f) in
      next ∙ ap lane (sym (add-one i))

  lane_count : (k : ℕ) → (lane k).value.n ≡ k
  unfolding play_to play_of
  lane_count zero = refl
  lane_count (suc k) = omega (arith, lane_count k)

  lane_size_lem : (k : ℕ) → length (lane k).value.at ≡ 56
  unfolding play_to play_of
  lane_size_lem zero = refl
  lane_size_lem (suc k) = length-set (lane k).value.at (lane k).value.n _ ∙ lane_size_lem k

  lane_keeps : (k : ℕ) → k ≤ 56 → (i : ℕ) → i < k → Keeps (get_or (lane k).value.at i past_note) (get_or m.notes.at i past_lead)
  unfolding play_to play_of played_note_of
  lane_keeps zero h i b = absurd (not-suc-le-zero b)
  lane_keeps (suc k) h i b =
      ⊎_elim
      (λ (e : i ≡ k). let f : i ≡ (lane k).value.n = e ∙ sym (lane_count k) in rw (f, get_or-set_same (lane k).value.at (lane k).value.n _ past_note (omega (arith, lane_size_lem k, lane_count k)), lane_count k) (refl, refl, refl))
      (λ (e : i < k). rw (get_or-set_other (lane k).value.at (lane k).value.n i _ past_note (λ f. omega (arith, lane_count k))) (lane_keeps k (omega arith) i e))
      (eq-or-lt_of_le (le_of_suc-le-suc b))

  lane_rest : (k i : ℕ) → k ≤ i → i < 56 → get_or (lane k).value.at i past_note ≡ no_note
  unfolding play_to play_of
  lane_rest zero i h b = get_or-replicate 56 i no_note past_note b
  lane_rest (suc k) i h b =
      get_or-set_other (lane k).value.at (lane k).value.n i _ past_note (λ f. omega (arith, lane_count k)) ∙ lane_rest k i (omega arith) b

module _ (m : Sung) (beatS dur : Float) where
  pub played_all : (notes : List Note) (stream : NoiseStream) (i : ℕ) → lane_with notes stream i ≡ play_to m beatS dur (silence_of m.line.stream) i → i ≡ m.notes.n
      → lane_with notes stream m.notes.n ≡ played_of m beatS dur
  unfolding played_of
  played_all notes stream i e n = ap (lane_with notes stream) (sym n) ∙ e ∙ ap (play_to m beatS dur (silence_of m.line.stream)) n

  pub played_count : (played_of m beatS dur).value.n ≡ m.notes.n
  unfolding played_of
  played_count = lane_count m beatS dur m.line.stream m.notes.n

  pub played_size : length (played_of m beatS dur).value.at ≡ 56
  unfolding played_of
  played_size = lane_size_lem m beatS dur m.line.stream m.notes.n

  pub played_keeps : m.notes.n ≤ 56 → (i : ℕ) → i < m.notes.n → Keeps (get_or (played_of m beatS dur).value.at i past_note) (get_or m.notes.at i past_lead)
  unfolding played_of
  played_keeps h = lane_keeps m beatS dur m.line.stream m.notes.n h

  pub played_rest : (i : ℕ) → m.notes.n ≤ i → i < 56 → get_or (played_of m beatS dur).value.at i past_note ≡ no_note
  unfolding played_of
  played_rest = lane_rest m beatS dur m.line.stream m.notes.n
