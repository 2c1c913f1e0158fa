-- The loops of a statement bar: which slots sound, and the pushed beats of those that do. Assumes nothing.
use mathlib.Core.Path.{◌≡◌, refl, sym, ap, subst, ◌∙◌}
use mathlib.Core.Bool.{Bool, true, false, cond}
use mathlib.Core.List.{List, [], ◌∷◌, ◌++◌, append-nil, foldl, foldl-append}
use Prim.Native.Nat.{ℕ, zero, suc, ◌+◌, ◌<◌, ◌≤◌}
use native.Mathlib.Numerals.{add-one}
use native.Mathlib.Nat.{not-suc-le-zero}
use native.Mathlib.Omega.{arith}
use lib.Dec.{ltb}
use lib.ListN.{length, take, get_or, set, replicate, length-append}
use lib.Seq.{get_or-set_same, get_or-set_other}
use lib.Ieee.{Float}
use mir.Val.{bool_byte}
use borrow.Author.Tests.{ltb-true, ltb-false}
use Rattle.laws.specs.Lists.{list_to}
use Rattle.streams.specs.Draw.{chance_of}
use Rattle.streams.specs.declared.stream.NoiseStream.{NoiseStream}
use Rattle.streams.specs.declared.stream.Draw.{Draw}
use Rattle.composer.specs.Note.{zero32}
use Rattle.composer.specs.Lead.Beats.{Beats, beats_of, add_of, settled}
use Rattle.composer.specs.Lead.Grid.{grid_beat_of}
use Rattle.composer.specs.Lead.Push.{push_of, push_on_of}
use Rattle.composer.specs.Lead.Statement.{empty_from, slot_of, slots_of, pushes_of, settled_of}
use Rattle.composer.proofs.lead.BeatsLaws.{list_back, add_beats}
use Rattle.laws.proofs.Written.{Written, written_none, written_over, written_more, written_list}

-- the slots that sound, of the first n
unfoldable pub kept_to : List Bool → ℕ → List Float
kept_to sounds zero = []
kept_to sounds (suc n) = kept_to sounds n ++ cond (get_or sounds n false) (grid_beat_of n ∷ []) []

-- ---- which slots sound
module _ (p : Float) (s : NoiseStream) where
  abbrev slots_to : ℕ → Draw Beats
  slots_to i = foldl (slot_of p) (empty_from s) (list_to grid_beat_of i)

  pub record Sounding (sounds : List Bool) (stream : NoiseStream) (i : ℕ) : Type 0 where
    pub after : stream ≡ (slots_to i).stream
    pub each : (j : ℕ) → j < i → get_or sounds j false ≡ (chance_of (slots_to j).stream p).value

  pub sounding_none : (sounds : List Bool) → Sounding sounds s 0
  unfolding list_to
  sounding_none sounds = record { after = refl; each = λ (j : ℕ) (h : j < 0). absurd (not-suc-le-zero h) }

  slots_on : (i : ℕ) → slots_to (i + 1) ≡ slot_of p (slots_to i) (grid_beat_of i)
  unfolding list_to
  slots_on i = ap slots_to (add-one i) ∙ foldl-append (slot_of p) (empty_from s) (list_to grid_beat_of i) (grid_beat_of i ∷ [])

  slot_stream : (d : Draw Beats) (x : Float) → (slot_of p d x).stream ≡ (chance_of d.stream p).stream
  unfolding slot_of
  slot_stream d x = refl

  pub sounding_on : (sounds : List Bool) (stream : NoiseStream) (i : ℕ) (c : Draw Bool) → length sounds ≡ 7 → i < 7 → Sounding sounds stream i → c ≡ chance_of stream p
      → Sounding (set sounds i c.value) c.stream (i + 1)
  sounding_on sounds stream i c l h t e =
      let f : c ≡ chance_of (slots_to i).stream p = e ∙ ap (λ (q : NoiseStream). chance_of q p) t.after in
      record {
        after = ap (λ (d : Draw Bool). d.stream) f ∙ sym (slot_stream (slots_to i) (grid_beat_of i)) ∙ sym (ap (λ (d : Draw Beats). d.stream) (slots_on i));
        each = λ (j : ℕ) (k : j < i + 1). at f j k (ltb j i) refl;
      }
    where
      at : c ≡ chance_of (slots_to i).stream p → (j : ℕ) → j < i + 1 → (b : Bool) → ltb j i ≡ b → get_or (set sounds i c.value) j false ≡ (chance_of (slots_to j).stream p).value
      at f j k true g = let m = ltb-true j i g in get_or-set_other sounds i j c.value false (λ (q : j ≡ i). absurd (omega arith)) ∙ t.each j m
      at f j k false g =
          let m = ltb-false j i g in
          let q : i ≡ j = omega arith in
          subst (λ (n : ℕ). get_or (set sounds i c.value) n false ≡ (chance_of (slots_to n).stream p).value) q
          (get_or-set_same sounds i c.value false (omega arith) ∙ ap (λ (d : Draw Bool). d.value) f)

  length_kept : (sounds : List Bool) (i : ℕ) → length (kept_to sounds i) ≤ i
  unfolding kept_to
  length_kept sounds zero = omega arith
  length_kept sounds (suc i) = go (get_or sounds i false) (length_kept sounds i)
    where
      go : (b : Bool) → length (kept_to sounds i) ≤ i → length (kept_to sounds i ++ cond b (grid_beat_of i ∷ []) []) ≤ suc i
      go true h = let l : length (kept_to sounds i ++ (grid_beat_of i ∷ [])) ≡ length (kept_to sounds i) + 1 = length-append (kept_to sounds i) (grid_beat_of i ∷ []) in omega arith
      go false h = rw append-nil (omega arith)

  slot_beats : (d : Draw Beats) (x : Float) (xs : List Float) (b : Bool) → length xs < 7 → d.value ≡ beats_of xs → b ≡ (chance_of d.stream p).value → (slot_of p d x).value ≡ beats_of (xs ++ cond b (x ∷ []) [])
  unfolding slot_of
  slot_beats d x xs b h e f = rw (← f, e) (go b)
    where
      go : (t : Bool) → cond t (add_of (beats_of xs) x) (beats_of xs) ≡ beats_of (xs ++ cond t (x ∷ []) [])
      go true = add_beats xs x h
      go false = rw append-nil

  -- the slots drawn are those that sound
  kept_is : (sounds : List Bool) (i : ℕ) → i ≤ 7 → ((j : ℕ) → j < i → get_or sounds j false ≡ (chance_of (slots_to j).stream p).value) → (slots_to i).value ≡ beats_of (kept_to sounds i)
  unfolding kept_to list_to
  kept_is sounds zero h each = refl
  kept_is sounds (suc i) h each =
      let k = length_kept sounds i in
      let before = kept_is sounds i (omega arith) (λ (j : ℕ) (l : j < i). each j (omega arith)) in
      ap (λ (n : ℕ). (slots_to n).value) (sym (add-one i))
      ∙ ap (λ (d : Draw Beats). d.value) (slots_on i)
      ∙ slot_beats (slots_to i) (grid_beat_of i) (kept_to sounds i) (get_or sounds i false) (omega arith) before (each i (omega arith))

-- ---- their beats, pushed
pub record Held (d : Draw Beats) (at : List Float) (n : ℕ) (stream : NoiseStream) : Type 0 where
  pub xs : List Float
  pub is : d.value ≡ beats_of xs
  pub written : Written zero32 7 xs at n
  pub after : stream ≡ d.stream

pub held_none : (s : NoiseStream) → Held (empty_from s) (replicate 7 zero32) 0 s
held_none s = record { xs = []; is = refl; written = written_none zero32 7; after = refl }

push_beats : (d : Draw Beats) (x : Float) (q : Draw Float) (xs : List Float) → length xs < 7 → d.value ≡ beats_of xs → q ≡ push_of d.stream x → (push_on_of d x).value ≡ beats_of (xs ++ (q.value ∷ []))
unfolding push_on_of
push_beats d x q xs h e f = rw (← f, e) (add_beats xs q.value h)

push_after : (d : Draw Beats) (x : Float) (q : Draw Float) → q ≡ push_of d.stream x → q.stream ≡ (push_on_of d x).stream
unfolding push_on_of
push_after d x q f = ap (λ (r : Draw Float). r.stream) f

held_on : (d : Draw Beats) (at : List Float) (n : ℕ) (stream : NoiseStream) (x : Float) (q : Draw Float) (b : Bool) → n < 7 → Held d at n stream → q ≡ push_of stream x
    → Held (foldl push_on_of d (cond b (x ∷ []) [])) (set at n q.value) (n + bool_byte b) (cond b q.stream stream)
held_on d at n stream x q true h t e =
    let f : q ≡ push_of d.stream x = e ∙ ap (λ (s : NoiseStream). push_of s x) t.after in
    let k = t.written.count in
    record { xs = t.xs ++ (q.value ∷ []); is = push_beats d x q t.xs (omega arith) t.is f; written = written_more zero32 7 t.xs at n q.value t.written h; after = push_after d x q f }
held_on d at n stream x q false h t e =
    let k : n ≡ n + 0 = omega arith in
    record { xs = t.xs; is = t.is; written = subst (λ (m : ℕ). Written zero32 7 t.xs (set at n q.value) m) k (written_over zero32 7 t.xs at n q.value t.written); after = t.after }

-- a turn of the loop that pushes
pub held_turn : (sounds : List Bool) (s : NoiseStream) (i : ℕ) (at : List Float) (n : ℕ) (stream : NoiseStream) (q : Draw Float) (next : NoiseStream) → n < 7
    → Held (foldl push_on_of (empty_from s) (kept_to sounds i)) at n stream → q ≡ push_of stream (grid_beat_of i)
    → next ≡ cond (get_or sounds i false) q.stream stream → Held (foldl push_on_of (empty_from s) (kept_to sounds (i + 1))) (set at n q.value) (n + bool_byte (get_or sounds i false)) next
unfolding kept_to
held_turn sounds s i at n stream q next h t e f =
    let x = grid_beat_of i in
    let b = get_or sounds i false in
    rw (add-one i, foldl-append push_on_of (empty_from s) (kept_to sounds i) (cond b (x ∷ []) []), f)
    (held_on (foldl push_on_of (empty_from s) (kept_to sounds i)) at n stream x q b h t e)

-- ---- the bar
abbrev beats_beside : Beats → NoiseStream → Draw Beats
beats_beside b s = record { value = b; stream = s }

held_settled : (d : Draw Beats) (at : List Float) (n : ℕ) (stream : NoiseStream) (done : Beats) → Held d at n stream → done ≡ beats_of (settled (take n at)) → beats_beside done stream ≡ settled_of d
held_settled d at n stream done t e =
    let xs = t.xs in
    rw (e, t.after, written_list zero32 7 xs at n t.written, t.is, list_back xs)

pushes_are : (p : Float) (s : NoiseStream) (sounds : List Bool) (st : NoiseStream) → Sounding p s sounds st 7 → pushes_of (slots_of s p) ≡ foldl push_on_of (empty_from st) (kept_to sounds 7)
unfolding pushes_of slots_of
pushes_are p s sounds st t = rw (t.after, kept_is p s sounds 7 (omega arith) t.each, list_back (kept_to sounds 7))

pub statement_done : (p : Float) (s : NoiseStream) (sounds : List Bool) (st : NoiseStream) (at : List Float) (n : ℕ) (stream : NoiseStream) (done : Beats)
    → Sounding p s sounds st 7 → Held (foldl push_on_of (empty_from st) (kept_to sounds 7)) at n stream → done ≡ beats_of (settled (take n at))
    → beats_beside done stream ≡ settled_of (pushes_of (slots_of s p))
statement_done p s sounds st at n stream done t u e = held_settled _ at n stream done u e ∙ ap (λ (d : Draw Beats). settled_of d) (sym (pushes_are p s sounds st t))
