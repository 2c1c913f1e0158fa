-- Every harmony that is drawn has a key, a loop and the key's scale, and takes three draws. Assumes nothing.
use mathlib.Core.Path.{◌≡◌, refl, sym, ap, ◌∙◌, subst}
use mathlib.Core.Bool.{Bool, true, false}
use mathlib.Core.List.{List, [], map}
use Prim.Native.Nat.{ℕ, ◌+◌, ◌%◌, ◌^◌, ◌<◌}
use native.Mathlib.Omega.{arith}
use lib.Dec.{T, ltb, ltb→lt, eqb, eqb→eq}
use lib.ListN.{get_or, length, length-map, get_or-map}
use Rattle.laws.specs.Lists.{all_of}
use Rattle.laws.proofs.Lists.{all_at, all_in, get_d_any}
use Rattle.streams.specs.Stream.{after}
use Rattle.streams.specs.Stage.{stream_of}
use Rattle.streams.specs.Draw.{pick_of, chance_of}
use Rattle.streams.specs.declared.stage.Stage.{Stage}
use Rattle.streams.specs.declared.stream.NoiseStream.{NoiseStream}
use Rattle.streams.proofs.StreamLaws.{after_on, after_counter}
use Rattle.streams.proofs.StageLaws.{stream_counter}
use Rattle.streams.proofs.DrawLaws.{pick_lt, pick_advances, chance_advances}
use Rattle.composer.specs.Chord.{past_chord, RootPosition}
use Rattle.composer.specs.Harmony.{major_loops, minor_loops, loops_of, rows_of, loop_at, chord_in, chords_of, harmony_in, harmony_of, Tonal}
use Rattle.composer.specs.Style.{major_share_of}
use Rattle.composer.specs.declared.harmony.Harmony.{Harmony}
use Rattle.composer.specs.declared.style.Style.{Style}
use Rattle.composer.proofs.ChordLaws.{voiced_root}

-- ---- the tables
abbrev sixth : ℕ → Bool
sixth d = ltb d 6

abbrev sixths : List ℕ → Bool
sixths row = all_of sixth row

abbrev eight : List ℕ → Bool
eight row = eqb (length row) 8

all_sixths : (major : Bool) → T (all_of sixths (loops_of major))
unfolding all_of
all_sixths true = tt
all_sixths false = tt

none_sixths : T (sixths [])
unfolding all_of
none_sixths = tt

-- every entry of every loop is one of the six degrees
pub loop_degree : (major : Bool) (row k : ℕ) → get_or (loop_at major row) k 0 < 6
loop_degree major row k =
    ltb→lt (get_or (loop_at major row) k 0) 6
    (all_at sixth 0 tt (loop_at major row) (all_at sixths [] none_sixths (loops_of major) (all_sixths major) row) k)

pub rows_some : (major : Bool) → 0 < rows_of major
rows_some true = omega arith
rows_some false = omega arith

eights : (major : Bool) → T (all_of eight (loops_of major))
unfolding all_of
eights true = tt
eights false = tt

-- every loop of the table has eight bars
row_length : (major : Bool) (row : ℕ) → row < rows_of major → length (loop_at major row) ≡ 8
row_length true row h = eqb→eq (length (get_or major_loops row [])) 8 (all_in eight major_loops (eights true) row [] h)
row_length false row h = eqb→eq (length (get_or minor_loops row [])) 8 (all_in eight minor_loops (eights false) row [] h)

-- ---- the harmony
bar_at_lem : (key : ℕ) (row : List ℕ) (k : ℕ) → k < length row → get_or (map (chord_in key) row) k past_chord ≡ chord_in key (get_or row k 0)
bar_at_lem key row k h =
    get_d_any (map (chord_in key) row) k past_chord (chord_in key 0) (subst (λ (n : ℕ). k < n) (sym (length-map row (chord_in key))) h)
    ∙ get_or-map (chord_in key) row k 0

module _ (s : NoiseStream) (style : Style) where
  -- a key, a scale of it, and in each bar a chord of it
  pub harmony_tonal : Tonal (harmony_of s style).value
  unfolding harmony_of harmony_in chords_of
  harmony_tonal =
      let a = chance_of s (major_share_of style) in
      let b = pick_of a.stream (rows_of a.value) in
      let c = pick_of b.stream 12 in
      let row = loop_at a.value b.value in
      record {
        major = a.value;
        key = c.value;
        degree = λ k. get_or row k 0;
        key_lt = pick_lt b.stream 12 (omega arith);
        degree_lt = loop_degree a.value b.value;
        scale = refl;
        bar = λ k h. bar_at_lem c.value row k (subst (λ (n : ℕ). k < n) (sym (row_length a.value b.value (pick_lt a.stream (rows_of a.value) (rows_some a.value)))) h);
      }

  pub harmony_count : length (harmony_of s style).value.bars ≡ 8
  unfolding harmony_of harmony_in chords_of
  harmony_count =
      let a = chance_of s (major_share_of style) in
      let b = pick_of a.stream (rows_of a.value) in
      let c = pick_of b.stream 12 in
      length-map (loop_at a.value b.value) (chord_in c.value) ∙ row_length a.value b.value (pick_lt a.stream (rows_of a.value) (rows_some a.value))

  -- two draws come before the key's
  pub key_next : (pick_of (chance_of s (major_share_of style)).stream (rows_of (chance_of s (major_share_of style)).value)).stream ≡ after s 2
  key_next =
      let a = chance_of s (major_share_of style) in
      pick_advances a.stream (rows_of a.value) ∙ after_on s a.stream 1 2 (chance_advances s (major_share_of style)) refl

  harmony_advances : (harmony_of s style).stream ≡ after s 3
  unfolding harmony_of
  harmony_advances =
      let a = chance_of s (major_share_of style) in
      let b = pick_of a.stream (rows_of a.value) in
      pick_advances b.stream 12 ∙ after_on s b.stream 2 3 key_next refl

-- three draws, always
pub harmony_counter : (seed : ℕ) (style : Style) → (harmony_of (stream_of Stage.Harmony seed) style).stream.counter ≡ 3
harmony_counter seed style =
    ap (λ (t : NoiseStream). t.counter) (harmony_advances (stream_of Stage.Harmony seed) style)
    ∙ after_counter (stream_of Stage.Harmony seed) 3 ∙ ap (λ (n : ℕ). (n + 3) % 2 ^ 64) (stream_counter Stage.Harmony seed)

-- each bar's chord is in root position
pub tonal_root : (h : Harmony) → Tonal h → (k : ℕ) → k < 8 → RootPosition (get_or h.bars k past_chord)
tonal_root h t k l = subst RootPosition (sym (t.bar k l)) (voiced_root (t.degree k) t.key (t.degree_lt k))
