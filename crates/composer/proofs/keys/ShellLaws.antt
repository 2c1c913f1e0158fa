-- The shell of a chord in a key. Assumes nothing.
use mathlib.Core.Path.{◌≡◌, sym, subst}
use mathlib.Core.Bool.{Bool, true, false, cond, ◌&&◌}
use mathlib.Core.List.{List, [], ◌∷◌}
use Prim.Native.Nat.{ℕ, zero, suc, ◌≤◌, ◌<◌}
use native.Mathlib.Omega.{arith}
use lib.Dec.{T, eqb, eqb→eq, leb, leb→le}
use lib.ListN.{get_or}
use mir.Facts.{and_yes}
use Rattle.laws.proofs.Runs.{every, every_at}
use Rattle.composer.specs.Chord.{root_class_of, degree_at, past_chord, voiced_of}
use Rattle.composer.specs.Harmony.{Tonal}
use Rattle.composer.specs.Keys.{sounds_of, find_of, shell_of, placed_shell, upper_of}
use Rattle.composer.specs.Range.{Within}
use Rattle.composer.specs.declared.chord.Chord.{Chord}
use Rattle.composer.specs.declared.harmony.Harmony.{Harmony}
use Rattle.composer.proofs.ChordLaws.{degree_small, root_within}
use Rattle.composer.proofs.HarmonyLaws.{tonal_root}

-- ---- what is found is a note, or 0
chosen_le : (t : Bool) (x y top : ℕ) → x ≤ top → y ≤ top → cond t x y ≤ top
chosen_le true x y top h k = h
chosen_le false x y top h k = k

find_le : (root a b top : ℕ) (notes : List ℕ) → ((k : ℕ) → get_or notes k 0 ≤ top) → find_of root a b notes ≤ top
unfolding find_of
find_le root a b top [] h = omega arith
find_le root a b top (n ∷ ns) h = chosen_le (sounds_of root a b n) n (find_of root a b ns) top (h 0) (find_le root a b top ns (λ k. h (suc k)))

-- what a stroke asks of a chord: an octave fits above each note
abbrev Reachable : Chord → Type 0
Reachable c = (k : ℕ) → get_or c.notes k 0 ≤ 244

seventh_le : (c : Chord) → Reachable c → (shell_of c).seventh ≤ 244
unfolding shell_of
seventh_le c r = find_le (root_class_of c) 10 11 244 c.notes r

-- ---- a chord in a key
module _ (d key : ℕ) (h : d < 6) where
  voiced_note_le : Reachable (voiced_of (degree_at d) key)
  voiced_note_le zero = omega arith
  voiced_note_le (suc zero) = omega (arith, (degree_small d h).third_most)
  voiced_note_le (suc (suc zero)) = omega arith
  voiced_note_le (suc (suc (suc zero))) = omega (arith, (degree_small d h).seventh_most)
  voiced_note_le (suc (suc (suc (suc k)))) = omega arith

pub tonal_seventh_le : (h : Harmony) → Tonal h → (k : ℕ) → k < 8 → (shell_of (get_or h.bars k past_chord)).seventh ≤ 244
tonal_seventh_le h t k l = subst (λ (c : Chord). (shell_of c).seventh ≤ 244) (sym (t.bar k l)) (seventh_le _ (voiced_note_le (t.degree k) t.key (t.degree_lt k)))

-- ---- the Rust's `expect` never fires
abbrev third_second : Chord → Bool
third_second c = eqb (shell_of c).third (get_or c.notes 1 0)

abbrev seventh_last : Chord → Bool
seventh_last c = eqb (shell_of c).seventh (get_or c.notes 3 0)

abbrev shelled_in : ℕ → ℕ → Bool
shelled_in d key = third_second (voiced_of (degree_at d) key) && seventh_last (voiced_of (degree_at d) key)

abbrev shelled_all : ℕ → Bool
shelled_all d = every 12 (shelled_in d)

-- computed: 6 degrees in 12 keys
all_shelled : T (every 6 shelled_all)
unfolding shell_of find_of
all_shelled = tt

voiced_shell : (d key : ℕ) → d < 6 → key < 12 → T (third_second (voiced_of (degree_at d) key)) × T (seventh_last (voiced_of (degree_at d) key))
voiced_shell d key h k =
    and_yes (third_second (voiced_of (degree_at d) key)) (seventh_last (voiced_of (degree_at d) key))
    (every_at 12 (shelled_in d) (every_at 6 shelled_all all_shelled d h) key k)

module _ (h : Harmony) (t : Tonal h) (k : ℕ) (l : k < 8) where
  shelled : T (third_second (get_or h.bars k past_chord)) × T (seventh_last (get_or h.bars k past_chord))
  shelled =
      subst (λ (c : Chord). T (third_second c) × T (seventh_last c)) (sym (t.bar k l))
      (voiced_shell (t.degree k) t.key (t.degree_lt k) t.key_lt)

  -- the shell is the second note of the bar's chord and the last
  pub tonal_shell : shell_of (get_or h.bars k past_chord) ≡ placed_shell (get_or h.bars k past_chord)
  unfolding shell_of
  tonal_shell =
      let c = get_or h.bars k past_chord in
      rw (eqb→eq (shell_of c).third (get_or c.notes 1 0) shelled.0, eqb→eq (shell_of c).seventh (get_or c.notes 3 0) shelled.1)

-- ---- how low and how high a stroke sounds: from 48 to 73
-- the shell's third, its upper voice with and without the ninth, and each chord tone
pub record Played (c : Chord) : Type 0 where
  pub third : Within 48 73 (shell_of c).third
  pub upper : (ninth : Bool) → Within 48 73 (upper_of ninth (shell_of c).seventh (root_class_of c))
  pub tone : (k : ℕ) → k < 4 → Within 48 73 (get_or c.notes k 0)

abbrev heard : ℕ → Bool
heard n = leb 48 n && leb n 73

heard_within : (n : ℕ) → T (heard n) → Within 48 73 n
heard_within n t = let u = and_yes (leb 48 n) (leb n 73) t in record { least = leb→le 48 n u.0; most = leb→le n 73 u.1 }

abbrev upper_heard : Bool → Chord → Bool
upper_heard ninth c = heard (upper_of ninth (shell_of c).seventh (root_class_of c))

abbrev stroke_heard : Chord → Bool
stroke_heard c = heard (shell_of c).third && (upper_heard true c && upper_heard false c)

-- computed: 6 degrees in 12 keys
all_heard : T (every 6 (λ d. every 12 (λ key. stroke_heard (voiced_of (degree_at d) key))))
unfolding shell_of find_of
all_heard = tt

voiced_heard : (d key : ℕ) → d < 6 → key < 12 → T (stroke_heard (voiced_of (degree_at d) key))
voiced_heard d key h k =
    every_at 12 (λ (key : ℕ). stroke_heard (voiced_of (degree_at d) key)) (every_at 6 (λ (d : ℕ). every 12 (λ key. stroke_heard (voiced_of (degree_at d) key))) all_heard d h) key k

upper_within : (c : Chord) → T (upper_heard true c && upper_heard false c) → (ninth : Bool) → Within 48 73 (upper_of ninth (shell_of c).seventh (root_class_of c))
upper_within c t true = heard_within _ (and_yes (upper_heard true c) (upper_heard false c) t).0
upper_within c t false = heard_within _ (and_yes (upper_heard true c) (upper_heard false c) t).1

pub tonal_played : (h : Harmony) → Tonal h → (k : ℕ) → k < 8 → Played (get_or h.bars k past_chord)
tonal_played h t k l =
    let c = get_or h.bars k past_chord in
    let all = subst (λ (c : Chord). T (stroke_heard c)) (sym (t.bar k l)) (voiced_heard (t.degree k) t.key (t.degree_lt k) t.key_lt) in
    let u = and_yes (heard (shell_of c).third) (upper_heard true c && upper_heard false c) all in
    record {
      third = heard_within (shell_of c).third u.0;
      upper = upper_within c u.1;
      tone = λ i j. let w = root_within c (tonal_root h t k l) i j in record { least = w.least; most = omega (arith, w.most) };
    }
