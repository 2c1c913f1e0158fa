-- What a turn of each loop over tones tells of the definitions. Assumes nothing.
use mathlib.Core.Path.{◌≡◌, refl, sym, ap, subst, ◌∙◌}
use mathlib.Core.Bool.{Bool, true, false, cond, ◌&&◌}
use mathlib.Core.List.{List, [], ◌∷◌, ◌++◌, append-nil}
use Prim.Native.Nat.{ℕ, zero, suc, ◌+◌, ◌-◌, ◌%◌, ◌≤◌, ◌<◌, min}
use native.Mathlib.Numerals.{add-one}
use native.Mathlib.Omega.{arith}
use borrow.Author.Tests.{eq-eqb, ne_eqb, eqb-true, eqb-false, le-leb, lt-leb, leb-true, leb-false, ltb-true, ltb-false}
use mir.Val.{bool_byte}
use lib.Dec.{leb, ltb, eqb}
use lib.ListN.{length, get_or, take, drop, set, replicate, drop_of_length-le, length-append, length-set, get_or-replicate}
use lib.Seq.{drop-cons, take-suc, take_at, get_or-set_same, get_or-set_other}
use Rattle.std.specs.List.{fold}
use Rattle.std.proofs.lemmas.List.{take_all}
use Rattle.laws.specs.Lists.{pad, filter_of}
use Rattle.composer.specs.Chord.{root_class_of}
use Rattle.composer.specs.Lead.Scale.{in_pool}
use Rattle.composer.specs.Lead.Tones.{Tones, above_of, in_chord_of, lowered, lowest_from, lowest_of, is_tone_of, is_sung_of, no_class, kept, one, tones_in, packed, cleared_of, listed, tones_in_of, has_class, scale_notes_in, scale_notes_of, is_other, rank_of, closer_of, closest, nearest_of}
use Rattle.composer.specs.Lead.Ground.{ground_of, ground_from}
use Rattle.composer.specs.declared.chord.Chord.{Chord}
use Rattle.composer.specs.declared.style.LeadStyle.{LeadStyle}
use Rattle.laws.proofs.Counts.{filter_append, filter_both}
use Rattle.laws.proofs.Written.{Written, written_none, written_over, written_more}

-- ---- a chord's notes: a table of the lowest of each class tells whether a note is one of them
same_class : (c n : ℕ) → c % 12 ≡ n % 12 → above_of c n ≡ leb c n
same_class c n e = go (leb c n) refl
  where
    go : (b : Bool) → leb c n ≡ b → (b && eqb ((n - c) % 12) 0) ≡ b
    go true f = let h = leb-true c n f in eq-eqb ((n - c) % 12) 0 (omega arith)
    go false f = refl

other_class : (c n : ℕ) → (c % 12 ≡ n % 12 → ⊥) → above_of c n ≡ false
other_class c n e = go (leb c n) refl
  where
    go : (b : Bool) → leb c n ≡ b → (b && eqb ((n - c) % 12) 0) ≡ false
    go true f = let h = leb-true c n f in ne_eqb ((n - c) % 12) 0 (λ g. e (omega arith))
    go false f = refl

least_below : (a b n : ℕ) → leb (min a b) n ≡ cond (leb a n) true (leb b n)
least_below a b n = go (leb a n) (leb b n) refl refl
  where
    go : (s t : Bool) → leb a n ≡ s → leb b n ≡ t → leb (min a b) n ≡ cond s true t
    go true t e f = let h = leb-true a n e in le-leb (min a b) n (omega arith)
    go false true e f = let h = leb-true b n f in le-leb (min a b) n (omega arith)
    go false false e f = let h = leb-false a n e in let k = leb-false b n f in lt-leb (min a b) n (omega arith)

cond_same : (a : Bool) → cond a true false ≡ a
cond_same true = refl
cond_same false = refl

cond_assoc : (a b c : Bool) → cond (cond a true b) true c ≡ cond a true (cond b true c)
cond_assoc true b c = refl
cond_assoc false b c = refl

lowered_tone : (lowest : List ℕ) (c n : ℕ) → length lowest ≡ 12 → is_tone_of (lowered lowest c) n ≡ cond (is_tone_of lowest n) true (above_of c n)
lowered_tone lowest c n l = go (eqb (c % 12) (n % 12)) refl
  where
    go : (b : Bool) → eqb (c % 12) (n % 12) ≡ b → is_tone_of (lowered lowest c) n ≡ cond (is_tone_of lowest n) true (above_of c n)
    go true f =
        let e : c % 12 ≡ n % 12 = eqb-true (c % 12) (n % 12) f in
        rw (same_class c n e, e, get_or-set_same lowest (n % 12) (min (get_or lowest (n % 12) 0) c) 0 (omega arith)) (least_below (get_or lowest (n % 12) 0) c n)
    go false f =
        let e : (c % 12 ≡ n % 12 → ⊥) = eqb-false (c % 12) (n % 12) f in
        rw (other_class c n e, get_or-set_other lowest (c % 12) (n % 12) (min (get_or lowest (c % 12) 0) c) 0 (λ g. e (sym g))) (sym (cond_same (is_tone_of lowest n)))

lowest_tone : (chord lowest : List ℕ) (n : ℕ) → length lowest ≡ 12 → is_tone_of (lowest_from lowest chord) n ≡ cond (is_tone_of lowest n) true (in_chord_of chord n)
unfolding lowest_from in_chord_of
lowest_tone [] lowest n l = sym (cond_same (is_tone_of lowest n))
lowest_tone (c ∷ cs) lowest n l =
    lowest_tone cs (lowered lowest c) n (length-set lowest (c % 12) (min (get_or lowest (c % 12) 0) c) ∙ l)
    ∙ ap (λ (b : Bool). cond b true (in_chord_of cs n)) (lowered_tone lowest c n l) ∙ cond_assoc (is_tone_of lowest n) (above_of c n) (in_chord_of cs n)

pub tone_is : (chord : List ℕ) (n : ℕ) → n < 256 → is_tone_of (lowest_of chord) n ≡ in_chord_of chord n
tone_is chord n h =
    lowest_tone chord (replicate 12 256) n refl
    ∙ ap (λ (b : Bool). cond b true (in_chord_of chord n)) (ap (λ (k : ℕ). leb k n) (get_or-replicate 12 (n % 12) 256 0 (omega arith)) ∙ lt-leb 256 n h)

pub lowest_next : (lowest l : List ℕ) (i : ℕ) → i < length l → lowest_from lowest (drop i l) ≡ lowest_from (lowered lowest (get_or l i 0)) (drop (i + 1) l)
unfolding lowest_from
lowest_next lowest l i h = rw (add-one, drop-cons l i 0)

pub lowest_end : (lowest l : List ℕ) (i : ℕ) → length l ≤ i → lowest_from lowest (drop i l) ≡ lowest
unfolding lowest_from
lowest_end lowest l i h = rw (drop_of_length-le l h)

-- ---- the nearest: the rank holds the note in its lower byte, and the lower rank is the closer note's
closer_rank : (t best x : ℕ) → min (rank_of t best) (rank_of t x) ≡ rank_of t (closer_of t best x)
closer_rank t best x = go (ltb (rank_of t x) (rank_of t best)) refl
  where
    go : (b : Bool) → ltb (rank_of t x) (rank_of t best) ≡ b → min (rank_of t best) (rank_of t x) ≡ rank_of t (cond b x best)
    go true f = let g = ltb-true (rank_of t x) (rank_of t best) f in omega arith
    go false f = let g = ltb-false (rank_of t x) (rank_of t best) f in omega arith

closest_rank : (t best : ℕ) (xs : List ℕ) → fold (λ (b x : ℕ). min b (rank_of t x)) (rank_of t best) xs ≡ rank_of t (closest t best xs)
unfolding closest
closest_rank t best [] = refl
closest_rank t best (x ∷ xs) = rw (closer_rank t best x) (closest_rank t (closer_of t best x) xs)

closest_small : (t best : ℕ) (xs : List ℕ) → best < 256 → ((i : ℕ) → i < length xs → get_or xs i 0 < 256) → closest t best xs < 256
unfolding closest
closest_small t best [] h a = h
closest_small t best (x ∷ xs) h a = closest_small t (closer_of t best x) xs (go (ltb (rank_of t x) (rank_of t best))) (λ i k. a (suc i) (omega arith))
  where
    go : (b : Bool) → cond b x best < 256
    go true = a 0 (omega arith)
    go false = h

pub nearest_by_rank : (t : ℕ) (xs : List ℕ) → 0 < length xs → t < 256 → ((i : ℕ) → i < length xs → get_or xs i 0 < 256) → fold (λ (b x : ℕ). min b (rank_of t x)) 65535 xs % 256 ≡ nearest_of xs t
unfolding nearest_of
nearest_by_rank t [] h s a = absurd (omega arith)
nearest_by_rank t (x ∷ xs) h s a =
    let low : x < 256 = a 0 (omega arith) in
    let few : min 65535 (rank_of t x) ≡ rank_of t x = omega arith in
    let small = closest_small t x xs low (λ i k. a (suc i) (omega arith)) in
    rw (few, closest_rank t x xs) (omega arith)

-- ---- the tones: what an array and a count hold of those below x
grown : (passes : ℕ → Bool) (lo x : ℕ) → lo ≤ x → kept passes lo (x + 1 - lo) ≡ kept passes lo (x - lo) ++ one (passes x) x
unfolding kept
grown passes lo x low =
    let e : x + 1 - lo ≡ suc (x - lo) = omega arith in
    let f : lo + (x - lo) ≡ x = omega arith in
    rw e (rw f)

-- one that passes stays, another is written over
written_one : (b : Bool) (xs at : List ℕ) (n x : ℕ) → n < 20 → Written 0 20 xs at n → Written 0 20 (xs ++ one b x) (set at n x) (n + bool_byte b)
written_one true xs at n x h w = written_more 0 20 xs at n x w h
written_one false xs at n x h w = rw append-nil (subst (λ (k : ℕ). Written 0 20 xs (set at n x) k) (omega arith) (written_over 0 20 xs at n x w))

pub holds_on : (passes : ℕ → Bool) (lo x : ℕ) (at : List ℕ) (n : ℕ) (b : Bool) → lo ≤ x → n < 20 → b ≡ passes x → Written 0 20 (kept passes lo (x - lo)) at n
    → Written 0 20 (kept passes lo (x + 1 - lo)) (set at n x) (n + bool_byte b)
holds_on passes lo x at n b low room e w = rw (e, grown passes lo x low) (written_one (passes x) (kept passes lo (x - lo)) at n x room w)

pub tones_written : (xs at : List ℕ) (n : ℕ) → Written 0 20 xs at n → cleared_of at n ≡ packed xs
tones_written xs at n w = rw (w.cleared, w.count)

-- ---- a list in the struct and back
pub listed_packed : (xs : List ℕ) → listed (packed xs) ≡ xs
unfolding pad
listed_packed xs = take_at xs _ (length xs) refl

-- ---- a filter: what an array and a count hold of the first i entries
module _ (p : ℕ → Bool) where
  filter_one : (b : Bool) (x : ℕ) → p x ≡ b → filter_of p (x ∷ []) ≡ one b x
  unfolding filter_of
  filter_one true x e = rw e
  filter_one false x e = rw e

  filter_on : (all : List ℕ) (i : ℕ) (b : Bool) → i < length all → p (get_or all i 0) ≡ b → filter_of p (take (i + 1) all) ≡ filter_of p (take i all) ++ one b (get_or all i 0)
  filter_on all i b h e =
      ap (λ (k : ℕ). filter_of p (take k all)) (add-one i) ∙ ap (filter_of p) (take-suc all i 0 h) ∙ filter_append p (take i all) (get_or all i 0 ∷ [])
      ∙ ap (λ (ys : List ℕ). filter_of p (take i all) ++ ys) (filter_one b (get_or all i 0) e)

  pub chosen_none : (all : List ℕ) → Written 0 20 (filter_of p (take 0 all)) (replicate 20 0) 0
  unfolding filter_of
  chosen_none all = written_none 0 20

  pub chosen_on : (all : List ℕ) (i : ℕ) (at : List ℕ) (n : ℕ) (b : Bool) → i < length all → n < 20 → b ≡ p (get_or all i 0) → Written 0 20 (filter_of p (take i all)) at n
      → Written 0 20 (filter_of p (take (i + 1) all)) (set at n (get_or all i 0)) (n + bool_byte b)
  chosen_on all i at n b h room e w = rw (filter_on all i b h (sym e)) (written_one b (filter_of p (take i all)) at n (get_or all i 0) room w)

  pub chosen_all : (all : List ℕ) (i : ℕ) (at : List ℕ) (n : ℕ) → length all ≤ i → Written 0 20 (filter_of p (take i all)) at n → cleared_of at n ≡ packed (filter_of p all)
  chosen_all all i at n h w = tones_written (filter_of p (take i all)) at n w ∙ ap (λ (xs : List ℕ). packed (filter_of p xs)) (take_all i all h)

  -- what is kept and then filtered passes both
  filter_kept : (q : ℕ → Bool) (lo k : ℕ) → filter_of p (kept q lo k) ≡ kept (λ n. q n && p n) lo k
  unfolding kept filter_of
  filter_kept q lo zero = refl
  filter_kept q lo (suc k) =
      filter_append p (kept q lo k) (one (q (lo + k)) (lo + k)) ∙ ap (λ (ys : List ℕ). ys ++ filter_of p (one (q (lo + k)) (lo + k))) (filter_kept q lo k)
      ∙ ap (λ (ys : List ℕ). kept (λ n. q n && p n) lo k ++ ys) (last (q (lo + k)) (p (lo + k)) refl)
    where
      last : (a b : Bool) → p (lo + k) ≡ b → filter_of p (one a (lo + k)) ≡ one (a && b) (lo + k)
      last true b e = filter_one b (lo + k) e
      last false b e = refl

kept_same : (p q : ℕ → Bool) → ((n : ℕ) → p n ≡ q n) → (lo k : ℕ) → kept p lo k ≡ kept q lo k
unfolding kept
kept_same p q h lo zero = refl
kept_same p q h lo (suc k) = rw (kept_same p q h lo k, h (lo + k))

-- those of a list's that pass both
pub filtered_both : (p q : ℕ → Bool) (xs : List ℕ) → packed (filter_of (λ n. p n && q n) xs) ≡ packed (filter_of q (listed (packed (filter_of p xs))))
filtered_both p q xs = rw (listed_packed (filter_of p xs), filter_both p q xs)

-- ---- the chord's tones are a filter of the scale's notes, and the rootless ones a filter of these
no_class_lem : (n : ℕ) → eqb (n % 12) no_class ≡ false
no_class_lem n = ne_eqb (n % 12) 12 (λ e. omega arith)

sung_both : (chord : List ℕ) (pool : List Bool) (n : ℕ) → (has_class pool n && in_chord_of chord n) ≡ is_sung_of chord pool no_class n
unfolding is_sung_of
sung_both chord pool n = rw (no_class_lem n) (swapped (in_pool pool (n % 12)) (in_chord_of chord n))
  where
    swapped : (a b : Bool) → (a && b) ≡ (b && true && a)
    swapped true true = refl
    swapped true false = refl
    swapped false true = refl
    swapped false false = refl

sung_other : (chord : List ℕ) (pool : List Bool) (root n : ℕ) → (is_sung_of chord pool no_class n && is_other root n) ≡ is_sung_of chord pool root n
unfolding is_sung_of
sung_other chord pool root n = rw (no_class_lem n) (moved (in_chord_of chord n) (in_pool pool (n % 12)) (is_other root n))
  where
    moved : (a b c : Bool) → ((a && true && b) && c) ≡ (a && c && b)
    moved true true true = refl
    moved true true false = refl
    moved true false true = refl
    moved true false false = refl
    moved false b c = refl

pub tones_from : (chord : List ℕ) (pool : List Bool) (lo hi : ℕ) → filter_of (in_chord_of chord) (listed (scale_notes_of pool lo hi)) ≡ tones_in chord pool no_class lo hi
unfolding scale_notes_in tones_in
tones_from chord pool lo hi =
    ap (filter_of (in_chord_of chord)) (listed_packed (scale_notes_in pool lo hi)) ∙ filter_kept (in_chord_of chord) (has_class pool) lo (hi + 1 - lo)
    ∙ kept_same (λ n. has_class pool n && in_chord_of chord n) (is_sung_of chord pool no_class) (sung_both chord pool) lo (hi + 1 - lo)

rootless_from : (chord : List ℕ) (pool : List Bool) (root lo hi : ℕ) → filter_of (is_other root) (listed (tones_in_of chord pool no_class lo hi)) ≡ tones_in chord pool root lo hi
unfolding tones_in
rootless_from chord pool root lo hi =
    ap (filter_of (is_other root)) (listed_packed (tones_in chord pool no_class lo hi)) ∙ filter_kept (is_other root) (is_sung_of chord pool no_class) lo (hi + 1 - lo)
    ∙ kept_same (λ n. is_sung_of chord pool no_class n && is_other root n) (is_sung_of chord pool root) (sung_other chord pool root) lo (hi + 1 - lo)

pub ground_from_lem : (style : LeadStyle) (chord : Chord) (pool : List Bool) (sung : Tones) → sung ≡ scale_notes_of pool style.lo style.hi → ground_from style chord sung ≡ ground_of style chord pool
unfolding ground_from ground_of
ground_from_lem style chord pool sung e =
    rw (e, tones_from chord.notes pool style.lo style.hi, rootless_from chord.notes pool (root_class_of chord) style.lo style.hi)

-- ---- at most one tone for each semitone
one_few : (b : Bool) (x : ℕ) → length (one b x) ≤ 1
one_few true x = omega arith
one_few false x = omega arith

kept_few : (passes : ℕ → Bool) (lo k : ℕ) → length (kept passes lo k) ≤ k
unfolding kept
kept_few passes lo zero = omega arith
kept_few passes lo (suc k) =
    omega (arith, length-append (kept passes lo k) (one (passes (lo + k)) (lo + k)), kept_few passes lo k, one_few (passes (lo + k)) (lo + k))

pub tones_few : (chord : List ℕ) (pool : List Bool) (avoid lo hi : ℕ) → hi < lo + 20 → length (tones_in chord pool avoid lo hi) ≤ 20
unfolding tones_in
tones_few chord pool avoid lo hi h = omega (arith, kept_few (is_sung_of chord pool avoid) lo (hi + 1 - lo))

pub scale_few : (pool : List Bool) (lo hi : ℕ) → hi < lo + 20 → length (scale_notes_in pool lo hi) ≤ 20
unfolding scale_notes_in
scale_few pool lo hi h = omega (arith, kept_few (has_class pool) lo (hi + 1 - lo))
