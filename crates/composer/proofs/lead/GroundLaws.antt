-- In either style, key and kind of scale, over each of the six chords: there are tones to sing and to start on, and every snap
-- lands. These few cases are computed, and so a melody may be sung over every tonal harmony. Assumes nothing.
use mathlib.Core.Path.{◌≡◌, refl, sym, subst}
use mathlib.Core.Bool.{Bool, true, false, cond}
use mathlib.Core.List.{List, [], ◌∷◌, ◌++◌, map}
use Prim.Native.Nat.{ℕ, zero, suc, ◌+◌, ◌-◌, ◌≤◌, ◌<◌, max}
use native.Mathlib.Omega.{arith}
use borrow.Author.Tests.{eqb-false}
use lib.Dec.{T, ltb, eqb, ltb→lt}
use lib.ListN.{length, get_or}
use lib.Seq.{take_at}
use Rattle.laws.specs.Lists.{list_to, pad, all_of}
use Rattle.laws.proofs.Lists.{pad_at_lem}
use Rattle.laws.proofs.Runs.{every, every_at}
use Rattle.composer.specs.Chord.{root_class_of}
use Rattle.composer.specs.Harmony.{pentatonic, colour, class_in, classes_of, chord_in, melody_pcs_of, Tonal}
use Rattle.composer.specs.Style.{lead_style_of}
use Rattle.composer.specs.Lead.Beats.{Beats, past_beats}
use Rattle.composer.specs.Lead.Scale.{pcs_of, has_of, pool_by, pool_of, fits_of, snap_from, snapped_of}
use Rattle.composer.specs.Lead.Tones.{Tones, in_chord_of, is_sung_of, kept, tones_in, no_class, packed, nearest_of}
use Rattle.composer.specs.Lead.Ground.{ground_of}
use Rattle.composer.specs.Lead.Melody.{start_of}
use Rattle.composer.specs.Lead.Sound.{Tuned, Sound, Ready}
use Rattle.composer.specs.declared.chord.Chord.{Chord}
use Rattle.composer.specs.declared.harmony.Harmony.{Harmony}
use Rattle.composer.specs.declared.style.Style.{Style}
use Rattle.composer.specs.declared.style.Style.TheVariants.{Hiphop, Sleep}
use Rattle.composer.specs.declared.style.LeadStyle.{LeadStyle}
use Rattle.composer.proofs.lead.FitLaws.{tones_fit}
use Rattle.composer.proofs.lead.TonesLaws.{tones_few, listed_packed}

-- ---- the windows
pub window : (style : Style) → (40 ≤ (lead_style_of style).lo) × ((lead_style_of style).lo + 12 ≤ (lead_style_of style).hi) × ((lead_style_of style).hi < (lead_style_of style).lo + 20) × ((lead_style_of style).hi < 120)
window Hiphop = (omega arith, omega arith, omega arith, omega arith)
window Sleep = (omega arith, omega arith, omega arith, omega arith)

-- ---- the tests
-- the window's note i snaps into the scale
abbrev snaps_test : LeadStyle → List Bool → ℕ → Bool
snaps_test l pool i = fits_of pool l.lo l.hi (snapped_of pool l.lo l.hi (l.lo + i))

-- a chord has tones in the window, some of them in its top octave, and the start is in the window and the scale
abbrev tones_test : LeadStyle → List Bool → Chord → Bool
tones_test l pool c = ltb 0 (length (tones_in c.notes pool no_class l.lo l.hi))

abbrev top_test : LeadStyle → List Bool → Chord → Bool
top_test l pool c = ltb 0 (length (tones_in c.notes pool no_class (max l.lo (l.hi - 12)) l.hi))

abbrev start_test : LeadStyle → List Bool → Chord → Bool
start_test l pool c = fits_of pool l.lo l.hi (start_of l c pool)

module _ (style : Style) (major : Bool) (key : ℕ) where
  abbrev snaps_at : ℕ → Bool
  snaps_at i = snaps_test (lead_style_of style) (pool_by (classes_of key major)) i

  abbrev tones_at : ℕ → Bool
  tones_at d = tones_test (lead_style_of style) (pool_by (classes_of key major)) (chord_in key d)

  abbrev top_at : ℕ → Bool
  top_at d = top_test (lead_style_of style) (pool_by (classes_of key major)) (chord_in key d)

  abbrev start_at : ℕ → Bool
  start_at d = start_test (lead_style_of style) (pool_by (classes_of key major)) (chord_in key d)

snaps_all : (style : Style) (major : Bool) → T (every 12 (λ key. every 20 (snaps_at style major key)))
unfolding fits_of snapped_of snap_from has_of list_to
snaps_all Hiphop true = tt
snaps_all Hiphop false = tt
snaps_all Sleep true = tt
snaps_all Sleep false = tt

tones_all : (style : Style) (major : Bool) → T (every 12 (λ key. every 6 (tones_at style major key)))
unfolding tones_in kept is_sung_of in_chord_of has_of list_to
tones_all Hiphop true = tt
tones_all Hiphop false = tt
tones_all Sleep true = tt
tones_all Sleep false = tt

top_all : (style : Style) (major : Bool) → T (every 12 (λ key. every 6 (top_at style major key)))
unfolding tones_in kept is_sung_of in_chord_of has_of list_to
top_all Hiphop true = tt
top_all Hiphop false = tt
top_all Sleep true = tt
top_all Sleep false = tt

start_all : (style : Style) (major : Bool) → T (every 12 (λ key. every 6 (start_at style major key)))
unfolding start_of nearest_of tones_in kept is_sung_of in_chord_of has_of list_to fits_of
start_all Hiphop true = tt
start_all Hiphop false = tt
start_all Sleep true = tt
start_all Sleep false = tt

-- ---- a bar's ground
tuned : (pool : List Bool) (lo hi : ℕ) (xs : List ℕ) → length xs ≤ 20 → 0 < length xs → T (all_of (fits_of pool lo hi) xs) → Tuned pool lo hi (packed xs)
tuned pool lo hi xs few some fit = record {
  count = some;
  few = few;
  some = rw listed_packed some;
  fit = rw listed_packed fit;
}

strong_tuned : (pool : List Bool) (lo hi : ℕ) (t : Tones) (ys : List ℕ) (b : Bool) → eqb (length ys) 0 ≡ b → length ys ≤ 20 → T (all_of (fits_of pool lo hi) ys) → Tuned pool lo hi t
    → Tuned pool lo hi (cond b t (packed ys))
strong_tuned pool lo hi t ys true e few fit h = h
strong_tuned pool lo hi t ys false e few fit h = tuned pool lo hi ys few (some_left (length ys) (eqb-false (length ys) 0 e)) fit
  where
    some_left : (n : ℕ) → (n ≡ 0 → ⊥) → 0 < n
    some_left n h = omega arith

module _ (style : Style) (major : Bool) (key : ℕ) (key_lt : key < 12) where
  abbrev l : LeadStyle
  l = lead_style_of style

  abbrev pool : List Bool
  pool = pool_by (classes_of key major)

  snap_fits : (n : ℕ) → l.lo ≤ n → n ≤ l.hi → T (fits_of pool l.lo l.hi (snapped_of pool l.lo l.hi n))
  snap_fits n a b =
      let e : l.lo + (n - l.lo) ≡ n = omega arith in
      rw e at (every_at 20 (snaps_at style major key) (every_at 12 (λ k. every 20 (snaps_at style major k)) (snaps_all style major) key key_lt) (n - l.lo) (omega (arith, (window style).2)))

  module _ (d : ℕ) (d-lt : d < 6) where
    some_tones : 0 < length (tones_in (chord_in key d).notes pool no_class l.lo l.hi)
    some_tones = ltb→lt 0 _ (every_at 6 (tones_at style major key) (every_at 12 (λ k. every 6 (tones_at style major k)) (tones_all style major) key key_lt) d d-lt)

    pub some_top : 0 < length (tones_in (chord_in key d).notes pool no_class (max l.lo (l.hi - 12)) l.hi)
    some_top = ltb→lt 0 _ (every_at 6 (top_at style major key) (every_at 12 (λ k. every 6 (top_at style major k)) (top_all style major) key key_lt) d d-lt)

    pub start_fits : T (fits_of pool l.lo l.hi (start_of l (chord_in key d) pool))
    start_fits = every_at 6 (start_at style major key) (every_at 12 (λ k. every 6 (start_at style major k)) (start_all style major) key key_lt) d d-lt

    pub ground_sound : Sound pool (ground_of l (chord_in key d) pool)
    unfolding ground_of
    ground_sound =
        let w = window style in
        let notes = (chord_in key d).notes in
        let root = root_class_of (chord_in key d) in
        let t = tuned pool l.lo l.hi (tones_in notes pool no_class l.lo l.hi) (tones_few notes pool no_class l.lo l.hi w.2) some_tones (tones_fit notes pool no_class l.lo l.hi) in
        record {
          low = w.0;
          wide = w.2;
          high = w.3;
          tones = t;
          strong = strong_tuned pool l.lo l.hi (packed (tones_in notes pool no_class l.lo l.hi)) (tones_in notes pool root l.lo l.hi) (eqb (length (tones_in notes pool root l.lo l.hi)) 0) refl (tones_few notes pool root l.lo l.hi w.2) (tones_fit notes pool root l.lo l.hi) t;
          snaps = snap_fits;
        }

-- ---- every tonal harmony
classes_few : (key : ℕ) (major : Bool) → length (classes_of key major) ≤ 6
classes_few key true = omega arith
classes_few key false = omega arith

pub pcs_is : (h : Harmony) (t : Tonal h) → pcs_of h.scale ≡ classes_of t.key t.major
unfolding melody_pcs_of pad
pcs_is h t = rw t.scale (take_at (classes_of t.key t.major) _ (length (classes_of t.key t.major)) refl)

-- what making the pool asks: few classes, and each of them one of twelve
class_lt : (key : ℕ) (pcs : List ℕ) (k : ℕ) → get_or (map (class_in key) pcs) k 0 < 12
class_lt key [] k = omega arith
class_lt key (pc ∷ pcs) zero = omega arith
class_lt key (pc ∷ pcs) (suc k) = class_lt key pcs k

pub scale_classes : (h : Harmony) → Tonal h → (h.scale.n ≤ 6) × ((k : ℕ) → k < h.scale.n → get_or h.scale.pcs k 0 < 12)
unfolding melody_pcs_of
scale_classes h t =
    let pcs = classes_of t.key t.major in
    rw t.scale (
      classes_few t.key t.major,
      λ k l. subst (λ (x : ℕ). x < 12) (sym (pad_at_lem 0 6 pcs k l)) (class_lt t.key (pentatonic ++ colour t.major) k),
    )

pub ready : (h : Harmony) (t : Tonal h) (style : Style) (beats : List Beats) → ((k : ℕ) → k < 8 → (get_or beats k past_beats).n ≤ 7) → Ready beats h.bars (pool_of h.scale) (lead_style_of style)
ready h t style beats few =
    let w = window style in
    rw (pcs_is h t) (record {
      low = w.0;
      fair = w.1;
      wide = w.2;
      high = w.3;
      sound = (λ k b. rw (t.bar k b) (ground_sound style t.major t.key t.key_lt (t.degree k) (t.degree_lt k)));
      few = few;
      start = rw (t.bar 0 (omega arith)) (start_fits style t.major t.key t.key_lt (t.degree 0) (t.degree_lt 0));
      some_start = rw (t.bar 0 (omega arith)) (some_top style t.major t.key t.key_lt (t.degree 0) (t.degree_lt 0));
    })
