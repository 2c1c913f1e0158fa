-- A score's lanes in bytes: each event has its lane's width and stands at its place, its first byte is its bar, and
-- the events of one bar stand together. Assumes nothing.
use mathlib.Core.Path.{◌≡◌, refl, sym, ap, ◌∙◌}
use mathlib.Core.Bool.{Bool, true, false}
use mathlib.Core.List.{List, [], ◌∷◌, ◌++◌, map, map-map}
use Prim.Native.Nat.{ℕ, zero, suc, ◌+◌, ◌-◌, ◌*◌, ◌≤◌, ◌<◌}
use native.Mathlib.Nat.{mul-suc, sub-zero}
use native.Mathlib.Numerals.{add-one}
use native.Mathlib.Omega.{arith}
use lib.Dec.{eqb, leb, ltb, leb-suc-suc}
use Rattle.std.specs.List.{All as Each}
use Rattle.std.specs.List.Sorted.{IsPartitionPoint, IsNonDecreasingBy}
use Rattle.std.proofs.lemmas.List.Sorted.{IsNonDecreasingBy-from_all_adjacent}
use Rattle.laws.specs.Lanes.{Laid}
use lib.ListN.{length, get_or, take, length-take, length-map}
use Rattle.std.proofs.lemmas.List.Elements.{All-from_get_or}
use lib.Seq.{length-take-le, get_or-take, take_all}
use Rattle.laws.specs.Lists.{joined, filter_of}
use Rattle.laws.specs.Sorts.{count, All, Sorted}
use Rattle.laws.specs.Writes.{Wrote}
use Rattle.composer.specs.Note.{past_note, note_bar, hit_bar}
use Rattle.composer.specs.Promise.{LanesPromise}
use Rattle.composer.specs.declared.note.Hit.{Hit}
use Rattle.composer.specs.declared.note.Note.{Note}
use Rattle.composer.specs.declared.score.Score.{Score}
use Rattle.pages.specs.Bar.{shown}
use Rattle.pages.specs.Bytes.{field}
use Rattle.pages.specs.Edition.{note_width}
use Rattle.pages.specs.Lane.{tag_of, width_of, count_in, lane_size, sound_bytes, note_bytes, hit_bytes, bar_in, events_of, run_of, InLane, bars_of, earlier, bar_run, drawn_for, run_in}
use Rattle.pages.specs.Page.{bar_size}
use Rattle.pages.specs.Sheet.{lane_field}
use Rattle.pages.specs.Writable.{Sized, SizedLanes}
use Rattle.pages.specs.declared.edition.Edition.{Edition}
use Rattle.pages.specs.declared.lane.Lane.{Lane}
use Rattle.laws.proofs.Counts.{count_most, count_filter, count_map, all_kept}
use Rattle.laws.proofs.Joins.{length_joined, joined_snoc}
use Rattle.laws.proofs.Keyed.{by, count_below, run_of_key, rises_sorted, sorted_map}
use Rattle.laws.proofs.Lists.{get_d_any, length_map_take, map_take_at, map_take_on}
use Rattle.laws.proofs.Sorts.{all_every, all_map}
use Rattle.laws.proofs.Writes.{wrote_then, wrote_as}
use Rattle.pages.proofs.WritableLaws.{sized}

-- ---- one event
pub note_width_lem : (edition : Edition) (n : Note) → length (note_bytes edition n) ≡ note_width edition
unfolding note_bytes sound_bytes
note_width_lem Edition.One n = refl
note_width_lem Edition.Two n = refl

pub hit_width : (h : Hit) → length (hit_bytes h) ≡ 10
unfolding hit_bytes
hit_width h = refl

pub note_bar_lem : (edition : Edition) (n : Note) → bar_in (note_bytes edition n) ≡ note_bar n
unfolding note_bytes sound_bytes
note_bar_lem Edition.One n = refl
note_bar_lem Edition.Two n = refl

pub hit_bar_lem : (h : Hit) → bar_in (hit_bytes h) ≡ hit_bar h
unfolding hit_bytes
hit_bar_lem h = refl

-- ---- the editions
-- edition 1 has the events of edition 2 without their roles; a hit is shorter than that
pub events_without_roles : (s : Score) (lane : Lane) → map (take 14) (events_of Edition.Two s lane) ≡ events_of Edition.One s lane
unfolding note_bytes sound_bytes hit_bytes
events_without_roles s Lane.Lead = map-map (take 14) (note_bytes Edition.Two) (take s.lead.n s.lead.at)
events_without_roles s Lane.Keys = map-map (take 14) (note_bytes Edition.Two) (take s.keys.n s.keys.at)
events_without_roles s Lane.Hits = map-map (take 14) hit_bytes (take s.hits.n s.hits.at)
events_without_roles s Lane.Bass = map-map (take 14) (note_bytes Edition.Two) (take s.bass.n s.bass.at)

-- ---- all of a lane's
notes_wide : (edition : Edition) (ns : List Note) → All (λ e. length e ≡ note_width edition) (map (note_bytes edition) ns)
notes_wide edition ns =
    all_map (note_bytes edition) (λ e. length e ≡ note_width edition) ns (all_every (λ n. length (note_bytes edition n) ≡ note_width edition) (note_width_lem edition) ns)

pub hits_wide : (hs : List Hit) → All (λ e. length e ≡ 10) (map hit_bytes hs)
hits_wide hs = all_map hit_bytes (λ e. length e ≡ 10) hs (all_every (λ h. length (hit_bytes h) ≡ 10) hit_width hs)

pub widths : (edition : Edition) (s : Score) (lane : Lane) → All (λ e. length e ≡ width_of edition lane) (events_of edition s lane)
widths edition s Lane.Lead = notes_wide edition (take s.lead.n s.lead.at)
widths edition s Lane.Keys = notes_wide edition (take s.keys.n s.keys.at)
widths edition s Lane.Hits = hits_wide (take s.hits.n s.hits.at)
widths edition s Lane.Bass = notes_wide edition (take s.bass.n s.bass.at)

-- ---- events written one after another
-- one more
pub event_wrote : {A : Type 0} (bytes : A → List ℕ) (w : ℕ) (xs : List A) (i : ℕ) (x : A) {b b' b'' : List ℕ} {at o r : ℕ} → i < length xs → x ≡ get_or xs i x
    → Wrote b b' at o (w * i) (joined (map bytes (take i xs))) → Wrote b' b'' o r w (bytes x) → Wrote b b'' at r (w * (i + 1)) (joined (map bytes (take (i + 1) xs)))
event_wrote bytes w xs i x h e v p =
    let on : joined (map bytes (take (i + 1) xs)) ≡ joined (map bytes (take i xs)) ++ bytes x = rw (map_take_on bytes xs i x h, ← e) (joined_snoc (map bytes (take i xs)) (bytes x)) in
    let more : w * i + w ≡ w * (i + 1) = rw add-one (sym (mul-suc w i)) in
    wrote_as more (sym on) (wrote_then v p)

-- what holds of the first n entries
pub each_taken : {A : Type 0} (P : A → Type 0) (past : A) (xs : List A) (n : ℕ) → ((i : ℕ) → i < n → P (get_or xs i past)) → Each P (take n xs)
each_taken P past xs n each =
    All-from_get_or P (take n xs) past
    (λ i h. let k : i < n = omega (arith, length-take n xs) in rw (get_or-take n xs i past k) (each i k))

-- ---- events before a bar
-- where those that pass a test stand before all others, there are so many
count_parted : {A : Type 0} (p : A → Bool) (xs : List A) (i : ℕ) → i ≤ length xs → IsPartitionPoint (λ x. p x ≡ true) (λ x. p x ≡ false) xs i → count p xs ≡ i
count_parted p [] i h parted = omega arith
count_parted p (x ∷ xs) zero h parted =
    rw (parted.1 0 x (omega arith) (omega arith))
    (omega (arith, count_parted p xs 0 (omega arith) (λ k d l m. absurd (omega arith), λ k d l m. parted.1 (suc k) d (omega arith) (omega arith))))
count_parted p (x ∷ xs) (suc i) h parted =
    rw (parted.0 0 x (omega arith) (omega arith))
    (omega (arith, count_parted p xs i (omega arith) (λ k d l m. parted.0 (suc k) d (omega arith) (omega arith), λ k d l m. parted.1 (suc k) d (omega arith) (omega arith))))

pub ltb_next : (m n : ℕ) → ltb m (n + 1) ≡ leb m n
ltb_next m n = rw add-one (leb-suc-suc m n)

pub bars_before : {A : Type 0} (bar : A → ℕ) (p : A → Bool) (v : ℕ) → ((x : A) → ltb (bar x) v ≡ p x) → (xs : List A) (i : ℕ) → i ≤ length xs → IsPartitionPoint (λ x. p x ≡ true) (λ x. p x ≡ false) xs i
    → count (earlier v) (map bar xs) ≡ i
bars_before bar p v same xs i h parted = count_map bar (earlier v) p same xs ∙ count_parted p xs i h parted

-- bars never fall along a lane
pub never_fall : {A : Type 0} {past none : A} {cap top : ℕ} (bar : A → ℕ) (xs : List A) (n : ℕ) → Laid past none bar cap top xs n → IsNonDecreasingBy bar (take n xs)
never_fall {A} {past} bar xs n laid =
    let size : length (take n xs) ≡ n = length-take-le n xs (omega (arith, laid.size, laid.few)) in
    let here : (k : ℕ) (d : A) → k < n → get_or (take n xs) k d ≡ get_or xs k past =
    λ k d h. get_d_any (take n xs) k d past (omega arith) ∙ get_or-take n xs k past h in
    IsNonDecreasingBy-from_all_adjacent bar (take n xs)
    (λ k d h. rw (here k d (omega arith), here (k + 1) d (omega arith), add-one k) (laid.rises.rise k (omega arith)))

-- ---- the bars of a lane
-- bars stand in their order by themselves
abbrev itself : ℕ → ℕ
itself b = b

-- the first bytes of events are their bars
module _ {A : Type 0} (bar : A → ℕ) (bytes : A → List ℕ) (same : (x : A) → bar_in (bytes x) ≡ bar x) where
  first_bytes : (xs : List A) → map bar_in (map bytes xs) ≡ map bar xs
  first_bytes [] = refl
  first_bytes (x ∷ xs) = rw (same x) (ap (λ (l : List ℕ). bar x ∷ l) (first_bytes xs))

  laid_sorted : {past none : A} {cap top : ℕ} (xs : List A) (n : ℕ) → Laid past none bar cap top xs n → Sorted (by bar_in) (map bytes (take n xs))
  laid_sorted {past} {none} {cap} {top} xs n laid =
      sorted_map bar bar_in bytes same (take n xs) (rises_sorted bar past xs n top (omega (arith, laid.size, laid.few)) laid.rises)

bars_are : (edition : Edition) (s : Score) (lane : Lane) → map bar_in (events_of edition s lane) ≡ bars_of s lane
bars_are edition s Lane.Lead = first_bytes note_bar (note_bytes edition) (note_bar_lem edition) (take s.lead.n s.lead.at)
bars_are edition s Lane.Keys = first_bytes note_bar (note_bytes edition) (note_bar_lem edition) (take s.keys.n s.keys.at)
bars_are edition s Lane.Hits = first_bytes hit_bar hit_bytes hit_bar_lem (take s.hits.n s.hits.at)
bars_are edition s Lane.Bass = first_bytes note_bar (note_bytes edition) (note_bar_lem edition) (take s.bass.n s.bass.at)

-- counted among the bars, or among the events by their first bytes
count_bars : (edition : Edition) (s : Score) (lane : Lane) (v : ℕ) → count (earlier v) (bars_of s lane) ≡ count (λ e. ltb (bar_in e) v) (events_of edition s lane)
count_bars edition s lane v =
    rw (← bars_are edition s lane) (count_map bar_in (earlier v) (λ e. ltb (bar_in e) v) (λ e. refl) (events_of edition s lane))

length_sized : {A B : Type 0} (f : A → B) {cap : ℕ} (xs : List A) (n : ℕ) → Sized cap xs n → length (map f (take n xs)) ≡ n
length_sized f xs n p = length_map_take f xs n (omega (arith, p.size, p.few))

whole_run : (es : List (List ℕ)) (n : ℕ) → length es ≡ n → run_of (record { from = 0; to = n }) es ≡ es
whole_run es n e = take_all (n - 0) es (omega arith)

module _ (s : Score) (p : SizedLanes s) where
  pub length_events : (edition : Edition) (lane : Lane) → length (events_of edition s lane) ≡ count_in s lane
  length_events edition Lane.Lead = length_sized (note_bytes edition) s.lead.at s.lead.n p.lead
  length_events edition Lane.Keys = length_sized (note_bytes edition) s.keys.at s.keys.n p.keys
  length_events edition Lane.Hits = length_sized hit_bytes s.hits.at s.hits.n p.hits
  length_events edition Lane.Bass = length_sized (note_bytes edition) s.bass.at s.bass.n p.bass

  length_bars : (lane : Lane) → length (bars_of s lane) ≡ count_in s lane
  length_bars lane = rw (← bars_are Edition.Two s lane, length-map) (length_events Edition.Two lane)

  -- a run of all events is the lane's field
  pub lane_wrote : (edition : Edition) (lane : Lane) {b b' : List ℕ} {at r : ℕ}
      → Wrote b b' at r (3 + width_of edition lane * (count_in s lane - 0)) (field (tag_of lane) (joined (run_of (record { from = 0; to = count_in s lane }) (events_of edition s lane))))
      → Wrote b b' at r (3 + lane_size edition s lane) (lane_field edition s lane)
  lane_wrote edition lane w = rw (whole_run (events_of edition s lane) (count_in s lane) (length_events edition lane), sub-zero (count_in s lane)) at w

module _ (s : Score) (p : LanesPromise s) where
  -- the lead's bars are those of its notes
  pub lead_bar_lem : (i : ℕ) → i < s.lead.n → get_or (bars_of s Lane.Lead) i 0 ≡ (get_or s.lead.at i past_note).bar
  lead_bar_lem i h = map_take_at note_bar s.lead.at s.lead.n i past_note 0 h (omega (arith, p.lead.few, p.lead.size))

  events_sorted : (edition : Edition) (lane : Lane) → Sorted (by bar_in) (events_of edition s lane)
  events_sorted edition Lane.Lead = laid_sorted note_bar (note_bytes edition) (note_bar_lem edition) s.lead.at s.lead.n p.lead
  events_sorted edition Lane.Keys = laid_sorted note_bar (note_bytes edition) (note_bar_lem edition) s.keys.at s.keys.n p.keys
  events_sorted edition Lane.Hits = laid_sorted hit_bar hit_bytes hit_bar_lem s.hits.at s.hits.n p.hits
  events_sorted edition Lane.Bass = laid_sorted note_bar (note_bytes edition) (note_bar_lem edition) s.bass.at s.bass.n p.bass

  -- the run of a bar's events is what was drawn for it
  pub run_drawn : (edition : Edition) (lane : Lane) (on : Bool) (bar : ℕ) → run_of (run_in s lane on bar) (events_of edition s lane) ≡ shown on (drawn_for bar (events_of edition s lane))
  unfolding run_in
  run_drawn edition lane true bar =
      rw (count_bars edition s lane bar, count_bars edition s lane (bar + 1)) (run_of_key bar_in bar (events_of edition s lane) (events_sorted edition lane))
  run_drawn edition lane false bar = refl

  pub run_within : (lane : Lane) (bar : ℕ) → InLane s lane (bar_run bar (bars_of s lane))
  run_within lane bar =
      let bs = bars_of s lane in
      (omega (arith, count_below itself bar bs), omega (arith, count_most (earlier (bar + 1)) bs, length_bars s (sized s p) lane))

  -- a layer's run stands in its lane, where the layer sounds and where it is silent
  pub run_in_within : (lane : Lane) (on : Bool) (bar : ℕ) → InLane s lane (run_in s lane on bar)
  unfolding run_in
  run_in_within lane true bar = run_within lane bar
  run_in_within lane false bar = (omega arith, omega arith)

  pub run_length : (edition : Edition) (lane : Lane) (on : Bool) (bar : ℕ) → (run_in s lane on bar).to - (run_in s lane on bar).from ≡ length (shown on (drawn_for bar (events_of edition s lane)))
  unfolding run_in
  run_length edition lane true bar =
      let es = events_of edition s lane in
      omega (arith, count_bars edition s lane bar, count_bars edition s lane (bar + 1), count_below bar_in bar es, count_filter (λ e. eqb (bar_in e) bar) es)
  run_length edition lane false bar = refl

-- ---- what a bar shows
-- how many events it has
module _ {A : Type 0} (bar : A → ℕ) (bytes : A → List ℕ) (same : (x : A) → bar_in (bytes x) ≡ bar x) where
  pub drawn_count : (xs : List A) (v : ℕ) → length (drawn_for v (map bytes xs)) ≡ count (λ x. eqb (bar x) v) xs
  drawn_count xs v =
      count_filter (λ e. eqb (bar_in e) v) (map bytes xs)
      ∙ count_map bytes (λ e. eqb (bar_in e) v) (λ x. eqb (bar x) v) (λ x. ap (λ (n : ℕ). eqb n v) (same x)) xs

pub all_shown : {A : Type 0} (P : A → Type 0) (on : Bool) (xs : List A) → All P xs → All P (shown on xs)
all_shown P true xs a = a
all_shown P false xs a = tt

pub filter_shown : {A : Type 0} (p : A → Bool) (on : Bool) (xs : List A) → filter_of p (shown on xs) ≡ shown on (filter_of p xs)
unfolding filter_of
filter_shown p true xs = refl
filter_shown p false xs = refl

pub shown_most : {A : Type 0} (on : Bool) (xs : List A) (m : ℕ) → length xs ≤ m → length (shown on xs) ≤ m
shown_most true xs m h = h
shown_most false xs m h = omega arith

-- and how many bytes
pub shown_size : (s : Score) (lane : Lane) (on : Bool) (v : ℕ) → length (joined (shown on (drawn_for v (events_of Edition.Two s lane)))) ≡ bar_size s lane on v
shown_size s lane on v =
    let es = events_of Edition.Two s lane in
    length_joined (width_of Edition.Two lane) (shown on (drawn_for v es))
    (all_shown (λ e. length e ≡ width_of Edition.Two lane) on (drawn_for v es) (all_kept (λ e. eqb (bar_in e) v) (λ e. length e ≡ width_of Edition.Two lane) es (widths Edition.Two s lane)))
