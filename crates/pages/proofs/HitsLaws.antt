-- A page's hits by the runs of its two bars: those of a run that are in a part, one after another, in bytes; and how
-- many. Assumes nothing.
use mathlib.Core.Path.{◌≡◌, refl, sym, ap, ◌∙◌}
use mathlib.Core.Bool.{Bool, true, false, not, cond}
use mathlib.Core.List.{List, [], ◌∷◌, ◌++◌, map, map-append, append-nil}
use Prim.Native.Nat.{ℕ, ◌+◌, ◌-◌, ◌*◌, ◌≤◌, ◌<◌}
use native.Mathlib.Omega.{arith}
use lib.Dec.{eqb, ltb}
use lib.Ieee.{Float}
use lib.ListN.{length, get_or, take, length-append, length-map}
use lib.Seq.{length-take-le, take-length}
use Rattle.std.specs.List.{count_by, filter}
use Rattle.std.proofs.lemmas.List.Elements.{filter_more}
use Rattle.std.proofs.lemmas.List.Sums.{length-filter}
use Rattle.laws.specs.Lists.{joined, filter_of}
use Rattle.laws.specs.Sorts.{count}
use Rattle.laws.specs.Writes.{Wrote}
use Rattle.laws.proofs.Counts.{count_filter, count_map, count_most, filter_most}
use Rattle.laws.proofs.Filters.{filter_all, filter_fewer, run_in_take}
use Rattle.laws.proofs.Joins.{joined_append, joined_snoc, length_joined}
use Rattle.laws.proofs.Keyed.{run_of_key, rises_sorted}
use Rattle.laws.proofs.Writes.{wrote_then, wrote_as}
use Rattle.composer.specs.Compose.{beat_s_of}
use Rattle.composer.specs.Early.{is_early, hits_for, early_for, late_for, EarlyPromise}
use Rattle.composer.specs.Form.{loop_bar_of}
use Rattle.composer.specs.Note.{past_hit, hit_bar}
use Rattle.composer.specs.Promise.{LanesPromise, BarsPromise}
use Rattle.composer.specs.declared.form.Form.{Form}
use Rattle.composer.specs.declared.note.Hit.{Hit}
use Rattle.composer.specs.declared.score.Score.{Score}
use Rattle.pages.specs.Bar.{shown, plays_drums}
use Rattle.pages.specs.Bytes.{head, field}
use Rattle.pages.specs.Hits.{own_hits, moved_hits, page_hits, hits_field}
use Rattle.pages.specs.Inner.Hits.{in_part, hits_in, own_part, run_hits, HitsWithin, drum_run_of, heard_runs_of}
use Rattle.pages.specs.Lane.{hit_bytes, earlier, run_of, run_in}
use Rattle.pages.specs.declared.hits.HeardRuns.{HeardRuns}
use Rattle.pages.specs.declared.hits.Part.{Part}
use Rattle.pages.specs.declared.lane.Lane.{Lane}
use Rattle.pages.proofs.BytesLaws.{length_field}
use Rattle.pages.proofs.LaneLaws.{hits_wide, filter_shown, run_in_within, shown_most}

-- ---- hits that pass a test
filter_same : (p : Hit → Bool) (hs : List Hit) → filter p hs ≡ filter_of p hs
unfolding filter_of
filter_same p [] = refl
filter_same p (h ∷ hs) = ap (λ (ps : List Hit). cond (p h) (h ∷ ps) ps) (filter_same p hs)

pub kept_count : (p : Hit → Bool) (hs : List Hit) → count_by p hs ≡ length (filter_of p hs)
kept_count p hs = sym (length-filter p hs) ∙ ap length (filter_same p hs)

-- ---- hits in bytes
hits_joined : (xs ys : List Hit) → joined (map hit_bytes (xs ++ ys)) ≡ joined (map hit_bytes xs) ++ joined (map hit_bytes ys)
hits_joined xs ys = rw map-append (joined_append (map hit_bytes xs) (map hit_bytes ys))

pub hits_bytes : (hs : List Hit) → length (joined (map hit_bytes hs)) ≡ 10 * length hs
hits_bytes hs = length_joined 10 (map hit_bytes hs) (hits_wide hs) ∙ ap (λ (n : ℕ). 10 * n) (length-map hs hit_bytes)

pub hits_length : (hs : List Hit) → length (hits_field hs) ≡ 3 + 10 * length hs
hits_length hs = length_field 0x07 (joined (map hit_bytes hs)) ∙ ap (λ (n : ℕ). 3 + n) (hits_bytes hs)

-- those before hit i that pass a test, and hit i after them
module _ (p : Hit → Bool) (hs : List Hit) (i : ℕ) (past : Hit) (h : i < length hs) where
  abbrev passed : ℕ → List Hit
  passed k = filter_of p (take k hs)

  abbrev hit : Hit
  hit = get_or hs i past

  passed_more : passed (i + 1) ≡ passed i ++ cond (p hit) (hit ∷ []) []
  passed_more = rw (← filter_same p (take (i + 1) hs), ← filter_same p (take i hs)) (filter_more p hs i past h)

  pub passed_no : p hit ≡ false → passed (i + 1) ≡ passed i
  passed_no e = passed_more ∙ rw e (append-nil (passed i))

  passed_yes : p hit ≡ true → passed (i + 1) ≡ passed i ++ (hit ∷ [])
  passed_yes e = rw e at passed_more

  pub passed_room : p hit ≡ true → length (passed i) + 1 ≤ length (filter_of p hs)
  passed_room e =
      let all : length (filter_of p (take (length hs) hs)) ≡ length (filter_of p hs) = rw take-length refl in
      omega (arith, ap length (passed_yes e), length-append (passed i) (hit ∷ []), filter_fewer p hs (i + 1) (length hs) (omega arith))

  pub passed_wrote : {b b' b'' : List ℕ} {at o r : ℕ} → p hit ≡ true → Wrote b b' at o (10 * length (passed i)) (joined (map hit_bytes (passed i))) → Wrote b' b'' o r 10 (hit_bytes hit)
      → Wrote b b'' at r (10 * length (passed (i + 1))) (joined (map hit_bytes (passed (i + 1))))
  passed_wrote e v w =
      rw (passed_yes e)
      (wrote_as (omega (arith, length-append (passed i) (hit ∷ []))) (rw map-append (sym (joined_snoc (map hit_bytes (passed i)) (hit_bytes hit)))) (wrote_then v w))

-- ---- two runs of hits as the field
module _ (s : Score) (h : HeardRuns) (within : HitsWithin s h) where
  abbrev own : List Hit
  own = hits_in s h.part (run_of h.own s.hits.at)

  abbrev next : List Hit
  next = hits_in s Part.Early (run_of h.next s.hits.at)

  pub parts_count : h.count ≡ length own + length next
  parts_count = within.count ∙ length-append own next

  -- the head, then both parts
  pub parts_field : head 0x07 (10 * h.count) ++ (joined (map hit_bytes own) ++ joined (map hit_bytes next)) ≡ hits_field (run_hits s h)
  unfolding field
  parts_field =
      let size : 10 * h.count ≡ length (joined (map hit_bytes (run_hits s h))) = omega (arith, hits_bytes (run_hits s h), within.count) in
      ap (λ (n : ℕ). head 0x07 n ++ (joined (map hit_bytes own) ++ joined (map hit_bytes next))) size
      ∙ ap (λ (l : List ℕ). head 0x07 (length (joined (map hit_bytes (run_hits s h)))) ++ l) (sym (hits_joined own next))

-- ---- the runs of a page's two bars
own_shown : (beatS : Float) (on first : Bool) (hs : List Hit) → filter_of (in_part (cond first Part.All Part.Late) beatS) (shown on hs) ≡ shown on (cond first hs (filter_of (λ h. not (is_early beatS h)) hs))
own_shown beatS on true hs = filter_all (shown on hs)
own_shown beatS on false hs = filter_shown (λ h. not (is_early beatS h)) on hs

module _ (s : Score) (promise : LanesPromise s) where
  abbrev drawn : List Hit
  drawn = take s.hits.n s.hits.at

  below_same : (bar : ℕ) → count (earlier bar) (map hit_bar drawn) ≡ count (λ h. ltb (hit_bar h) bar) drawn
  below_same bar = count_map hit_bar (earlier bar) (λ h. ltb (hit_bar h) bar) (λ h. refl) drawn

  -- the run of a bar's hits is what was drawn for it
  run_hits_lem : (on : Bool) (bar : ℕ) → run_of (run_in s Lane.Hits on bar) s.hits.at ≡ shown on (hits_for s bar)
  unfolding run_in
  run_hits_lem true bar =
      let room : s.hits.n ≤ length s.hits.at = omega (arith, promise.hits.few, promise.hits.size) in
      let a = count (λ h. ltb (hit_bar h) bar) drawn in
      let b = count (λ h. ltb (hit_bar h) (bar + 1)) drawn in
      let few : a + (b - a) ≤ s.hits.n = omega (arith, length-take-le s.hits.n s.hits.at room, count_most (λ h. ltb (hit_bar h) bar) drawn, count_most (λ h. ltb (hit_bar h) (bar + 1)) drawn) in
      let sorted = rises_sorted hit_bar past_hit s.hits.at s.hits.n 7 room promise.hits.rises in
      rw (below_same bar, below_same (bar + 1)) (sym (run_in_take s.hits.at s.hits.n a (b - a) few) ∙ run_of_key hit_bar bar drawn sorted)
  run_hits_lem false bar = refl

  own_is : (f : Form) (b : ℕ) → hits_in s (own_part b) (run_of (drum_run_of s f b) s.hits.at) ≡ own_hits s f b
  own_is f b =
      ap (λ (l : List Hit). hits_in s (own_part b) l) (run_hits_lem (plays_drums f b) (loop_bar_of f b))
      ∙ own_shown (beat_s_of s.bpm) (plays_drums f b) (eqb b 0) (hits_for s (loop_bar_of f b))

  moved_is : (f : Form) (b : ℕ) → hits_in s Part.Early (run_of (drum_run_of s f b) s.hits.at) ≡ moved_hits s f b
  moved_is f b =
      ap (λ (l : List Hit). hits_in s Part.Early l) (run_hits_lem (plays_drums f b) (loop_bar_of f b))
      ∙ filter_shown (is_early (beat_s_of s.bpm)) (plays_drums f b) (hits_for s (loop_bar_of f b))

  pub runs_hits : (f : Form) (b : ℕ) → run_hits s (heard_runs_of s f b) ≡ page_hits s f b
  unfolding page_hits
  runs_hits f b = rw (own_is f b, moved_is f (b + 1))

  pub runs_count : (f : Form) (b : ℕ) → length (hits_in s (own_part b) (run_of (drum_run_of s f b) s.hits.at)) + length (hits_in s Part.Early (run_of (drum_run_of s f (b + 1)) s.hits.at)) ≡ length (page_hits s f b)
  runs_count f b = sym (length-append (hits_in s (own_part b) (run_of (drum_run_of s f b) s.hits.at)) (hits_in s Part.Early (run_of (drum_run_of s f (b + 1)) s.hits.at))) ∙ ap length (runs_hits f b)

  -- both runs of a page stand in their lane, and the count is theirs
  pub hits_within_lem : (f : Form) (b : ℕ) → HitsWithin s (heard_runs_of s f b)
  hits_within_lem f b = record {
    own = run_in_within s promise Lane.Hits (plays_drums f b) (loop_bar_of f b);
    next = run_in_within s promise Lane.Hits (plays_drums f (b + 1)) (loop_bar_of f (b + 1));
    count = sym (ap length (runs_hits f b));
  }

-- ---- at most
module _ (s : Score) (each : BarsPromise s) (early : EarlyPromise s) where
  bar_most : (bar : ℕ) → length (hits_for s bar) ≤ 13
  bar_most bar = omega (arith, count_filter (λ h. eqb (hit_bar h) bar) (take s.hits.n s.hits.at), each.hits bar)

  own_most : (f : Form) (b : ℕ) → length (own_hits s f b) ≤ 13
  own_most f b = shown_most (plays_drums f b) _ 13 (go (eqb b 0))
    where
      go : (first : Bool) → length (cond first (hits_for s (loop_bar_of f b)) (late_for s (loop_bar_of f b))) ≤ 13
      go true = bar_most (loop_bar_of f b)
      go false = omega (arith, bar_most (loop_bar_of f b), filter_most (λ h. not (is_early (beat_s_of s.bpm) h)) (hits_for s (loop_bar_of f b)))

  -- 13 of its own bar's, one of the next
  pub page_hits_most : (f : Form) (b : ℕ) → length (page_hits s f b) ≤ 14
  unfolding page_hits
  page_hits_most f b =
      omega (arith, length-append (own_hits s f b) (moved_hits s f (b + 1)), own_most f b, shown_most (plays_drums f (b + 1)) (early_for s (loop_bar_of f (b + 1))) 1 (early.few (loop_bar_of f (b + 1))))
