-- Each hit of a song bar that plays drums stands on one page for that bar, the one before if it is early and else its
-- own. A page holds hits where its bar's drums bit is set, and only there. Assumes nothing.
use mathlib.Core.Path.{◌≡◌, refl, sym, ◌∙◌}
use mathlib.Core.Bool.{Bool, true, false, not, cond}
use mathlib.Core.List.{List, [], ◌++◌, map}
use Prim.Native.Nat.{ℕ, zero, suc, ◌+◌, ◌≤◌, ◌<◌}
use native.Mathlib.Omega.{arith}
use borrow.Author.Tests.{eqb-true, eq-eqb, ne_eqb, le-leb, lt-ltb, ltb-true, ltb-false}
use lib.Dec.{eqb, ltb}
use lib.ListN.{length, length-append}
use Rattle.laws.specs.Lists.{joined, filter_of}
use Rattle.laws.specs.Sorts.{count}
use Rattle.laws.specs.Sums.{sum_to}
use Rattle.laws.proofs.Bools.{either, clash}
use Rattle.laws.proofs.Counts.{count_parts, filter_most}
use Rattle.laws.proofs.Sums.{sum_two, sum_same, sum_none, sum_once}
use Rattle.composer.specs.Compose.{beat_s_of, composed_of}
use Rattle.composer.specs.Early.{is_early, hits_for, late_for, early_for, EarlyPromise}
use Rattle.composer.specs.Form.{loop_bar_of}
use Rattle.composer.specs.Form.Ask.{sound_of, plays_of}
use Rattle.composer.specs.Form.Promise.{strikes}
use Rattle.composer.specs.Form.Song.{arrange_of}
use Rattle.composer.specs.declared.form.Form.{Form}
use Rattle.composer.specs.declared.note.Hit.{Hit}
use Rattle.composer.specs.declared.refusal.Refusal.{Refusal}
use Rattle.composer.specs.declared.score.Score.{Score}
use Rattle.composer.specs.declared.style.Style.{Style}
use Rattle.composer.proofs.ComposeLaws.{song_promise}
use Rattle.composer.proofs.form.Arranged.{arranged_promise}
use Rattle.pages.specs.Bar.{shown, plays_drums}
use Rattle.pages.specs.Demand3.{has, page_at, has_hits}
use Rattle.pages.specs.Heard.{played_hits, standing, HitsPlaced, HeardPromise}
use Rattle.pages.specs.Hits.{own_hits, moved_hits, page_hits}
use Rattle.pages.specs.Lane.{hit_bytes}
use Rattle.pages.proofs.Demand3.{hits_read, drums_told}
use Rattle.pages.proofs.HitsLaws.{hits_bytes, page_hits_most}
use Rattle.pages.proofs.LaneLaws.{filter_shown}
use Rattle.std.proofs.Common.{Result, Err}
use Rattle.composer.specs.Refusal.{answered}
use Rattle.composer.specs.declared.form.plays.Plays.{Plays}

-- a bar past the song plays nothing
pub past_silent : (f : Form) (b : ℕ) → f.bars ≤ b → plays_drums f b ≡ false
unfolding plays_of
past_silent f b h =
    rw (le-leb f.bars b h)
    (either (λ (a : Result Plays Refusal). strikes (λ p. p.drums) (answered a) ≡ false) (sound_of f) (Err Refusal.NoSuchBar) (Err Refusal.Malformed) refl refl)

-- ---- as often as q counts
module _ (q : Hit → Bool) (s : Score) (f : Form) where
  abbrev own : ℕ → ℕ
  own b = count q (own_hits s f b)

  abbrev moved : ℕ → ℕ
  moved b = count q (moved_hits s f b)

  abbrev played : ℕ → ℕ
  played b = count q (played_hits s f b)

  parts_shown : (on : Bool) (bar : ℕ) → count q (shown on (late_for s bar)) + count q (shown on (early_for s bar)) ≡ count q (shown on (hits_for s bar))
  parts_shown true bar = count_parts (is_early (beat_s_of s.bpm)) q (hits_for s bar)
  parts_shown false bar = refl

  own_and_moved : (b : ℕ) → 0 < b → own b + moved b ≡ played b
  own_and_moved b h = rw (ne_eqb b 0 (λ e. omega arith)) (parts_shown (plays_drums f b) (loop_bar_of f b))

  -- ---- one song bar's hits, over n pages
  abbrev own_on : ℕ → ℕ → ℕ
  own_on b k = cond (eqb k b) (own b) 0

  abbrev moved_on : ℕ → ℕ → ℕ
  moved_on b k = cond (eqb (k + 1) b) (moved b) 0

  stands : (b k : ℕ) → count q (standing s f k b) ≡ own_on b k + moved_on b k
  stands b k = go (eqb k b) (eqb (k + 1) b) refl refl
    where
      go : (u v : Bool) → eqb k b ≡ u → eqb (k + 1) b ≡ v → count q (cond u (own_hits s f b) (cond v (moved_hits s f b) [])) ≡ cond u (own b) 0 + cond v (moved b) 0
      go true true e g = absurd (omega (arith, eqb-true k b e, eqb-true (k + 1) b g))
      go true false e g = omega arith
      go false true e g = omega arith
      go false false e g = refl

  own_once : (b n : ℕ) → b < n → sum_to (own_on b) n ≡ own b
  own_once b n h = sum_once (own_on b) b n h (λ k e. rw (ne_eqb k b e)) ∙ rw (eq-eqb b b refl)

  both_once : (b n : ℕ) → b < n → sum_to (own_on b) n + sum_to (moved_on b) n ≡ played b
  both_once zero n h = omega (arith, own_once 0 n h, sum_none (moved_on 0) n (λ k l. rw (ne_eqb (k + 1) 0 (λ p. omega arith))))
  both_once (suc a) n h =
      let here : moved_on (suc a) a ≡ moved (suc a) = rw (eq-eqb (a + 1) (suc a) (omega arith)) in
      omega (arith, own_once (suc a) n h, own_and_moved (suc a) (omega arith), here, sum_once (moved_on (suc a)) a n (omega arith) (λ k e. rw (ne_eqb (k + 1) (suc a) (λ p. e (omega arith)))))

  stands_once : (b n : ℕ) → b < n → sum_to (λ k. count q (standing s f k b)) n ≡ played b
  stands_once b n h = sum_same (λ k. count q (standing s f k b)) (λ k. own_on b k + moved_on b k) (stands b) n ∙ sum_two (own_on b) (moved_on b) n ∙ both_once b n h

module _ (s : Score) (f : Form) where
  abbrev early : Hit → Bool
  early = is_early (beat_s_of s.bpm)

  page_stands : (k : ℕ) → page_hits s f k ≡ standing s f k k ++ standing s f k (k + 1)
  unfolding page_hits
  page_stands k = rw (eq-eqb k k refl, eq-eqb (k + 1) (k + 1) refl, ne_eqb k (k + 1) (λ e. omega arith))

  own_late : (b : ℕ) → 0 < b → standing s f b b ≡ filter_of (λ h. not (early h)) (played_hits s f b)
  own_late b h = rw (eq-eqb b b refl, ne_eqb b 0 (λ e. omega arith)) (sym (filter_shown (λ h. not (early h)) (plays_drums f b) (hits_for s (loop_bar_of f b))))

  early_before : (b : ℕ) → standing s f b (b + 1) ≡ filter_of early (played_hits s f (b + 1))
  early_before b = rw (eq-eqb (b + 1) (b + 1) refl, ne_eqb b (b + 1) (λ e. omega arith)) (sym (filter_shown early (plays_drums f (b + 1)) (hits_for s (loop_bar_of f (b + 1)))))

  -- whether it is the own page or the one before
  none_after : (k : ℕ) → standing s f k f.bars ≡ []
  none_after k = rw (past_silent f f.bars (omega arith)) (either (λ (hs : List Hit). hs ≡ []) (eqb k f.bars) [] _ refl (either (λ (hs : List Hit). hs ≡ []) (eqb (k + 1) f.bars) [] [] refl refl))

  pub hits_placed : HitsPlaced s f
  hits_placed = record {
    page = page_stands;
    own = own_late;
    before = early_before;
    first = refl;
    last = none_after;
    once = λ q b h. stands_once q s f b f.bars h;
  }

-- ---- where the drums bit is set, and only there
module _ (seed : ℕ) (s : Score) (early : EarlyPromise s) (b : ℕ) where
  abbrev f : Form
  f = arrange_of seed

  -- drums that come back do so at loop bar 0, where no hit is early
  next_silent : plays_drums f b ≡ false → (v : Bool) → plays_drums f (b + 1) ≡ v → shown v (early_for s (loop_bar_of f (b + 1))) ≡ []
  next_silent out false e = refl
  next_silent out true e = go (ltb (b + 1) f.bars) refl
    where
      go : (v : Bool) → ltb (b + 1) f.bars ≡ v → early_for s (loop_bar_of f (b + 1)) ≡ []
      go true l = rw ((arranged_promise seed).drums_back b (ltb-true (b + 1) f.bars l) out e) early.first
      go false l = absurd (clash e (past_silent f (b + 1) (ltb-false (b + 1) f.bars l)))

  pub silent_none : plays_drums f b ≡ false → page_hits s f b ≡ []
  unfolding page_hits
  silent_none out = rw out (next_silent out (plays_drums f (b + 1)) refl)

  -- a bar that plays drums keeps a hit
  pub playing_some : plays_drums f b ≡ true → 1 ≤ length (page_hits s f b)
  unfolding page_hits
  playing_some on =
      let bar = loop_bar_of f b in
      let late = early.late bar (omega arith) in
      let most = filter_most (λ h. not (is_early (beat_s_of s.bpm) h)) (hits_for s bar) in
      let own : 1 ≤ length (own_hits s f b) = rw on (either (λ (hs : List Hit). 1 ≤ length hs) (eqb b 0) (hits_for s bar) (late_for s bar) (omega (arith, late, most)) late) in
      omega (arith, own, length-append (own_hits s f b) (moved_hits s f (b + 1)))

  pub some_by_drums : ltb 0 (length (joined (map hit_bytes (page_hits s f b)))) ≡ plays_drums f b
  some_by_drums = go (plays_drums f b) refl
    where
      go : (on : Bool) → plays_drums f b ≡ on → ltb 0 (length (joined (map hit_bytes (page_hits s f b)))) ≡ on
      go true e = lt-ltb 0 (length (joined (map hit_bytes (page_hits s f b)))) (omega (arith, hits_bytes (page_hits s f b), playing_some e))
      go false e = rw (silent_none e) (unfold joined in refl)

-- ---- of every style and seed
module _ (style : Style) (seed : ℕ) where
  abbrev song : Score
  song = (composed_of style seed).score

  by_bit : (b : ℕ) → b < (arrange_of seed).bars → has 0x07 (page_at style seed b) ≡ has_hits style seed b
  by_bit b h =
      let k = (arranged_promise seed).found b h in
      rw (hits_read style seed b k.0 k.1, drums_told style seed b h) (some_by_drums seed song (song_promise style seed).score.early b)

  pub heard_promise : HeardPromise style seed
  heard_promise =
      let p = (song_promise style seed).score in
      record {
        placed = hits_placed song (arrange_of seed);
        held = (λ b h. let k = (arranged_promise seed).found b h in hits_read style seed b k.0 k.1);
        few = (page_hits_most song p.bars p.early (arrange_of seed));
        by_bit = by_bit;
      }
