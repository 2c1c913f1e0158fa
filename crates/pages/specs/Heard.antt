-- On which page a hit stands: each hit of a song bar that plays drums on one, its own or the one before. Definitions
-- only.
use Rattle.std.specs.Prelude.{◌≡◌, Bool, not, cond, List, [], ◌++◌, map, ℕ, ◌+◌, ◌≤◌, ◌<◌, eqb, length}
use Rattle.laws.specs.Lists.{joined, filter_of}
use Rattle.laws.specs.Sorts.{count}
use Rattle.laws.specs.Sums.{sum_to}
use Rattle.composer.specs.Compose.{beat_s_of}
use Rattle.composer.specs.Early.{is_early, hits_for}
use Rattle.composer.specs.Form.{loop_bar_of}
use Rattle.composer.specs.Form.Song.{arrange_of}
use Rattle.composer.specs.declared.form.Form.{Form}
use Rattle.composer.specs.declared.note.Hit.{Hit}
use Rattle.composer.specs.declared.score.Score.{Score}
use Rattle.composer.specs.declared.style.Style.{Style}
use Rattle.pages.specs.Bar.{shown, plays_drums}
use Rattle.pages.specs.Demand3.{body_of, has, song_of, page_at, has_hits}
use Rattle.pages.specs.Hits.{own_hits, moved_hits, page_hits}
use Rattle.pages.specs.Lane.{hit_bytes}

-- the hits of song bar b, wherever they stand: those drawn for its loop bar, if it plays drums
abbrev pub played_hits : Score → Form → ℕ → List Hit
played_hits s f b = shown (plays_drums f b) (hits_for s (loop_bar_of f b))

-- those of them that stand on the page of song bar k
abbrev pub standing : Score → Form → ℕ → ℕ → List Hit
standing s f k b = cond (eqb k b) (own_hits s f b) (cond (eqb (k + 1) b) (moved_hits s f b) [])

-- of a song's score s and form f
pub record HitsPlaced (s : Score) (f : Form) : Type 0 where
  -- a page holds hits of its own bar, then of the next, and of no other
  pub page : (k : ℕ) → page_hits s f k ≡ standing s f k k ++ standing s f k (k + 1)
  -- a bar's hits that are not early stand on its own page, and the early ones on the page before, in the order drawn
  pub own : (b : ℕ) → 0 < b → standing s f b b ≡ filter_of (λ h. not (is_early (beat_s_of s.bpm) h)) (played_hits s f b)
  pub before : (b : ℕ) → standing s f b (b + 1) ≡ filter_of (is_early (beat_s_of s.bpm)) (played_hits s f (b + 1))
  -- but all of song bar 0 stay, and no page has any of the bar after the last
  pub first : standing s f 0 0 ≡ played_hits s f 0
  pub last : (k : ℕ) → standing s f k f.bars ≡ []
  -- so a song bar's hits, whichever of them q counts, are on the song's pages as often as they were drawn: none is
  -- lost, and none stands twice
  pub once : (q : Hit → Bool) (b : ℕ) → b < f.bars → sum_to (λ k. count q (standing s f k b)) f.bars ≡ count q (played_hits s f b)

-- of every page of a style and a seed
pub record HeardPromise (style : Style) (seed : ℕ) : Type 0 where
  pub placed : HitsPlaced (song_of style seed).score (arrange_of seed)
  -- 0x07 is these hits, at most 14
  pub held : (b : ℕ) → b < (arrange_of seed).bars → body_of 0x07 (page_at style seed b) ≡ joined (map hit_bytes (page_hits (song_of style seed).score (arrange_of seed) b))
  pub few : (b : ℕ) → length (page_hits (song_of style seed).score (arrange_of seed) b) ≤ 14
  -- it is longer than 0 where the bar's drums bit is set, and only there: both readings of demand 3 agree
  pub by_bit : (b : ℕ) → b < (arrange_of seed).bars → has 0x07 (page_at style seed b) ≡ has_hits style seed b
