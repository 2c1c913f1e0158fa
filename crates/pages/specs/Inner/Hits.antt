-- The hits of a page by the runs of its two bars' hits. Definitions only.
use Rattle.std.specs.Prelude.{◌≡◌, Bool, true, not, cond, List, ◌++◌, ℕ, ◌+◌, eqb, length, Float}
use Rattle.laws.specs.Lists.{filter_of}
use Rattle.composer.specs.Compose.{beat_s_of}
use Rattle.composer.specs.Early.{is_early}
use Rattle.composer.specs.Form.{loop_bar_of}
use Rattle.composer.specs.declared.form.Form.{Form}
use Rattle.composer.specs.declared.note.Hit.{Hit}
use Rattle.composer.specs.declared.score.Score.{Score}
use Rattle.pages.specs.Bar.{plays_drums}
use Rattle.pages.specs.Hits.{page_hits}
use Rattle.pages.specs.Lane.{run_of, run_in, InLane}
use Rattle.pages.specs.declared.hits.HeardRuns.{HeardRuns}
use Rattle.pages.specs.declared.hits.Part.{Part}
use Rattle.pages.specs.declared.lane.Lane.{Lane}
use Rattle.pages.specs.declared.lane.Run.{Run}

abbrev pub in_part : Part → Float → Hit → Bool
in_part Part.All beatS h = true
in_part Part.Late beatS h = not (is_early beatS h)
in_part Part.Early beatS h = is_early beatS h

-- those hits that are in a part
abbrev pub hits_in : Score → Part → List Hit → List Hit
hits_in s part hs = filter_of (in_part part (beat_s_of s.bpm)) hs

-- the part of its own hits that song bar b keeps
abbrev pub own_part : ℕ → Part
own_part b = cond (eqb b 0) Part.All Part.Late

abbrev pub run_hits : Score → HeardRuns → List Hit
run_hits s h = hits_in s h.part (run_of h.own s.hits.at) ++ hits_in s Part.Early (run_of h.next s.hits.at)

-- both runs stand in the lane, and there are so many
pub record HitsWithin (s : Score) (h : HeardRuns) : Type 0 where
  pub own : InLane s Lane.Hits h.own
  pub next : InLane s Lane.Hits h.next
  pub count : h.count ≡ length (run_hits s h)

-- the run of song bar b's hits
abbrev pub drum_run_of : Score → Form → ℕ → Run
drum_run_of s f b = run_in s Lane.Hits (plays_drums f b) (loop_bar_of f b)

abbrev pub heard_runs_of : Score → Form → ℕ → HeardRuns
heard_runs_of s f b = record {
  own = drum_run_of s f b;
  part = own_part b;
  next = drum_run_of s f (b + 1);
  count = length (page_hits s f b);
}
