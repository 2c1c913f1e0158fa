-- The bar page: what one bar of the song shows, in edition 2. Definitions only.
use Rattle.std.specs.Prelude.{◌≡◌, Bool, cond, List, [], ◌++◌, ℕ, ◌+◌, ◌*◌, ◌<◌, length, get_or, Result, Ok, Err}
use Rattle.laws.specs.Lists.{joined}
use Rattle.composer.specs.Chord.{past_chord}
use Rattle.composer.specs.Compose.{compose_of}
use Rattle.composer.specs.Form.{loop_bar_of}
use Rattle.composer.specs.Form.Ask.{plays_of}
use Rattle.composer.specs.Form.Song.{arrange_of}
use Rattle.composer.specs.Harmony.{notes_of}
use Rattle.composer.specs.declared.form.Form.{Form}
use Rattle.composer.specs.declared.form.plays.Plays.{Plays}
use Rattle.composer.specs.declared.note.Hit.{Hit}
use Rattle.composer.specs.declared.score.Score.{Score}
use Rattle.pages.specs.Answer.{Asked, Writes, Declines, asked_by}
use Rattle.pages.specs.Bar.{shown}
use Rattle.pages.specs.Bytes.{field}
use Rattle.pages.specs.Edition.{edition_field, edition_size}
use Rattle.pages.specs.Hits.{page_hits, hits_field}
use Rattle.pages.specs.Lane.{tag_of, width_of, events_of, run_of, InLane, run_size, drawn_for, run_in}
use Rattle.pages.specs.declared.edition.Edition.{Edition}
use Rattle.pages.specs.declared.lane.Lane.{Lane}
use Rattle.pages.specs.declared.lane.Run.{Run}
use Rattle.pages.specs.declared.page.Runs.{Runs}
use Rattle.composer.specs.declared.refusal.Refusal.{Refusal}

-- each loop bar has a chord, of four notes
abbrev pub Chorded : Score → Type 0
Chorded s = (b : ℕ) → b < 8 → length (get_or s.bar_chords b past_chord).notes ≡ 4

-- that bar's chord
abbrev pub chord_field : Score → Bool → ℕ → List ℕ
chord_field s on bar = field 0x03 (shown on (get_or (notes_of s.bar_chords) bar []))

-- a lane's notes drawn for that loop bar
abbrev pub bar_field : Score → Lane → Bool → ℕ → List ℕ
bar_field s lane on bar = field (tag_of lane) (joined (shown on (drawn_for bar (events_of Edition.Two s lane))))

-- lead and keys both follow the keys' layer; the hits are given, as they are not of that bar alone
unfoldable pub page_bytes : Score → Plays → ℕ → List Hit → List ℕ
page_bytes s p bar hits =
    edition_field Edition.Two
    ++ (chord_field s p.pad bar
    ++ (bar_field s Lane.Lead p.keys bar
    ++ (bar_field s Lane.Keys p.keys bar
    ++ (hits_field hits
    ++ bar_field s Lane.Bass p.bass bar))))

-- ---- its length
abbrev pub chord_size : Bool → ℕ
chord_size on = cond on 4 0

abbrev pub bar_size : Score → Lane → Bool → ℕ → ℕ
bar_size s lane on bar = width_of Edition.Two lane * length (shown on (drawn_for bar (events_of Edition.Two s lane)))

-- with so many hits
abbrev pub page_size : Score → Plays → ℕ → ℕ → ℕ
page_size s p bar hits =
    edition_size Edition.Two + 15 + chord_size p.pad + bar_size s Lane.Lead p.keys bar + bar_size s Lane.Keys p.keys bar
    + 10 * hits + bar_size s Lane.Bass p.bass bar

-- ---- the same by the runs of its notes
abbrev pub runs_in : Score → Plays → ℕ → Runs
runs_in s p bar = record {
  lead = run_in s Lane.Lead p.keys bar;
  keys = run_in s Lane.Keys p.keys bar;
  bass = run_in s Lane.Bass p.bass bar;
}

-- each stands in its lane
pub record RunsWithin (s : Score) (runs : Runs) : Type 0 where
  pub lead : InLane s Lane.Lead runs.lead
  pub keys : InLane s Lane.Keys runs.keys
  pub bass : InLane s Lane.Bass runs.bass

abbrev pub run_field : Score → Lane → Run → List ℕ
run_field s lane run = field (tag_of lane) (joined (run_of run (events_of Edition.Two s lane)))

unfoldable pub runs_bytes : Score → Plays → ℕ → Runs → List Hit → List ℕ
runs_bytes s p bar runs hits =
    edition_field Edition.Two
    ++ (chord_field s p.pad bar
    ++ (run_field s Lane.Lead runs.lead
    ++ (run_field s Lane.Keys runs.keys
    ++ (hits_field hits
    ++ run_field s Lane.Bass runs.bass))))

abbrev pub runs_size : Bool → Runs → ℕ → ℕ
runs_size pad runs hits =
    edition_size Edition.Two + 15 + chord_size pad + run_size Lane.Lead runs.lead + run_size Lane.Keys runs.keys
    + 10 * hits + run_size Lane.Bass runs.bass

-- a look-up that is refused is passed on
abbrev pub page_by : Result Plays Refusal → Score → ℕ → List Hit → Asked
page_by (Ok p) s bar hits = Writes (page_bytes s p bar hits)
page_by (Err r) s bar hits = Declines r

abbrev pub page_of : Score → Form → ℕ → Asked
page_of s f b = page_by (plays_of f b) s (loop_bar_of f b) (page_hits s f b)

-- what the page of a song bar has to write
unfoldable pub page_asked : ℕ → ℕ → ℕ → Asked
page_asked style seed b =
    asked_by (compose_of style seed) (λ song. page_of song.score (arrange_of seed) b)
