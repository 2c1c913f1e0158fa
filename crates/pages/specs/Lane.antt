-- A score's lanes in bytes. Definitions only.
use Rattle.std.specs.Prelude.{Bool, cond, List, [], ◌∷◌, ◌++◌, map, ℕ, ◌+◌, ◌-◌, ◌*◌, ◌≤◌, eqb, ltb, get_or, take, drop}
use Rattle.laws.specs.Lists.{filter_of}
use Rattle.laws.specs.Sorts.{count}
use Rattle.composer.specs.Note.{role_number_of, kind_number_of, note_bar, hit_bar}
use Rattle.composer.specs.declared.note.Hit.{Hit}
use Rattle.composer.specs.declared.note.Note.{Note}
use Rattle.composer.specs.declared.score.Score.{Score}
use Rattle.pages.specs.Bytes.{f32_bytes}
use Rattle.pages.specs.Edition.{note_width}
use Rattle.pages.specs.declared.edition.Edition.{Edition}
use Rattle.pages.specs.declared.lane.Lane.{Lane}
use Rattle.pages.specs.declared.lane.Run.{Run}

abbrev pub tag_of : Lane → ℕ
tag_of Lane.Lead = 5
tag_of Lane.Keys = 6
tag_of Lane.Hits = 7
tag_of Lane.Bass = 8

-- bar, time, MIDI note, velocity, duration: 14 bytes
unfoldable pub sound_bytes : Note → List ℕ
sound_bytes n = n.bar ∷ (f32_bytes n.at ++ (n.midi ∷ (f32_bytes n.vel ++ f32_bytes n.dur)))

-- in edition 2 the role behind them
unfoldable pub note_bytes : Edition → Note → List ℕ
note_bytes Edition.One n = sound_bytes n
note_bytes Edition.Two n = sound_bytes n ++ (role_number_of n.role ∷ [])

-- bar, kind, time, gain: 10 bytes
unfoldable pub hit_bytes : Hit → List ℕ
hit_bytes h = h.bar ∷ kind_number_of h.kind ∷ (f32_bytes h.at ++ f32_bytes h.gain)

abbrev pub width_of : Edition → Lane → ℕ
width_of edition Lane.Lead = note_width edition
width_of edition Lane.Keys = note_width edition
width_of edition Lane.Hits = 10
width_of edition Lane.Bass = note_width edition

abbrev pub count_in : Score → Lane → ℕ
count_in s Lane.Lead = s.lead.n
count_in s Lane.Keys = s.keys.n
count_in s Lane.Hits = s.hits.n
count_in s Lane.Bass = s.bass.n

abbrev pub lane_size : Edition → Score → Lane → ℕ
lane_size edition s lane = width_of edition lane * count_in s lane

-- a lane's events in bytes, in the order drawn
abbrev pub events_of : Edition → Score → Lane → List (List ℕ)
events_of edition s Lane.Lead = map (note_bytes edition) (take s.lead.n s.lead.at)
events_of edition s Lane.Keys = map (note_bytes edition) (take s.keys.n s.keys.at)
events_of edition s Lane.Hits = map hit_bytes (take s.hits.n s.hits.at)
events_of edition s Lane.Bass = map (note_bytes edition) (take s.bass.n s.bass.at)

abbrev pub run_of : {A : Type 0} → Run → List A → List A
run_of run es = take (run.to - run.from) (drop run.from es)

-- a run stands in a lane
abbrev pub InLane : Score → Lane → Run → Type 0
InLane s lane run = (run.from ≤ run.to) × (run.to ≤ count_in s lane)

-- a run of any lane: none has more than 128 events
abbrev pub Held : Run → Type 0
Held run = (run.from ≤ run.to) × (run.to ≤ 128)

-- its bytes on a page, which is of edition 2
abbrev pub run_size : Lane → Run → ℕ
run_size lane run = width_of Edition.Two lane * (run.to - run.from)

-- an event's first byte is its bar
abbrev pub bar_in : List ℕ → ℕ
bar_in e = get_or e 0 0

-- the events drawn for a loop bar
abbrev pub drawn_for : ℕ → List (List ℕ) → List (List ℕ)
drawn_for bar es = filter_of (λ e. eqb (bar_in e) bar) es

-- the bars of a lane's events
abbrev pub bars_of : Score → Lane → List ℕ
bars_of s Lane.Lead = map note_bar (take s.lead.n s.lead.at)
bars_of s Lane.Keys = map note_bar (take s.keys.n s.keys.at)
bars_of s Lane.Hits = map hit_bar (take s.hits.n s.hits.at)
bars_of s Lane.Bass = map note_bar (take s.bass.n s.bass.at)

abbrev pub earlier : ℕ → ℕ → Bool
earlier bar b = ltb b bar

-- where a bar's events stand in a lane whose bars never fall
abbrev pub bar_run : ℕ → List ℕ → Run
bar_run bar bs = record { from = count (earlier bar) bs; to = count (earlier (bar + 1)) bs }

-- a silent layer's run is empty
unfoldable pub run_in : Score → Lane → Bool → ℕ → Run
run_in s lane on bar = cond on (bar_run bar (bars_of s lane)) (record { from = 0; to = 0 })
