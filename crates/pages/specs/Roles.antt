-- The notes that the pages of a song show, each with its role: the lead's are 0 to 5, all others 6. Definitions only.
use Rattle.std.specs.Prelude.{◌≡◌, Bool, List, ℕ, ◌+◌, ◌*◌, ◌<◌, length, get_or}
use Rattle.laws.specs.Lists.{joined}
use Rattle.composer.specs.Form.{loop_bar_of}
use Rattle.composer.specs.Form.Promise.{plays_at}
use Rattle.composer.specs.Form.Song.{arrange_of}
use Rattle.composer.specs.Refusal.{Gives}
use Rattle.composer.specs.declared.form.plays.Plays.{Plays}
use Rattle.composer.specs.declared.style.Style.{Style}
use Rattle.pages.specs.Bar.{shown}
use Rattle.pages.specs.Demand3.{body_of, song_of, page_at}
use Rattle.pages.specs.Edition.{note_width}
use Rattle.pages.specs.Lane.{events_of, drawn_for}
use Rattle.pages.specs.declared.edition.Edition.{Edition}
use Rattle.pages.specs.declared.lane.Lane.{Lane}

-- a lane's notes drawn for song bar b's loop bar, in bytes
abbrev pub notes_shown : Style → ℕ → ℕ → Bool → Lane → List ℕ
notes_shown style seed b on lane = joined (shown on (drawn_for (loop_bar_of (arrange_of seed) b) (events_of Edition.Two (song_of style seed).score lane)))

-- the roles of a page's lead, keys or bass: the last byte of each note
abbrev pub IsRole : ℕ → List ℕ → ℕ → Type 0
IsRole tag page role =
    (i : ℕ) × (note_width Edition.Two * i < length (body_of tag page)) × (get_or (body_of tag page) (note_width Edition.Two * i + 14) 0 ≡ role)

pub record RolesShown (style : Style) (seed : ℕ) : Type 0 where
  -- 0x05, 0x06 and 0x08 of song bar b's page are the notes drawn for its loop bar, if it plays the layer
  pub lead_notes : (b : ℕ) (p : Plays) → plays_at (arrange_of seed) b ≡ Gives p → body_of 0x05 (page_at style seed b) ≡ notes_shown style seed b p.keys Lane.Lead
  pub keys_notes : (b : ℕ) (p : Plays) → plays_at (arrange_of seed) b ≡ Gives p → body_of 0x06 (page_at style seed b) ≡ notes_shown style seed b p.keys Lane.Keys
  pub bass_notes : (b : ℕ) (p : Plays) → plays_at (arrange_of seed) b ≡ Gives p → body_of 0x08 (page_at style seed b) ≡ notes_shown style seed b p.bass Lane.Bass
  pub lead : (b : ℕ) → b < (arrange_of seed).bars → (role : ℕ) → IsRole 0x05 (page_at style seed b) role → role < 6
  pub keys : (b : ℕ) → b < (arrange_of seed).bars → (role : ℕ) → IsRole 0x06 (page_at style seed b) role → role ≡ 6
  pub bass : (b : ℕ) → b < (arrange_of seed).bars → (role : ℕ) → IsRole 0x08 (page_at style seed b) role → role ≡ 6
