-- Why each note of a score is what it is: a lead note's role is one of the melody's six, and which of them is told by
-- the rule (Lead/Rule.antt); any other note's is the seventh. Definitions only.
use Rattle.std.specs.Prelude.{◌≡◌, ℕ, ◌<◌, get_or}
use Rattle.streams.specs.Stage.{stream_of}
use Rattle.streams.specs.declared.stage.Stage.{Stage}
use Rattle.composer.specs.Compose.{composed_of}
use Rattle.composer.specs.Harmony.{harmony_of}
use Rattle.composer.specs.Lead.Rule.{LeadTold}
use Rattle.composer.specs.Note.{role_number_of, past_note}
use Rattle.composer.specs.declared.note.Note.{Note}
use Rattle.composer.specs.declared.note.NoteRole.{NoteRole}
use Rattle.composer.specs.declared.score.Score.{Score}
use Rattle.composer.specs.declared.style.Style.{Style}

-- a note of the lead
abbrev pub Leads : Note → Type 0
Leads x = role_number_of x.role < 6

-- a note of the keys or the bass
abbrev pub Backs : Note → Type 0
Backs x = x.role ≡ NoteRole.Backing

-- of every note in use
pub record RolesPromise (s : Score) : Type 0 where
  pub lead : (i : ℕ) → i < s.lead.n → Leads (get_or s.lead.at i past_note)
  pub keys : (i : ℕ) → i < s.keys.n → Backs (get_or s.keys.at i past_note)
  pub bass : (i : ℕ) → i < s.bass.n → Backs (get_or s.bass.at i past_note)

-- and every lead note of the song of a style and a seed has its role by the rule of `melody`
abbrev pub RolesTold : Style → ℕ → Type 0
RolesTold style seed =
    let score = (composed_of style seed).score in
    LeadTold (stream_of Stage.Lead seed) (harmony_of (stream_of Stage.Harmony seed) style).value style score.lead.at score.lead.n
