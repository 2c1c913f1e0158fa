-- The codes of a sheet: what each names, and which there are; Within.antt has the ranges of roles and of all numbers.
-- A code that nothing has is read as some code, and its sheet is refused. Definitions only.
use Rattle.std.specs.Prelude.{Bool, ◌&&◌, ◌||◌, cond, List, ℕ, ◌+◌, ◌*◌, ◌/◌, ◌%◌, eqb, leb, ltb}
use Rattle.composer.specs.declared.form.ends.Bars.{Bars}
use Rattle.composer.specs.declared.form.ends.Edge.{Edge}
use Rattle.composer.specs.declared.form.ends.End.{End}
use Rattle.composer.specs.declared.form.ends.Outro.{Outro}
use Rattle.composer.specs.declared.form.plays.Plays.{Plays}
use Rattle.composer.specs.declared.note.DrumKind.{DrumKind}
use Rattle.composer.specs.declared.note.NoteRole.{NoteRole}
use Rattle.composer.specs.declared.voice.LeadVoice.{LeadVoice}
use Rattle.pages.specs.Bytes.{byte_at}
use Rattle.pages.specs.declared.edition.Edition.{Edition}
use Rattle.reader.specs.Layout.{body_at, size_at}
use Rattle.reader.specs.Tests.{all_to}

-- ---- what they name
abbrev pub voice_coded : ℕ → LeadVoice
voice_coded n = cond (eqb n 0) LeadVoice.EpVel (cond (eqb n 1) LeadVoice.Pluck (cond (eqb n 2) LeadVoice.Kalimba LeadVoice.Vibraphone))

abbrev pub kind_coded : ℕ → DrumKind
kind_coded n = cond (eqb n 0) DrumKind.Kick (cond (eqb n 1) DrumKind.Snare (cond (eqb n 2) DrumKind.Hat DrumKind.OpenHat))

-- a lead note's six roles, and the one of all others. A code that is none of the lane's is read as a role that is none
-- of them either
abbrev pub lead_role_coded : ℕ → NoteRole
lead_role_coded n =
    cond (eqb n 0) NoteRole.Quote
    (cond (eqb n 1) NoteRole.Close
    (cond (eqb n 2) NoteRole.Peak
    (cond (eqb n 3) NoteRole.Resolve
    (cond (eqb n 4) NoteRole.ChordTone
    (cond (eqb n 5) NoteRole.Passing NoteRole.Backing)))))

abbrev pub role_coded : Bool → ℕ → NoteRole
role_coded leads n = cond leads (lead_role_coded n) (cond (eqb n 6) NoteRole.Backing NoteRole.Quote)

-- edition 1 tells no role: there each is that of keys and bass
unfoldable pub role_at : Edition → Bool → List ℕ → ℕ → NoteRole
role_at Edition.One leads bytes at = NoteRole.Backing
role_at Edition.Two leads bytes at = role_coded leads (byte_at bytes at)

abbrev pub bars_coded : ℕ → Bars
bars_coded n = cond (eqb n 4) Bars.Four Bars.Eight

abbrev pub edge_coded : ℕ → Edge
edge_coded n = cond (eqb n 2) Edge.Fade Edge.Filter

-- an ending by its code and its bars
unfoldable pub end_coded : ℕ → ℕ → End
end_coded code bars = cond (eqb code 0) End.Cold (cond (eqb code 1) (End.Plain (bars_coded bars)) (End.Edged (bars_coded bars) (edge_coded code)))

unfoldable pub outro_coded : ℕ → ℕ → Outro
outro_coded code bars = cond (eqb code 4) Outro.RingOut (Outro.Ends (end_coded code bars))

-- bit 0 pad, 1 keys, 2 drums, 3 bass
unfoldable pub plays_coded : ℕ → Plays
plays_coded n = record { pad = eqb (n % 2) 1; keys = eqb (n / 2 % 2) 1; drums = eqb (n / 4 % 2) 1; bass = eqb (n / 8 % 2) 1 }

-- ---- which there are
-- cold has no bar, any other ending 4 or 8
unfoldable pub end_known : ℕ → ℕ → Bool
end_known code bars = cond (eqb code 0) (eqb bars 0) (leb code 3 && (eqb bars 4 || eqb bars 8))

-- an outro may also ring out, for 2 bars
unfoldable pub outro_known : ℕ → ℕ → Bool
outro_known code bars = cond (eqb code 4) (eqb bars 2) (end_known code bars)

-- style and voice
unfoldable pub name_known : List ℕ → ℕ → Bool
name_known bytes at = leb (byte_at bytes at) 1 && leb (byte_at bytes (at + 9)) 3

-- the drum of each of n hits
unfoldable pub kinds_known : List ℕ → ℕ → ℕ → Bool
kinds_known bytes at n = all_to (λ i. leb (byte_at bytes (at + 10 * i + 1)) 3) n

-- intro, outro and dip
unfoldable pub ends_known : List ℕ → ℕ → Bool
ends_known bytes at =
    end_known (byte_at bytes at) (byte_at bytes (at + 1)) && outro_known (byte_at bytes (at + 3)) (byte_at bytes (at + 4))
    && leb (byte_at bytes (at + 5)) 1

-- the layers of each of n bars: the upper four bits are zero
unfoldable pub plays_known : List ℕ → ℕ → ℕ → Bool
plays_known bytes at n = all_to (λ b. ltb (byte_at bytes (at + b)) 16) n

unfoldable pub coded : List ℕ → Bool
coded bytes =
    name_known bytes (body_at bytes 0) && kinds_known bytes (body_at bytes 6) (size_at bytes 6 / 10)
    && ends_known bytes (body_at bytes 8) && plays_known bytes (body_at bytes 9) (size_at bytes 9)
