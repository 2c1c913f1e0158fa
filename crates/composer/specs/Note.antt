-- Notes and drum hits: an unused entry of a lane, and what stands past an array's end. Definitions only.
use Rattle.std.specs.Prelude.{[], ◌∷◌, ℕ, get_or, Float, Result, Ok, Err}
use Rattle.std.specs.Float.{nan, binary32}
use Rattle.std.specs.Float.Ieee.{of_bits}
use Rattle.composer.specs.declared.note.Note.{Note}
use Rattle.composer.specs.declared.note.NoteRole.{NoteRole}
use Rattle.composer.specs.declared.note.Hit.{Hit}
use Rattle.composer.specs.declared.note.DrumKind.{DrumKind}
use Rattle.composer.specs.declared.refusal.Refusal.{Refusal}

-- document 02's number of each role
abbrev pub role_number_of : NoteRole → ℕ
role_number_of NoteRole.Quote = 0
role_number_of NoteRole.Close = 1
role_number_of NoteRole.Peak = 2
role_number_of NoteRole.Resolve = 3
role_number_of NoteRole.ChordTone = 4
role_number_of NoteRole.Passing = 5
role_number_of NoteRole.Backing = 6

-- the role of a number; there are seven
abbrev pub role_named : ℕ → Result NoteRole Refusal
role_named n =
    get_or
    (Ok NoteRole.Quote ∷ Ok NoteRole.Close ∷ Ok NoteRole.Peak ∷ Ok NoteRole.Resolve
    ∷ Ok NoteRole.ChordTone ∷ Ok NoteRole.Passing ∷ Ok NoteRole.Backing ∷ [])
    n (Err Refusal.SheetValues)

-- document 01's number of each drum
abbrev pub kind_number_of : DrumKind → ℕ
kind_number_of DrumKind.Kick = 0
kind_number_of DrumKind.Snare = 1
kind_number_of DrumKind.Hat = 2
kind_number_of DrumKind.OpenHat = 3

-- the drum of a number; there are four
abbrev pub kind_named : ℕ → Result DrumKind Refusal
kind_named n =
    get_or (Ok DrumKind.Kick ∷ Ok DrumKind.Snare ∷ Ok DrumKind.Hat ∷ Ok DrumKind.OpenHat ∷ []) n (Err Refusal.SheetValues)

abbrev pub zero32 : Float
zero32 = of_bits binary32 0

abbrev pub no_note : Note
no_note = record { bar = 0; role = NoteRole.Quote; spare = 0; at = zero32; midi = 0; vel = zero32; dur = zero32 }

abbrev pub past_note : Note
past_note = record { bar = 0; role = NoteRole.Quote; spare = 0; at = nan; midi = 0; vel = nan; dur = nan }

abbrev pub no_hit : Hit
no_hit = record { bar = 0; spare = 0; at = zero32; kind = DrumKind.Kick; gain = zero32 }

abbrev pub past_hit : Hit
past_hit = record { bar = 0; spare = 0; at = nan; kind = DrumKind.Kick; gain = nan }

abbrev pub note_bar : Note → ℕ
note_bar x = x.bar

abbrev pub hit_bar : Hit → ℕ
hit_bar x = x.bar
