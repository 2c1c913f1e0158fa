-- A number read back is what it numbers: a style, a voice, a drum, a role. Assumes nothing.
use Rattle.std.proofs.Common.{◌≡◌, Ok, refl}
use Rattle.composer.specs.Note.{role_number_of, role_named, kind_number_of, kind_named}
use Rattle.composer.specs.Style.{style_number_of, style_named}
use Rattle.composer.specs.Voice.{voice_number_of, voice_named}
use Rattle.composer.specs.declared.note.DrumKind.{DrumKind}
use Rattle.composer.specs.declared.note.NoteRole.{NoteRole}
use Rattle.composer.specs.declared.style.Style.{Style}
use Rattle.composer.specs.declared.voice.LeadVoice.{LeadVoice}

pub style_back : (s : Style) → style_named (style_number_of s) ≡ Ok s
style_back Style.Hiphop = refl
style_back Style.Sleep = refl

pub voice_back : (v : LeadVoice) → voice_named (voice_number_of v) ≡ Ok v
voice_back LeadVoice.EpVel = refl
voice_back LeadVoice.Pluck = refl
voice_back LeadVoice.Kalimba = refl
voice_back LeadVoice.Vibraphone = refl

pub kind_back : (k : DrumKind) → kind_named (kind_number_of k) ≡ Ok k
kind_back DrumKind.Kick = refl
kind_back DrumKind.Snare = refl
kind_back DrumKind.Hat = refl
kind_back DrumKind.OpenHat = refl

pub role_back : (r : NoteRole) → role_named (role_number_of r) ≡ Ok r
role_back NoteRole.Quote = refl
role_back NoteRole.Close = refl
role_back NoteRole.Peak = refl
role_back NoteRole.Resolve = refl
role_back NoteRole.ChordTone = refl
role_back NoteRole.Passing = refl
role_back NoteRole.Backing = refl
