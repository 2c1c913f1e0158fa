-- What a note does in the melody: the first role that applies. Definitions only.
use Rattle.std.specs.Prelude.{Bool, cond, not, ◌&&◌, ℕ, ltb, eqb, Float}
use Rattle.std.specs.Float.{binary32}
use Rattle.std.specs.Float.Ieee.{of_bits}
use Rattle.streams.specs.Draw.{chance_of}
use Rattle.streams.specs.declared.stream.NoiseStream.{NoiseStream}
use Rattle.streams.specs.declared.stream.Draw.{Draw}
use Rattle.composer.specs.Lead.Tones.{distance_of}
use Rattle.composer.specs.declared.lead.line.Place.{Place}
use Rattle.composer.specs.declared.lead.line.Line.{Line}
use Rattle.composer.specs.declared.lead.role.Role.{Role}
use Rattle.composer.specs.declared.lead.role.Role.TheVariants.{Quote, Close, Peak, Resolve, ChordTone, Passing}
use Rattle.composer.specs.declared.note.NoteRole.{NoteRole}

-- the same role as a note of the score has it
abbrev pub noted_of : Role → NoteRole
noted_of Quote = NoteRole.Quote
noted_of Close = NoteRole.Close
noted_of Peak = NoteRole.Peak
noted_of Resolve = NoteRole.Resolve
noted_of ChordTone = NoteRole.ChordTone
noted_of Passing = NoteRole.Passing

-- bar 4, where the answer begins, repeats the head
abbrev pub quotes_of : Place → ℕ → Bool
quotes_of p heads = eqb p.bar 4 && ltb p.i heads && not p.last

-- the first note of bar 5
abbrev pub peaks_of : Place → Bool
peaks_of p = eqb p.bar 5 && eqb p.i 0

-- a move wider than a major third
abbrev pub leapt_of : ℕ → ℕ → Bool
leapt_of from prev = ltb 4 (distance_of from prev)

abbrev pub chosen_of : Role → NoiseStream → Draw Role
chosen_of role s = record { value = role; stream = s }

-- 0.55
abbrev pub tone_chance : Float
tone_chance = of_bits binary32 0x3f0c_cccd

-- a chord tone with that chance, or else a passing one
unfoldable pub chance_role_of : NoiseStream → Draw Role
chance_role_of s =
    let c = chance_of s tone_chance in
    cond c.value (chosen_of ChordTone c.stream) (chosen_of Passing c.stream)

unfoldable pub role_of : Line → Place → Draw Role
role_of l p =
    cond (quotes_of p l.head.n) (chosen_of Quote l.stream)
    (cond p.last (chosen_of Close l.stream)
    (cond (peaks_of p) (chosen_of Peak l.stream)
    (cond (leapt_of l.from l.prev) (chosen_of Resolve l.stream)
    (cond p.strong (chosen_of ChordTone l.stream)
    (chance_role_of l.stream)))))
