-- A note's pitch, by its role. Definitions only.
use Rattle.std.specs.Prelude.{Bool, cond, List, ℕ, ◌+◌, ◌-◌, min, max, ltb, get_or}
use Rattle.std.specs.Float.{binary32}
use Rattle.std.specs.Float.Ieee.{of_bits}
use Rattle.streams.specs.Draw.{pick_of, chance_of, coin_of}
use Rattle.streams.specs.declared.stream.NoiseStream.{NoiseStream}
use Rattle.streams.specs.declared.stream.Draw.{Draw}
use Rattle.composer.specs.Lead.Scale.{scale_step_of}
use Rattle.composer.specs.Lead.Tones.{Tones, distance_of, near_of}
use Rattle.composer.specs.Lead.Ground.{tones_for_of}
use Rattle.composer.specs.declared.lead.line.Place.{Place}
use Rattle.composer.specs.declared.lead.line.Line.{Line}
use Rattle.composer.specs.declared.lead.role.Role.{Role}
use Rattle.composer.specs.declared.lead.role.Role.TheVariants.{Quote, Close, Peak, Resolve, ChordTone, Passing}
use Rattle.composer.specs.declared.lead.ground.Ground.{Ground}

abbrev pub pitched : ℕ → NoiseStream → Draw ℕ
pitched note s = record { value = note; stream = s }

abbrev pub held_of : ℕ → ℕ → ℕ → ℕ
held_of x lo hi = max lo (min x hi)

-- n, or the tone nearest to prev where n is further than a fifth from it
abbrev pub bounded_of : Tones → ℕ → ℕ → ℕ
bounded_of t n prev = cond (ltb 7 (distance_of n prev)) (near_of t prev) n

abbrev pub steps_of : Bool → ℕ
steps_of skip = cond skip 2 1

abbrev pub close_note_of : Ground → ℕ → ℕ
close_note_of g first = near_of g.tones first

-- a lift of 3 to 5
unfoldable pub peak_note_of : NoiseStream → Ground → ℕ → Draw ℕ
peak_note_of s g prev =
    let p = pick_of s 3 in
    pitched (near_of g.strong (min (prev + 3 + p.value) g.hi)) p.stream

-- against the leap
abbrev pub resolve_note_of : List Bool → Ground → ℕ → ℕ → ℕ
resolve_note_of pool g from prev = scale_step_of pool g.lo g.hi prev (ltb prev from) 1

-- a drift of -4 to 4
unfoldable pub chord_note_of : NoiseStream → Ground → Bool → ℕ → Draw ℕ
chord_note_of s g strong prev =
    let p = pick_of s 9 in
    let t = tones_for_of g strong in
    pitched (bounded_of t (near_of t (held_of (prev + p.value - 4) g.lo g.hi)) prev) p.stream

-- a coin for the way, then the chance 0.3 to skip
unfoldable pub passing_note_of : NoiseStream → List Bool → Ground → ℕ → Draw ℕ
passing_note_of s pool g prev =
    let c = coin_of s in
    let k = chance_of c.stream (of_bits binary32 0x3e99_999a) in
    pitched (scale_step_of pool g.lo g.hi prev c.value (steps_of k.value)) k.stream

-- `first` is the melody's first note
unfoldable pub pitch_of : Role → NoiseStream → List Bool → Ground → Line → Place → ℕ → Draw ℕ
pitch_of Quote s pool g l p first = pitched (get_or l.head.at p.i 0) s
pitch_of Close s pool g l p first = pitched (close_note_of g first) s
pitch_of Peak s pool g l p first = peak_note_of s g l.prev
pitch_of Resolve s pool g l p first = pitched (resolve_note_of pool g l.from l.prev) s
pitch_of ChordTone s pool g l p first = chord_note_of s g p.strong l.prev
pitch_of Passing s pool g l p first = passing_note_of s pool g l.prev
