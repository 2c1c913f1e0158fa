-- The lead's rhythm: a statement of four bars, and four that answer it. Definitions only.
use Rattle.std.specs.Prelude.{cond, List, [], ◌∷◌, ℕ, zero, suc, ◌+◌, ltb, get_or, set, replicate}
use Rattle.std.specs.Float.{binary32}
use Rattle.std.specs.Float.Ieee.{of_bits}
use Rattle.streams.specs.declared.stream.NoiseStream.{NoiseStream}
use Rattle.streams.specs.declared.stream.Draw.{Draw}
use Rattle.composer.specs.Lead.Beats.{Beats, past_beats, beats_of}
use Rattle.composer.specs.Lead.Statement.{statement_bar_of}
use Rattle.composer.specs.Lead.Answer.{answer_bar_of}
use Rattle.composer.specs.declared.style.LeadStyle.{LeadStyle}

-- bar k of the statement
unfoldable pub state_of : Draw (List Beats) → LeadStyle → ℕ → Draw (List Beats)
state_of r style k =
    let d = statement_bar_of r.stream style in
    record { value = set r.value k d.value; stream = d.stream }

-- the first n bars of it
unfoldable pub state_to : LeadStyle → NoiseStream → ℕ → Draw (List Beats)
state_to style s zero = record { value = replicate 8 (beats_of []); stream = s }
state_to style s (suc n) = state_of (state_to style s n) style n

-- the notes of the first four bars
abbrev pub notes_in : List Beats → ℕ
notes_in bars = (get_or bars 0 past_beats).n + (get_or bars 1 past_beats).n + (get_or bars 2 past_beats).n + (get_or bars 3 past_beats).n

-- 1.0
abbrev pub fallback_first : Beats
fallback_first = beats_of (of_bits binary32 0x3f80_0000 ∷ [])

-- 2.0
abbrev pub fallback_third : Beats
fallback_third = beats_of (of_bits binary32 0x4000_0000 ∷ [])

-- with fewer than two notes, bars 0 and 2 are replaced
unfoldable pub fallback_of : List Beats → List Beats
fallback_of bars = cond (ltb (notes_in bars) 2) (set (set bars 0 fallback_first) 2 fallback_third) bars

unfoldable pub statement_of : NoiseStream → LeadStyle → Draw (List Beats)
statement_of s style =
    let r = state_to style s 4 in
    record { value = fallback_of r.value; stream = r.stream }

-- the answer to bar k of the statement
unfoldable pub reply_of : Draw (List Beats) → ℕ → Draw (List Beats)
reply_of r k =
    let d = answer_bar_of r.stream (get_or r.value k past_beats) in
    record { value = set r.value (4 + k) d.value; stream = d.stream }

-- the first n bars of it
unfoldable pub reply_to : Draw (List Beats) → ℕ → Draw (List Beats)
reply_to r zero = r
reply_to r (suc n) = reply_of (reply_to r n) n

abbrev pub answer_of : Draw (List Beats) → Draw (List Beats)
answer_of r = reply_to r 4

unfoldable pub rhythm_of : NoiseStream → LeadStyle → Draw (List Beats)
rhythm_of s style = answer_of (statement_of s style)
