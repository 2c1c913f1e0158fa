-- Intros and outros: bars, edges and document 01's codes. Definitions only.
use Rattle.std.specs.Prelude.{Bool, true, false, ℕ}
use Rattle.composer.specs.declared.form.ends.Bars.{Bars}
use Rattle.composer.specs.declared.form.ends.Edge.{Edge}
use Rattle.composer.specs.declared.form.ends.End.{End}
use Rattle.composer.specs.declared.form.ends.Outro.{Outro}

abbrev pub count_of : Bars → ℕ
count_of Bars.Four = 4
count_of Bars.Eight = 8

abbrev pub edge_code_of : Edge → ℕ
edge_code_of Edge.Fade = 2
edge_code_of Edge.Filter = 3

abbrev pub end_bars_of : End → ℕ
end_bars_of End.Cold = 0
end_bars_of (End.Plain n) = count_of n
end_bars_of (End.Edged n e) = count_of n

abbrev pub end_edged_of : End → Bool
end_edged_of End.Cold = false
end_edged_of (End.Plain n) = false
end_edged_of (End.Edged n e) = true

abbrev pub end_plain_of : End → End
end_plain_of End.Cold = End.Cold
end_plain_of (End.Plain n) = End.Plain n
end_plain_of (End.Edged n e) = End.Plain n

-- 0 cold, 1 plain, 2 fade, 3 filter
abbrev pub end_code_of : End → ℕ
end_code_of End.Cold = 0
end_code_of (End.Plain n) = 1
end_code_of (End.Edged n e) = edge_code_of e

abbrev pub outro_length_of : Outro → ℕ
outro_length_of (Outro.Ends e) = end_bars_of e
outro_length_of Outro.RingOut = 2

abbrev pub outro_edged_of : Outro → Bool
outro_edged_of (Outro.Ends e) = end_edged_of e
outro_edged_of Outro.RingOut = false

abbrev pub outro_plain_of : Outro → Outro
outro_plain_of (Outro.Ends e) = Outro.Ends (end_plain_of e)
outro_plain_of Outro.RingOut = Outro.RingOut

-- 4 rings out
abbrev pub outro_code_of : Outro → ℕ
outro_code_of (Outro.Ends e) = end_code_of e
outro_code_of Outro.RingOut = 4
