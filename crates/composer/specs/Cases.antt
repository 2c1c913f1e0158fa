-- Document 01's checked cases, as the rows of one table: the draws' own, and those of the composer. Definitions only.
use Rattle.std.specs.Prelude.{true, false, cond, List, [], ◌∷◌, ◌++◌, map, ℕ, zero, suc, Float}
use Rattle.std.specs.Float.{binary32}
use Rattle.std.specs.Float.Ieee.{of_bits, to_bits}
use Rattle.laws.specs.Floats.{round_of}
use Rattle.streams.specs.Cases.{Case, case, draw_cases}
use Rattle.composer.specs.Bass.Line.{bass_pitch_of, pickup_pitch_of}
use Rattle.composer.specs.Chord.{degree_at, voiced_of}
use Rattle.composer.specs.Form.Body.{no_cut, body_bar_of}
use Rattle.composer.specs.Harmony.{pentatonic}
use Rattle.composer.specs.Lead.Beats.{Beats, beats_of, list_of, settled}
use Rattle.composer.specs.Lead.Rhythm.{fallback_of}
use Rattle.composer.specs.Lead.Scale.{pool_by, snapped_of}
use Rattle.composer.specs.Lead.Tones.{nearest_of}
use Rattle.composer.specs.declared.form.decisions.Opening.{Opening}
use Rattle.composer.specs.declared.form.decisions.Closing.{Closing}
use Rattle.composer.specs.declared.form.decisions.Thinning.{Thinning}
use Rattle.composer.specs.declared.form.decisions.Decisions.{Decisions}

-- 0.5, 0.75, 1.0, 2.0, 70.5
abbrev pub half : Float
half = of_bits binary32 0x3f00_0000

abbrev pub three_quarters : Float
three_quarters = of_bits binary32 0x3f40_0000

abbrev pub one : Float
one = of_bits binary32 0x3f80_0000

abbrev pub two : Float
two = of_bits binary32 0x4000_0000

abbrev pub seventy_and_half : Float
seventy_and_half = of_bits binary32 0x428d_0000

-- a list of f32 by their bits
abbrev pub spelled : List Float → List ℕ
spelled xs = map (to_bits binary32) xs

-- each bar's beats, its count first
abbrev pub bars_spelled : List Beats → List ℕ
bars_spelled [] = []
bars_spelled (b ∷ bs) = b.n ∷ (spelled (list_of b) ++ bars_spelled bs)

-- P = 4, whole BassDrop, low cut of 3 in phrase 1, and nothing else
abbrev pub case12 : Decisions
case12 = record {
  opening = Opening.Cold;
  long_intro = false;
  phrases = 4;
  thinning = Thinning.BassDrop;
  whole = true;
  low_with_break = false;
  cutting = true;
  cuts = no_cut ∷ record { on = true; bars = 3; low = true } ∷ no_cut ∷ no_cut ∷ no_cut ∷ no_cut ∷ [];
  bass_drop = false;
  dip = false;
  closing = Closing.Cold;
  long_outro = false;
}

-- the body bars below n whose bass is silent
abbrev pub silent_bass : Decisions → ℕ → List ℕ
silent_bass d zero = []
silent_bass d (suc n) = silent_bass d n ++ cond (body_bar_of d n).bass [] (n ∷ [])

abbrev pub composer_cases : List Case
composer_cases =
    case 4 (spelled (settled (half ∷ three_quarters ∷ one ∷ []))) (0x3f00_0000 ∷ 0x3f80_0000 ∷ [])
    ∷ case 5 (snapped_of (pool_by pentatonic) 60 79 65 ∷ []) (64 ∷ [])
    ∷ case 6 (snapped_of (pool_by pentatonic) 60 79 66 ∷ []) (67 ∷ [])
    ∷ case 7 (nearest_of (60 ∷ 64 ∷ []) 62 ∷ []) (60 ∷ [])
    ∷ case 8 (voiced_of (degree_at 0) 11).notes (59 ∷ 63 ∷ 66 ∷ 70 ∷ [])
    ∷ case 9 (bass_pitch_of 7 ∷ bass_pitch_of 6 ∷ []) (31 ∷ 42 ∷ [])
    ∷ case 10 (round_of seventy_and_half ∷ []) (71 ∷ [])
    ∷ case 11 (bars_spelled (fallback_of (map beats_of ([] ∷ (two ∷ []) ∷ [] ∷ [] ∷ [])))) (1 ∷ 0x3f80_0000 ∷ 1 ∷ 0x4000_0000 ∷ 1 ∷ 0x4000_0000 ∷ 0 ∷ [])
    ∷ case 12 (silent_bass case12 32) (13 ∷ 14 ∷ 15 ∷ 16 ∷ 17 ∷ 18 ∷ 19 ∷ 20 ∷ 21 ∷ 22 ∷ 23 ∷ [])
    ∷ []

abbrev pub checked_cases : List Case
checked_cases = draw_cases ++ composer_cases

-- a row for words of document 01 that are no numbered case: pickups may reach note 30, under the lowest root
abbrev pub pickup_row : Case
pickup_row = case 0 (pickup_pitch_of 7 ∷ []) (30 ∷ [])
