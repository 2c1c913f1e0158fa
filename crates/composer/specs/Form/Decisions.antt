-- What the 29 draws of a song's form decide. Definitions only.
use Rattle.std.specs.Prelude.{List, [], ◌∷◌, ℕ, ◌+◌, ◌-◌, get_or, Float}
use Rattle.std.specs.Float.{binary32, nan}
use Rattle.std.specs.Float.Ieee.{of_bits, lt}
use Rattle.laws.specs.Lists.{list_to}
use Rattle.streams.specs.Stream.{after, unit_at}
use Rattle.streams.specs.Draw.{picked_of}
use Rattle.streams.specs.declared.stream.NoiseStream.{NoiseStream}
use Rattle.streams.specs.declared.stream.Draw.{Draw}
use Rattle.composer.specs.Band.{band_of}
use Rattle.composer.specs.Form.Plays.{silent, bed, with_keys, keys_bass, keys_drums, drums_bass}
use Rattle.composer.specs.declared.form.ends.Edge.{Edge}
use Rattle.composer.specs.declared.form.decisions.Opening.{Opening}
use Rattle.composer.specs.declared.form.decisions.Closing.{Closing}
use Rattle.composer.specs.declared.form.decisions.Thinning.{Thinning}
use Rattle.composer.specs.declared.form.decisions.Cut.{Cut}
use Rattle.composer.specs.declared.form.decisions.Decisions.{Decisions}

-- ---- the tables
abbrev pub openings : List Opening
openings =
    Opening.Sparse with_keys ∷ Opening.Sparse keys_bass ∷ Opening.Sparse keys_drums ∷ Opening.Sparse bed ∷ Opening.Sparse drums_bass
    ∷ Opening.Edged Edge.Fade ∷ Opening.Edged Edge.Filter ∷ Opening.Cold ∷ []

abbrev pub intro_weights : List ℕ
intro_weights = 27 ∷ 13 ∷ 10 ∷ 7 ∷ 5 ∷ 13 ∷ 10 ∷ 5 ∷ []

abbrev pub closings : List Closing
closings =
    Closing.Sparse with_keys ∷ Closing.Sparse keys_drums ∷ Closing.Sparse keys_bass ∷ Closing.RingOut
    ∷ Closing.Edged Edge.Fade ∷ Closing.Edged Edge.Filter ∷ Closing.Cold ∷ []

abbrev pub outro_weights : List ℕ
outro_weights = 14 ∷ 11 ∷ 10 ∷ 18 ∷ 31 ∷ 7 ∷ 4 ∷ []

abbrev pub thinnings : List Thinning
thinnings = Thinning.Break ∷ Thinning.BassDrop ∷ Thinning.Steady ∷ []

abbrev pub thinning_weights : List ℕ
thinning_weights = 3 ∷ 5 ∷ 2 ∷ []

-- of cuts of 1, 2 and 3 bars
abbrev pub cut_weights : List ℕ
cut_weights = 55 ∷ 20 ∷ 25 ∷ []

-- 0.65
abbrev pub long_intro_p : Float
long_intro_p = of_bits binary32 0x3f26_6666

-- 0.4
abbrev pub whole_thinning_p : Float
whole_thinning_p = of_bits binary32 0x3ecc_cccd

-- 0.5
abbrev pub low_with_break_p : Float
low_with_break_p = of_bits binary32 0x3f00_0000

-- 0.5
abbrev pub cutting_p : Float
cutting_p = of_bits binary32 0x3f00_0000

-- 0.75
abbrev pub cut_p : Float
cut_p = of_bits binary32 0x3f40_0000

-- 0.3
abbrev pub low_with_cut_p : Float
low_with_cut_p = of_bits binary32 0x3e99_999a

-- 0.2
abbrev pub bass_drop_p : Float
bass_drop_p = of_bits binary32 0x3e4c_cccd

-- 0.2
abbrev pub dip_p : Float
dip_p = of_bits binary32 0x3e4c_cccd

-- 0.4
abbrev pub long_sparse_outro_p : Float
long_sparse_outro_p = of_bits binary32 0x3ecc_cccd

-- 0.5
abbrev pub long_edged_outro_p : Float
long_edged_outro_p = of_bits binary32 0x3f00_0000

-- ---- one decision each
unfoldable pub opening_of : Float → Opening
opening_of u = get_or openings (band_of u intro_weights) (Opening.Sparse silent)

unfoldable pub thinning_of : Float → Thinning
thinning_of u = get_or thinnings (band_of u thinning_weights) Thinning.Break

unfoldable pub closing_of : Float → Closing
closing_of u = get_or closings (band_of u outro_weights) (Closing.Sparse silent)

-- by three draws: whether it is drawn, its bars, whether it is low
unfoldable pub cut_of : Float → Float → Float → Cut
cut_of u v w = record { on = lt u cut_p; bars = band_of v cut_weights + 1; low = lt w low_with_cut_p }

-- the share of long outros among those that close so; ring-outs and cold ends have one length
abbrev pub long_outro_p : Closing → Float
long_outro_p (Closing.Sparse p) = long_sparse_outro_p
long_outro_p Closing.RingOut = long_edged_outro_p
long_outro_p (Closing.Edged e) = long_edged_outro_p
long_outro_p Closing.Cold = long_edged_outro_p

-- ---- all 29 draws, by their numbers
unfoldable pub cuts_by : (ℕ → Float) → List Cut
cuts_by draw =
    cut_of (draw 8) (draw 9) (draw 10) ∷ cut_of (draw 11) (draw 12) (draw 13) ∷ cut_of (draw 14) (draw 15) (draw 16)
    ∷ cut_of (draw 17) (draw 18) (draw 19) ∷ cut_of (draw 20) (draw 21) (draw 22) ∷ cut_of (draw 23) (draw 24) (draw 25) ∷ []

unfoldable pub decisions_by : (ℕ → Float) → Decisions
decisions_by draw = record {
  opening = opening_of (draw 1);
  long_intro = lt (draw 2) long_intro_p;
  phrases = 4 + picked_of (draw 3) 3;
  thinning = thinning_of (draw 4);
  whole = lt (draw 5) whole_thinning_p;
  low_with_break = lt (draw 6) low_with_break_p;
  cutting = lt (draw 7) cutting_p;
  cuts = cuts_by draw;
  bass_drop = lt (draw 26) bass_drop_p;
  dip = lt (draw 27) dip_p;
  closing = closing_of (draw 28);
  long_outro = lt (draw 29) (long_outro_p (closing_of (draw 28)));
}

unfoldable pub decide_of : NoiseStream → Draw Decisions
decide_of s = record { value = decisions_by (unit_at s); stream = after s 29 }

-- ---- as the code has the draws: in an array, draw n at n - 1
abbrev pub unit_from : NoiseStream → ℕ → Float
unit_from s i = unit_at s (i + 1)

unfoldable pub draw_all_of : NoiseStream → Draw (List Float)
draw_all_of s = record { value = list_to (unit_from s) 29; stream = after s 29 }

abbrev pub listed : List Float → ℕ → Float
listed us n = get_or us (n - 1) nan
