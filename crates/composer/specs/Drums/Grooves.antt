-- The grooves: where their kicks, snares and hats land, and how they swing and drag. Definitions only.
use Rattle.std.specs.Prelude.{true, false, List, [], ◌∷◌, ℕ, get_or, Float}
use Rattle.std.specs.Float.{nan, binary32}
use Rattle.std.specs.Float.Ieee.{of_bits}
use Rattle.composer.specs.Note.{zero32}
use Rattle.composer.specs.declared.few.Few.{Few}
use Rattle.composer.specs.declared.drums.grooves.Kick.{Kick}
use Rattle.composer.specs.declared.drums.grooves.Hats.{Hats}
use Rattle.composer.specs.declared.drums.grooves.Groove.{Groove}

-- on the downbeat of every bar
abbrev pub on_downbeat : Float → Kick
on_downbeat gain = record { even = zero32; odd = zero32; gain = gain }

-- 3.75, gain 0.35
abbrev pub ghost_kick : Kick
ghost_kick = record { even = of_bits binary32 0x4070_0000; odd = of_bits binary32 0x4070_0000; gain = of_bits binary32 0x3eb3_3333 }

-- 1.0 and 3.0
abbrev pub backbeats : Few Float 2
backbeats = record { at = of_bits binary32 0x3f80_0000 ∷ of_bits binary32 0x4040_0000 ∷ []; n = 2 }

-- velocity 0.4 and 0.2
abbrev pub hiphop_hats : Float → Float → Hats
hiphop_hats swing skipP = record {
  off_eighths_only = false;
  skip_p = skipP;
  swing = swing;
  velocity = record { base = of_bits binary32 0x3ecc_cccd; span = of_bits binary32 0x3e4c_cccd };
}

-- 0.015
abbrev pub drag_kick_s : Float
drag_kick_s = of_bits binary32 0x3c75_c28f

-- 0.85
abbrev pub snare_gain : Float
snare_gain = of_bits binary32 0x3f59_999a

-- kicks of 0.82, and of 0.70 on 2.25 or 2.5; hats that skip 0.15
abbrev pub boom_bap : Float → Groove
boom_bap swing = record {
  first = on_downbeat (of_bits binary32 0x3f51_eb85);
  second = record { even = of_bits binary32 0x4010_0000; odd = of_bits binary32 0x4020_0000; gain = of_bits binary32 0x3f33_3333 };
  ghost_pickup = true;
  drag_s = drag_kick_s;
  snares = backbeats;
  snare_gain = snare_gain;
  hats = hiphop_hats swing (of_bits binary32 0x3e19_999a);
  open_hat = true;
}

-- kicks of 0.82, and of 0.7 on 2.75; one snare, on 2.0; hats of swing 0.56 that skip 0.30
abbrev pub half_time : Groove
half_time = record {
  first = on_downbeat (of_bits binary32 0x3f51_eb85);
  second = record { even = of_bits binary32 0x4030_0000; odd = of_bits binary32 0x4030_0000; gain = of_bits binary32 0x3f33_3333 };
  ghost_pickup = false;
  drag_s = drag_kick_s;
  snares = record { at = of_bits binary32 0x4000_0000 ∷ zero32 ∷ []; n = 1 };
  snare_gain = snare_gain;
  hats = hiphop_hats (of_bits binary32 0x3f0f_5c29) (of_bits binary32 0x3e99_999a);
  open_hat = true;
}

-- kicks of 0.78, and of 0.6 on 2.5; hats of swing 0.56 that skip 0.45
abbrev pub sparse : Groove
sparse = record {
  first = on_downbeat (of_bits binary32 0x3f47_ae14);
  second = record { even = of_bits binary32 0x4020_0000; odd = of_bits binary32 0x4020_0000; gain = of_bits binary32 0x3f19_999a };
  ghost_pickup = false;
  drag_s = drag_kick_s;
  snares = backbeats;
  snare_gain = snare_gain;
  hats = hiphop_hats (of_bits binary32 0x3f0f_5c29) (of_bits binary32 0x3ee6_6666);
  open_hat = false;
}

-- boom-bap at swing 0.56 and at 0.74, half-time, sparse
abbrev pub hiphop_grooves : List Groove
hiphop_grooves = boom_bap (of_bits binary32 0x3f0f_5c29) ∷ boom_bap (of_bits binary32 0x3f3d_70a4) ∷ half_time ∷ sparse ∷ []

-- what stands past an array's end
abbrev pub past_groove : Groove
past_groove = record {
  first = record { even = nan; odd = nan; gain = nan };
  second = record { even = nan; odd = nan; gain = nan };
  ghost_pickup = false;
  drag_s = nan;
  snares = record { at = []; n = 0 };
  snare_gain = nan;
  hats = record { off_eighths_only = false; skip_p = nan; swing = nan; velocity = record { base = nan; span = nan } };
  open_hat = false;
}

unfoldable pub hiphop_groove_of : ℕ → Groove
hiphop_groove_of n = get_or hiphop_grooves n past_groove

-- kicks of 0.5, and of 0.38 on 2.5, dragged 0.018; snares of 0.43; hats of swing 0.58 that skip 0.45, velocity 0.40 and 0.24
abbrev pub sleep_groove : Groove
sleep_groove = record {
  first = on_downbeat (of_bits binary32 0x3f00_0000);
  second = record { even = of_bits binary32 0x4020_0000; odd = of_bits binary32 0x4020_0000; gain = of_bits binary32 0x3ec2_8f5c };
  ghost_pickup = false;
  drag_s = of_bits binary32 0x3c93_74bc;
  snares = backbeats;
  snare_gain = of_bits binary32 0x3edc_28f6;
  hats = record {
    off_eighths_only = true;
    skip_p = of_bits binary32 0x3ee6_6666;
    swing = of_bits binary32 0x3f14_7ae1;
    velocity = record { base = of_bits binary32 0x3ecc_cccd; span = of_bits binary32 0x3e75_c28f };
  };
  open_hat = false;
}
