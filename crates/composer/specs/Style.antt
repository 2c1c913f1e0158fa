-- The two styles, and every setting their songs are written with. Definitions only.
use Rattle.std.specs.Prelude.{Bool, false, ℕ, zero, suc, Float, Result, Ok, Err}
use Rattle.std.specs.Float.{binary32}
use Rattle.std.specs.Float.Ieee.{of_bits}
use Rattle.streams.specs.Draw.{chance_of}
use Rattle.streams.specs.declared.stream.NoiseStream.{NoiseStream}
use Rattle.streams.specs.declared.stream.Draw.{Draw}
use Rattle.composer.specs.Spread.{between_of}
use Rattle.composer.specs.declared.refusal.Refusal.{Refusal}
use Rattle.composer.specs.declared.spread.Spread.{Spread}
use Rattle.composer.specs.declared.style.Style.{Style}
use Rattle.composer.specs.declared.style.Style.TheVariants.{Hiphop, Sleep}
use Rattle.composer.specs.declared.style.Odds.{Odds}
use Rattle.composer.specs.declared.style.LeadStyle.{LeadStyle}
use Rattle.composer.specs.declared.style.Density.{Density}
use Rattle.composer.specs.declared.style.Comp.{Comp}
use Rattle.composer.specs.declared.style.KeysStyle.{KeysStyle}
use Rattle.composer.specs.declared.style.BassStyle.{BassStyle}

-- document 01's number of each style
abbrev pub style_number_of : Style → ℕ
style_number_of Hiphop = 0
style_number_of Sleep = 1

-- the style of a number; there are two
abbrev pub style_named : ℕ → Result Style Refusal
style_named zero = Ok Hiphop
style_named (suc zero) = Ok Sleep
style_named (suc (suc n)) = Err Refusal.UnknownStyle

-- what a style never does takes no draw
unfoldable pub odds_of : Odds → NoiseStream → Draw Bool
odds_of Odds.Never s = record { value = false; stream = s }
odds_of (Odds.Chance p) s = chance_of s p

-- 0.8, 0.42
abbrev pub major_share_of : Style → Float
major_share_of Hiphop = of_bits binary32 0x3f4c_cccd
major_share_of Sleep = of_bits binary32 0x3ed7_0a3d

-- 70 to 82, 73 to 77
abbrev pub bpm_of : Style → Spread
bpm_of Hiphop = between_of (of_bits binary32 0x428c_0000) (of_bits binary32 0x42a4_0000)
bpm_of Sleep = between_of (of_bits binary32 0x4292_0000) (of_bits binary32 0x429a_0000)

-- note_p 0.45, velocity 0.34 and 0.10, dur 2.0; rest_p 0.25, note_p 0.35, velocity 0.25 and 0.12, dur 2.2
abbrev pub lead_style_of : Style → LeadStyle
lead_style_of Hiphop = record {
  lo = 65;
  hi = 81;
  rest_p = Odds.Never;
  note_p = of_bits binary32 0x3ee6_6666;
  velocity = record { base = of_bits binary32 0x3eae_147b; span = of_bits binary32 0x3dcc_cccd };
  dur = of_bits binary32 0x4000_0000;
}
lead_style_of Sleep = record {
  lo = 60;
  hi = 79;
  rest_p = Odds.Chance (of_bits binary32 0x3e80_0000);
  note_p = of_bits binary32 0x3eb3_3333;
  velocity = record { base = of_bits binary32 0x3e80_0000; span = of_bits binary32 0x3df5_c28f };
  dur = of_bits binary32 0x400c_cccd;
}

-- density from 0.28 to 0.38, velocity 0.42 and 0.30, dur 0.9; density 0.15, velocity 0.35 and 0.25, dur 1.1
abbrev pub keys_style_of : Style → KeysStyle
keys_style_of Hiphop = record {
  density = Density.Drawn (between_of (of_bits binary32 0x3e8f_5c29) (of_bits binary32 0x3ec2_8f5c));
  velocity = record { base = of_bits binary32 0x3ed7_0a3d; span = of_bits binary32 0x3e99_999a };
  comp = Comp.Shell;
  dur = of_bits binary32 0x3f66_6666;
}
keys_style_of Sleep = record {
  density = Density.Fixed (of_bits binary32 0x3e19_999a);
  velocity = record { base = of_bits binary32 0x3eb3_3333; span = of_bits binary32 0x3e80_0000 };
  comp = Comp.Single;
  dur = of_bits binary32 0x3f8c_cccd;
}

-- fifth_p 0.4, pickup_p 0.25, velocity 0.62 and 0.08; fifth_p 0.2, velocity 0.55 and 0.08
abbrev pub bass_style_of : Style → BassStyle
bass_style_of Hiphop = record {
  fifth_p = of_bits binary32 0x3ecc_cccd;
  pickup_p = Odds.Chance (of_bits binary32 0x3e80_0000);
  velocity = record { base = of_bits binary32 0x3f1e_b852; span = of_bits binary32 0x3da3_d70a };
}
bass_style_of Sleep = record {
  fifth_p = of_bits binary32 0x3e4c_cccd;
  pickup_p = Odds.Never;
  velocity = record { base = of_bits binary32 0x3f0c_cccd; span = of_bits binary32 0x3da3_d70a };
}
