-- A bar's rhythm: the 16ths from its downbeat on which the bass starts a note. Definitions only.
use Rattle.std.specs.Prelude.{◌≡◌, cond, List, [], ◌∷◌, ℕ, zero, suc, ◌+◌, ◌≤◌, ◌<◌, get_or, set, length, replicate, Float}
use Rattle.std.specs.Float.{nan, binary32}
use Rattle.std.specs.Float.Ieee.{of_bits, add, sub, div}
use Rattle.streams.specs.Draw.{chance_of}
use Rattle.streams.specs.declared.stream.NoiseStream.{NoiseStream}
use Rattle.streams.specs.declared.stream.Draw.{Draw}
use Rattle.composer.specs.Few.{one_more}
use Rattle.composer.specs.declared.few.Few.{Few}

-- 0.392, 0.226, 0.122, 0.111; 0.191, 0.119, 0.163, 0.117; 0.210, 0.150, 0.128, 0.133; 0.191, 0.131, 0.130, 0.125
abbrev pub bass_step_p : List Float
bass_step_p =
    of_bits binary32 0x3ec8_b439 ∷ of_bits binary32 0x3e67_6c8b ∷ of_bits binary32 0x3df9_db23 ∷ of_bits binary32 0x3de3_53f8
    ∷ of_bits binary32 0x3e43_9581 ∷ of_bits binary32 0x3df3_b646 ∷ of_bits binary32 0x3e26_e979 ∷ of_bits binary32 0x3def_9db2
    ∷ of_bits binary32 0x3e57_0a3d ∷ of_bits binary32 0x3e19_999a ∷ of_bits binary32 0x3e03_126f ∷ of_bits binary32 0x3e08_3127
    ∷ of_bits binary32 0x3e43_9581 ∷ of_bits binary32 0x3e06_24dd ∷ of_bits binary32 0x3e05_1eb8 ∷ of_bits binary32 0x3e00_0000
    ∷ []

abbrev pub step_p : ℕ → Float
step_p step = get_or bass_step_p step nan

-- the first beat's four chances, added from 0.0 on
abbrev pub first_beat_sum : Float
first_beat_sum = add binary32 (add binary32 (add binary32 (add binary32 (of_bits binary32 0) (step_p 0)) (step_p 1)) (step_p 2)) (step_p 3)

-- ---- the root's step: each of `more` steps and one by its chance over those left, the first that comes; the last anyway
unfoldable pub root_from : NoiseStream → Float → ℕ → ℕ → Draw ℕ
root_from s left step zero = record { value = step; stream = (chance_of s (div binary32 (step_p step) left)).stream }
root_from s left step (suc more) =
    let c = chance_of s (div binary32 (step_p step) left) in
    cond c.value (record { value = step; stream = c.stream }) (root_from c.stream (sub binary32 left (step_p step)) (step + 1) more)

unfoldable pub root_step_of : NoiseStream → Draw ℕ
root_step_of s = root_from s first_beat_sum 0 3

-- ---- a bar: the root's step, in the first beat, then the later ones that sound
abbrev pub Steps : Type 0
Steps = Few ℕ 13

abbrev pub more_steps : Steps → ℕ → Steps
more_steps t step = one_more t step

-- a later step, if it sounds
unfoldable pub one_step_of : Draw Steps → ℕ → Draw Steps
one_step_of d step =
    let c = chance_of d.stream (step_p step) in
    record { value = cond c.value (more_steps d.value step) d.value; stream = c.stream }

-- the first i of steps 4 to 15
unfoldable pub steps_to : Draw Steps → ℕ → Draw Steps
steps_to d zero = d
steps_to d (suc i) = one_step_of (steps_to d i) (i + 4)

abbrev pub root_alone : Draw ℕ → Draw Steps
root_alone r = record {
  value = record { at = r.value ∷ 0 ∷ 0 ∷ 0 ∷ 0 ∷ 0 ∷ 0 ∷ 0 ∷ 0 ∷ 0 ∷ 0 ∷ 0 ∷ 0 ∷ []; n = 1 };
  stream = r.stream;
}

unfoldable pub bass_rhythm_of : NoiseStream → Draw Steps
bass_rhythm_of s = steps_to (root_alone (root_step_of s)) 12

-- ---- all eight bars
abbrev pub no_steps : Steps
no_steps = record { at = replicate 13 0; n = 0 }

abbrev pub past_steps : Steps
past_steps = record { at = []; n = 0 }

unfoldable pub one_rhythm_of : Draw (List Steps) → ℕ → Draw (List Steps)
one_rhythm_of r b =
    let d = bass_rhythm_of r.stream in
    record { value = set r.value b d.value; stream = d.stream }

unfoldable pub rhythms_to : Draw (List Steps) → ℕ → Draw (List Steps)
rhythms_to r zero = r
rhythms_to r (suc b) = one_rhythm_of (rhythms_to r b) b

unfoldable pub bass_rhythms_of : NoiseStream → Draw (List Steps)
bass_rhythms_of s = rhythms_to (record { value = replicate 8 no_steps; stream = s }) 8

-- ---- what holds of a bar's steps: at least one, at most 13, in order, each below `most`
pub record Rising (t : Steps) (most : ℕ) : Type 0 where
  pub size : length t.at ≡ 13
  pub some : 1 ≤ t.n
  pub few : t.n ≤ 13
  pub below : (i : ℕ) → i < t.n → get_or t.at i 0 < most
  pub rises : (i : ℕ) → i + 1 < t.n → get_or t.at i 0 < get_or t.at (i + 1) 0
