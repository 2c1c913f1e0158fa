-- The keys stage: the comp over each bar's chord. Definitions only.
use Rattle.std.specs.Prelude.{Bool, cond, ◌||◌, List, [], ◌∷◌, ℕ, zero, suc, ◌+◌, ◌*◌, ◌%◌, eqb, get_or, replicate, Float}
use Rattle.std.specs.Float.{binary32}
use Rattle.std.specs.Float.Ieee.{of_bits, add, mul, div}
use Rattle.laws.specs.Floats.{f32_of}
use Rattle.streams.specs.Draw.{chance_of, pick_of}
use Rattle.streams.specs.declared.stream.NoiseStream.{NoiseStream}
use Rattle.streams.specs.declared.stream.Draw.{Draw}
use Rattle.composer.specs.Few.{one_more}
use Rattle.composer.specs.Chord.{root_class_of, in_octave_from, past_chord}
use Rattle.composer.specs.Note.{no_note}
use Rattle.composer.specs.Spread.{draw_of, after_of}
use Rattle.composer.specs.Style.{keys_style_of}
use Rattle.composer.specs.Timing.{bar_start_of, swing_delay_of}
use Rattle.composer.specs.declared.chord.Chord.{Chord}
use Rattle.composer.specs.declared.harmony.Harmony.{Harmony}
use Rattle.composer.specs.declared.note.Note.{Note}
use Rattle.composer.specs.declared.note.NoteRole.{NoteRole}
use Rattle.composer.specs.declared.spread.Spread.{Spread}
use Rattle.composer.specs.declared.style.Comp.{Comp}
use Rattle.composer.specs.declared.style.Density.{Density}
use Rattle.composer.specs.declared.style.KeysStyle.{KeysStyle}
use Rattle.composer.specs.declared.style.Style.{Style}
use Rattle.composer.specs.declared.few.Few.{Few}
use Rattle.composer.specs.declared.keys.Shell.{Shell}
use Rattle.composer.specs.declared.keys.Dyad.{Dyad}

-- ---- the shell: third and seventh, found from the root
-- a note's class lies a or b above the root's
abbrev pub sounds_of : ℕ → ℕ → ℕ → ℕ → Bool
sounds_of root a b note = eqb (note % 12) ((root + a) % 12) || eqb (note % 12) ((root + b) % 12)

-- the first note that does, 0 where none does
unfoldable pub find_of : ℕ → ℕ → ℕ → List ℕ → ℕ
find_of root a b [] = 0
find_of root a b (note ∷ notes) = cond (sounds_of root a b note) note (find_of root a b notes)

unfoldable pub shell_of : Chord → Shell
shell_of c = record { third = find_of (root_class_of c) 3 4 c.notes; seventh = find_of (root_class_of c) 10 11 c.notes }

-- the shell of a chord of the grammar, by the notes' places
abbrev pub placed_shell : Chord → Shell
placed_shell c = record { third = get_or c.notes 1 0; seventh = get_or c.notes 3 0 }

-- the seventh, or the ninth above it
abbrev pub upper_of : Bool → ℕ → ℕ → ℕ
upper_of ninth seventh root = cond ninth (in_octave_from seventh ((root + 2) % 12)) seventh

-- ---- the settings
-- 0.53
abbrev pub swing_keys : Float
swing_keys = of_bits binary32 0x3f07_ae14

-- 0.010 and 0.020
abbrev pub keys_lag : Spread
keys_lag = record { base = of_bits binary32 0x3c23_d70a; span = of_bits binary32 0x3ca3_d70a }

-- 0.012 and 0.008
abbrev pub roll : Spread
roll = record { base = of_bits binary32 0x3c44_9ba6; span = of_bits binary32 0x3c03_126f }

-- 0.9
abbrev pub rolled_softer : Float
rolled_softer = of_bits binary32 0x3f66_6666

-- 0.2
abbrev pub ninth_p : Float
ninth_p = of_bits binary32 0x3e4c_cccd

-- one draw, or none where it is fixed
unfoldable pub density_draw_of : Density → NoiseStream → Draw Float
density_draw_of (Density.Drawn spread) s = draw_of spread s
density_draw_of (Density.Fixed p) s = record { value = p; stream = s }

-- ---- the lane: its notes, in the order drawn, and the stream after their draws
abbrev pub KeysLane : Type 0
KeysLane = Draw (Few Note 128)

abbrev pub empty_of : NoiseStream → KeysLane
empty_of s = record { value = record { at = replicate 128 no_note; n = 0 }; stream = s }

abbrev pub moved_of : KeysLane → NoiseStream → KeysLane
moved_of l s = record { value = l.value; stream = s }

abbrev pub push_of : KeysLane → Note → KeysLane
push_of l note = record { value = one_more l.value note; stream = l.stream }

-- when an eighth of a bar begins: an off-eighth swings
abbrev pub grid_at : ℕ → ℕ → Float → Float
grid_at bar e beatS =
    let eighth = div binary32 beatS (of_bits binary32 0x4000_0000) in
    let at = add binary32 (bar_start_of bar beatS) (mul binary32 (f32_of e) eighth) in
    cond (eqb (e % 2) 1) (add binary32 at (swing_delay_of swing_keys eighth)) at

-- ---- a stroke by itself: the ninth's chance, the velocity and the roll are drawn, or the pick and the velocity
abbrev pub dyad_of : NoiseStream → Shell → ℕ → KeysStyle → ℕ → Float → Draw Dyad
dyad_of s shell root k bar at =
    let ninth = chance_of s ninth_p in
    let high = upper_of ninth.value shell.seventh root in
    let vel = draw_of k.velocity ninth.stream in
    let rolled = after_of roll at vel.stream in
    let lower : Note = record { bar = bar; role = NoteRole.Backing; spare = 0; at = at; midi = shell.third; vel = vel.value; dur = k.dur } in
    let higher : Note = record { bar = bar; role = NoteRole.Backing; spare = 0; at = rolled.value; midi = high; vel = mul binary32 vel.value rolled_softer; dur = k.dur } in
    record { value = record { lower = lower; higher = higher }; stream = rolled.stream }

abbrev pub tone_of : NoiseStream → Chord → KeysStyle → ℕ → Float → Draw Note
tone_of s c k bar at =
    let p = pick_of s 4 in
    let vel = draw_of k.velocity p.stream in
    record { value = record { bar = bar; role = NoteRole.Backing; spare = 0; at = at; midi = get_or c.notes p.value 0; vel = vel.value; dur = k.dur }; stream = vel.stream }

-- ---- a stroke on the lane
unfoldable pub shell_stroke_of : KeysLane → Chord → KeysStyle → ℕ → Float → KeysLane
shell_stroke_of l c k bar at =
    let dyad = dyad_of l.stream (shell_of c) (root_class_of c) k bar at in
    moved_of (push_of (push_of l dyad.value.lower) dyad.value.higher) dyad.stream

unfoldable pub single_stroke_of : KeysLane → Chord → KeysStyle → ℕ → Float → KeysLane
single_stroke_of l c k bar at =
    let tone = tone_of l.stream c k bar at in
    moved_of (push_of l tone.value) tone.stream

abbrev pub stroke_by : Comp → KeysLane → Chord → KeysStyle → ℕ → Float → KeysLane
stroke_by Comp.Shell l c k bar at = shell_stroke_of l c k bar at
stroke_by Comp.Single l c k bar at = single_stroke_of l c k bar at

-- behind the grid by its lag
unfoldable pub stroke_of : KeysLane → Chord → KeysStyle → ℕ → Float → KeysLane
stroke_of l c k bar grid =
    let lag = draw_of keys_lag l.stream in
    stroke_by k.comp (moved_of l lag.stream) c k bar (add binary32 grid lag.value)

-- ---- every eighth is struck with the chance `density`
unfoldable pub eighth_of : KeysLane → Chord → KeysStyle → Float → ℕ → ℕ → Float → KeysLane
eighth_of l c k density bar e beatS =
    let d = chance_of l.stream density in
    let next = moved_of l d.stream in
    cond d.value (stroke_of next c k bar (grid_at bar e beatS)) next

unfoldable pub bar_to : KeysLane → Chord → KeysStyle → Float → ℕ → Float → ℕ → KeysLane
bar_to l c k density bar beatS zero = l
bar_to l c k density bar beatS (suc e) = eighth_of (bar_to l c k density bar beatS e) c k density bar e beatS

unfoldable pub bar_of : KeysLane → Chord → KeysStyle → Float → ℕ → Float → KeysLane
bar_of l c k density bar beatS = bar_to l c k density bar beatS 8

unfoldable pub bars_to : KeysLane → List Chord → KeysStyle → Float → Float → ℕ → KeysLane
bars_to l bars k density beatS zero = l
bars_to l bars k density beatS (suc b) = bar_of (bars_to l bars k density beatS b) (get_or bars b past_chord) k density b beatS

unfoldable pub keys_of : NoiseStream → Harmony → Style → Float → KeysLane
keys_of s h style beatS =
    let k = keys_style_of style in
    let d = density_draw_of k.density s in
    bars_to (empty_of d.stream) h.bars k d.value beatS 8

-- ---- how many draws the stage makes for so many notes: the density's, one for each eighth, and for each
-- stroke the lag and its own
abbrev pub key_draws_of : Style → ℕ → ℕ
key_draws_of Style.Hiphop notes = 65 + 2 * notes
key_draws_of Style.Sleep notes = 64 + 3 * notes
