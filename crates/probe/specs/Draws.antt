-- Runs of draws as numbers. Definitions only.
use Rattle.std.specs.Prelude.{◌≡◌, Bool, true, false, List, ℕ, length, Float}
use Rattle.std.specs.Float.{binary32}
use Rattle.std.specs.Float.Ieee.{to_bits}
use Rattle.laws.specs.Lists.{list_to}
use Rattle.streams.specs.Stream.{after, next_u64_of, unit_of}
use Rattle.streams.specs.Draw.{pick_of, chance_of, coin_of}
use Rattle.streams.specs.declared.stream.NoiseStream.{NoiseStream}
use Rattle.streams.specs.declared.stream.Draw.{Draw}
use Rattle.probe.specs.declared.draws.Kind.{Kind}

abbrev pub stream_at : ℕ → ℕ → NoiseStream
stream_at seed counter = record { seed = seed; counter = counter }

abbrev pub unit_word_of : Draw Float → Draw ℕ
unit_word_of d = record { value = to_bits binary32 d.value; stream = d.stream }

abbrev pub pick_word_of : Draw ℕ → Draw ℕ
pick_word_of d = record { value = d.value; stream = d.stream }

abbrev pub flag_of : Bool → ℕ
flag_of true = 1
flag_of false = 0

abbrev pub chance_word_of : Draw Bool → Draw ℕ
chance_word_of d = record { value = flag_of d.value; stream = d.stream }

unfoldable pub drawn_of : Kind → NoiseStream → Draw ℕ
drawn_of Kind.Word s = next_u64_of s
drawn_of Kind.Unit s = unit_word_of (unit_of s)
drawn_of (Kind.Pick n) s = pick_word_of (pick_of s n)
drawn_of (Kind.Chance p) s = chance_word_of (chance_of s p)
drawn_of Kind.Coin s = chance_word_of (coin_of s)

-- what is drawn after i draws
abbrev pub draw_of : Kind → NoiseStream → ℕ → ℕ
draw_of kind s i = (drawn_of kind (after s i)).value

-- the first n draws from s
abbrev pub draws_of : Kind → NoiseStream → ℕ → List ℕ
draws_of kind s n = list_to (draw_of kind s) n

-- a run of draws from s over all of `out`: what stands there afterwards, and the counter r that the stream is left with
pub record Ran (kind : Kind) (s : NoiseStream) (out out' : List ℕ) (r : ℕ) : Type 0 where
  pub draws : out' ≡ draws_of kind s (length out)
  pub counter : r ≡ (after s (length out)).counter
