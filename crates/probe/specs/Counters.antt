-- The counters of a song's streams. Definitions only.
use Rattle.std.specs.Prelude.{cond, List, ◌++◌, ℕ, ltb, ℤ, pos, neg_ℤ, length, drop, Result, Ok, Err}
use Rattle.composer.specs.Refusal.{number_of}
use Rattle.composer.specs.declared.compose.Composed.{Composed}
use Rattle.composer.specs.declared.refusal.Refusal.{Refusal}
use Rattle.composer.specs.declared.score.Counters.{Counters}
use Rattle.probe.specs.Scores.{counters_of}

-- minus the refusal's number: 2 where there are fewer than 7 places; else 7
abbrev pub room_answer : ℕ → ℤ
room_answer room = cond (ltb room 7) (neg_ℤ (pos (number_of Refusal.ShortBuffer))) (pos 7)

abbrev pub room_buffer : Counters → List ℕ → List ℕ
room_buffer c out = cond (ltb (length out) 7) out (counters_of c ++ drop 7 out)

-- the song's own refusal comes first
abbrev pub counters_answer : Result Composed Refusal → ℕ → ℤ
counters_answer (Ok song) room = room_answer room
counters_answer (Err r) room = neg_ℤ (pos (number_of r))

abbrev pub counters_buffer : Result Composed Refusal → List ℕ → List ℕ
counters_buffer (Ok song) out = room_buffer song.counters out
counters_buffer (Err r) out = out
