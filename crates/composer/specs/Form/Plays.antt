-- The layers that strike in one bar. Definitions only.
use Rattle.std.specs.Prelude.{true, false, cond, ℕ, ◌+◌}
use Rattle.composer.specs.declared.form.plays.Plays.{Plays}

-- bit 0 pad, 1 keys, 2 drums, 3 bass
abbrev pub bits_of : Plays → ℕ
bits_of p = cond p.pad 1 0 + cond p.keys 2 0 + cond p.drums 4 0 + cond p.bass 8 0

abbrev pub all : Plays
all = record { pad = true; keys = true; drums = true; bass = true }

abbrev pub silent : Plays
silent = record { pad = false; keys = false; drums = false; bass = false }

abbrev pub bed : Plays
bed = record { pad = true; keys = false; drums = false; bass = false }

abbrev pub with_keys : Plays
with_keys = record { pad = true; keys = true; drums = false; bass = false }

abbrev pub keys_bass : Plays
keys_bass = record { pad = true; keys = true; drums = false; bass = true }

abbrev pub keys_drums : Plays
keys_drums = record { pad = true; keys = true; drums = true; bass = false }

abbrev pub drums_bass : Plays
drums_bass = record { pad = true; keys = false; drums = true; bass = true }
