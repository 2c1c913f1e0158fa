-- A form's parts. Definitions only.
use Rattle.std.specs.Prelude.{ℕ, ◌+◌, ◌-◌, ◌*◌, ◌%◌}
use Rattle.composer.specs.Form.Ends.{end_bars_of, outro_length_of}
use Rattle.composer.specs.declared.form.Form.{Form}
pub mod Ask
pub mod Body
pub mod Decisions
pub mod Ends
pub mod Plays
pub mod Promise
pub mod Song
pub mod Spans

abbrev pub intro_bars_of : Form → ℕ
intro_bars_of f = end_bars_of f.intro

-- a phrase has 8 bars
abbrev pub body_bars_of : Form → ℕ
body_bars_of f = 8 * f.phrases

abbrev pub outro_bars_of : Form → ℕ
outro_bars_of f = outro_length_of f.outro

abbrev pub parts_of : Form → ℕ
parts_of f = intro_bars_of f + body_bars_of f + outro_bars_of f

-- the loop bar that song bar 0 shows
abbrev pub lead_in_of : Form → ℕ
lead_in_of f = (8 - intro_bars_of f % 8) % 8

-- song bar b shows this loop bar
abbrev pub loop_bar_of : Form → ℕ → ℕ
loop_bar_of f b = (b + lead_in_of f) % 8
