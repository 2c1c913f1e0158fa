-- What a layer shows in a bar, and whether a song bar plays drums. Definitions only.
use Rattle.std.specs.Prelude.{Bool, cond, List, [], ℕ}
use Rattle.composer.specs.Form.Promise.{plays_at, strikes}
use Rattle.composer.specs.declared.form.Form.{Form}

-- nothing of a silent layer
abbrev pub shown : {A : Type 0} → Bool → List A → List A
shown on xs = cond on xs []

-- b is a bar of the song, and plays drums
abbrev pub plays_drums : Form → ℕ → Bool
plays_drums f b = strikes (λ p. p.drums) (plays_at f b)
