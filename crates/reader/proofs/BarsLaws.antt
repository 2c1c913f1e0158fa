-- How many bars a song can have: even, 32 to 64, and never 62. Assumes nothing.
use mathlib.Core.Path.{◌≡◌, refl}
use mathlib.Core.Logic.{◌⊎◌, inl, inr}
use Prim.Native.Nat.{ℕ, ◌+◌, ◌*◌, ◌%◌, ◌≤◌}
use native.Mathlib.Omega.{arith}
use Rattle.composer.specs.Form.{parts_of}
use Rattle.composer.specs.Form.Ends.{end_bars_of, outro_length_of}
use Rattle.composer.specs.declared.form.Form.{Form}
use Rattle.composer.specs.declared.form.ends.Bars.{Bars}
use Rattle.composer.specs.declared.form.ends.End.{End}
use Rattle.composer.specs.declared.form.ends.Outro.{Outro}

pub record SongBars (n : ℕ) : Type 0 where
  pub even : n % 2 ≡ 0
  pub least : 32 ≤ n
  pub most : n ≤ 64
  pub never : n ≡ 62 → ⊥

end_bars : (e : End) → (end_bars_of e % 4 ≡ 0) × (end_bars_of e ≤ 8)
end_bars End.Cold = (omega arith, omega arith)
end_bars (End.Plain Bars.Four) = (omega arith, omega arith)
end_bars (End.Plain Bars.Eight) = (omega arith, omega arith)
end_bars (End.Edged Bars.Four e) = (omega arith, omega arith)
end_bars (End.Edged Bars.Eight e) = (omega arith, omega arith)

outro_bars : (o : Outro) → (outro_length_of o ≡ 2) ⊎ ((outro_length_of o % 4 ≡ 0) × (outro_length_of o ≤ 8))
outro_bars (Outro.Ends e) = inr (end_bars e)
outro_bars Outro.RingOut = inl refl

by_parts : (intro phrases outro n : ℕ) → (intro % 4 ≡ 0) × (intro ≤ 8) → (outro ≡ 2) ⊎ ((outro % 4 ≡ 0) × (outro ≤ 8)) → 4 ≤ phrases → phrases ≤ 6
    → intro + 8 * phrases + outro ≡ n → SongBars n
by_parts i p o n a (inl b) h k e = record { even = omega arith; least = omega arith; most = omega arith; never = λ z. omega arith }
by_parts i p o n a (inr b) h k e = record { even = omega arith; least = omega arith; most = omega arith; never = λ z. omega arith }

pub song_bars : (f : Form) → 4 ≤ f.phrases → f.phrases ≤ 6 → parts_of f ≡ f.bars → SongBars f.bars
song_bars f h k e = by_parts (end_bars_of f.intro) f.phrases (outro_length_of f.outro) f.bars (end_bars f.intro) (outro_bars f.outro) h k e
