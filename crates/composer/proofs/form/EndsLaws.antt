-- The lengths that an intro and an outro can have. Assumes nothing.
use mathlib.Core.Path.{◌≡◌, refl}
use mathlib.Core.Logic.{◌⊎◌, inl, inr, ⊎_elim}
use Prim.Native.Nat.{◌≤◌}
use native.Mathlib.Omega.{arith}
use mathlib.Core.Bool.{false}
use Rattle.composer.specs.Form.Ends.{count_of, end_bars_of, end_edged_of, end_plain_of, outro_length_of, outro_edged_of, outro_plain_of}
use Rattle.composer.specs.declared.form.ends.Bars.{Bars}
use Rattle.composer.specs.declared.form.ends.End.{End}
use Rattle.composer.specs.declared.form.ends.Outro.{Outro}

count_is : (n : Bars) → (count_of n ≡ 4) ⊎ (count_of n ≡ 8)
count_is Bars.Four = inl refl
count_is Bars.Eight = inr refl

pub end_bars_is : (e : End) → (end_bars_of e ≡ 0) ⊎ ((end_bars_of e ≡ 4) ⊎ (end_bars_of e ≡ 8))
end_bars_is End.Cold = inl refl
end_bars_is (End.Plain n) = inr (count_is n)
end_bars_is (End.Edged n e) = inr (count_is n)

count_le : (n : Bars) → count_of n ≤ 8
count_le Bars.Four = omega arith
count_le Bars.Eight = omega arith

pub end_bars_le : (e : End) → end_bars_of e ≤ 8
end_bars_le End.Cold = omega arith
end_bars_le (End.Plain n) = count_le n
end_bars_le (End.Edged n e) = count_le n

pub outro_length_le : (o : Outro) → outro_length_of o ≤ 8
outro_length_le (Outro.Ends e) = end_bars_le e
outro_length_le Outro.RingOut = omega arith

pub outro_length_is : (o : Outro) → (outro_length_of o ≡ 0) ⊎ ((outro_length_of o ≡ 2) ⊎ ((outro_length_of o ≡ 4) ⊎ (outro_length_of o ≡ 8)))
outro_length_is (Outro.Ends e) = ⊎_elim (λ h. inl h) (λ h. inr (inr h)) (end_bars_is e)
outro_length_is Outro.RingOut = inr (inl refl)

-- an edge has no say in the bars
pub end_plain_bars : (e : End) → end_bars_of (end_plain_of e) ≡ end_bars_of e
end_plain_bars End.Cold = refl
end_plain_bars (End.Plain n) = refl
end_plain_bars (End.Edged n e) = refl

pub outro_plain_length : (o : Outro) → outro_length_of (outro_plain_of o) ≡ outro_length_of o
outro_plain_length (Outro.Ends e) = end_plain_bars e
outro_plain_length Outro.RingOut = refl

-- and a plain end has none
pub end_plain_edged : (e : End) → end_edged_of (end_plain_of e) ≡ false
end_plain_edged End.Cold = refl
end_plain_edged (End.Plain n) = refl
end_plain_edged (End.Edged n e) = refl

pub outro_plain_edged : (o : Outro) → outro_edged_of (outro_plain_of o) ≡ false
outro_plain_edged (Outro.Ends e) = end_plain_edged e
outro_plain_edged Outro.RingOut = refl
