-- What both editions tell, and in the second the role behind it. Assumes nothing.
use mathlib.Core.Path.{refl, ap}
use mathlib.Core.List.{[], ◌∷◌, ◌++◌}
use Prim.Native.Nat.{ℕ}
use Rattle.laws.proofs.Writes.{wrote_then, wrote_as}
use Rattle.pages.specs.Lane.{sound_bytes, note_bytes}
use Rattle.pages.proofs.event.NoteEvent.put.Goals as goal

pub returns-in-One : goal.returns-in-One
unfolding note_bytes
returns-in-One c = rw c.in-One.is c.put_sound-a.ensures

pub returns-in-Two : goal.returns-in-Two
unfolding note_bytes
returns-in-Two c =
    let n = c.args.self.now in
    rw c.in-Two.is (wrote_as refl (ap (λ (v : ℕ). sound_bytes n ++ (v ∷ [])) c.number.ensures) (wrote_then c.put_sound-a.ensures c.put_u8.ensures))
