-- By the tests; fields of lengths that fit leave room in the arrays. Assumes nothing.
use mathlib.Core.Bool.{Bool, true, false, ◌&&◌}
use mathlib.Core.Path.{◌≡◌, sym, ◌∙◌}
use Rattle.reader.specs.Codes.{coded}
use Rattle.reader.specs.Layout.{formed}
use Rattle.reader.specs.Inner.Tested.{tested_of}
use Rattle.reader.specs.Song.{song_in}
use Rattle.reader.specs.Within.{within}
use Rattle.reader.proofs.RoomyLaws.{formed_roomy}
use Rattle.reader.proofs.read.tested.Goals as goal

told : {a a' b b' t : Bool} → a ≡ a' → b ≡ b' → (a && b) ≡ t → (a' && b') ≡ t
told p q e = rw (p, q) at e

pub returns-then-not-is_formed : goal.returns-then-not-is_formed
unfolding tested_of
returns-then-not-is_formed c =
    let e : formed c.of-fields.result.bytes.now ≡ false = sym c.is_formed.ensures ∙ c.if-not-is_formed.true in
    rw (sym c.of-fields.ensures, e)

pub invariant_of-formed : goal.invariant_of-formed
invariant_of-formed c = record { roomy = formed_roomy c.of-fields.result.bytes.now (sym c.is_formed.ensures ∙ c.if-not-is_formed.false) }

pub returns-then-not-coded-within : goal.returns-then-not-coded-within
unfolding tested_of
returns-then-not-coded-within c =
    let b = c.of-fields.result.bytes.now in
    let n : (coded b && within (song_in b)) ≡ false = told c.is_coded-coded.ensures c.song_passes-within.ensures c.if-not-coded-within.true in
    rw (sym c.of-fields.ensures, sym c.is_formed.ensures ∙ c.if-not-is_formed.false, n)

pub returns : goal.returns
unfolding tested_of
returns c =
    let b = c.of-fields.result.bytes.now in
    let y : (coded b && within (song_in b)) ≡ true = told c.is_coded-coded.ensures c.song_passes-within.ensures c.if-not-coded-within.false in
    rw (sym c.of-fields.ensures, sym c.is_formed.ensures ∙ c.if-not-is_formed.false, y)
