-- Lanes are in range as their events are, one by one. Assumes nothing.
use mathlib.Core.Path.{◌≡◌, sym, ap}
use mathlib.Core.Bool.{Bool}
use mathlib.Core.List.{List}
use Prim.Native.Nat.{ℕ, ◌+◌, ◌*◌, ◌≤◌}
use borrow.Author.Tests.{le-leb}
use lib.ListN.{get_or}
use Rattle.laws.specs.Lists.{pad}
use Rattle.composer.specs.Note.{no_note, past_note, no_hit, past_hit}
use Rattle.pages.specs.Edition.{note_width}
use Rattle.pages.specs.declared.edition.Edition.{Edition}
use Rattle.reader.specs.Inner.Reading.{notes_pass, hits_pass}
use Rattle.reader.specs.Song.{note_at, hit_at, notes_at, hits_at}
use Rattle.reader.specs.Within.{note_within, hit_within, notes_within, hits_within}
use Rattle.reader.proofs.ArrayLaws.{array_at}
use Rattle.reader.proofs.TestLaws.{all_to_same}

pub notes_within_lem : (edition : Edition) (leads : Bool) (bytes : List ℕ) (at cap n : ℕ) → n ≤ cap → notes_pass edition leads bytes at n ≡ notes_within edition leads (pad no_note cap (notes_at edition leads bytes at n)) cap n
unfolding notes_within
notes_within_lem edition leads bytes at cap n few =
    rw (le-leb n cap few)
    (all_to_same (λ i. note_within edition leads (note_at edition leads bytes (at + note_width edition * i))) (λ i. note_within edition leads (get_or (pad no_note cap (notes_at edition leads bytes at n)) i past_note)) n
    (λ i h. ap (note_within edition leads) (sym (array_at no_note cap (λ k. note_at edition leads bytes (at + note_width edition * k)) n past_note i h))))

pub hits_within_lem : (bytes : List ℕ) (at cap n : ℕ) → n ≤ cap → hits_pass bytes at n ≡ hits_within (pad no_hit cap (hits_at bytes at n)) cap n
unfolding hits_within
hits_within_lem bytes at cap n few =
    rw (le-leb n cap few)
    (all_to_same (λ i. hit_within (hit_at bytes (at + 10 * i))) (λ i. hit_within (get_or (pad no_hit cap (hits_at bytes at n)) i past_hit)) n
    (λ i h. ap hit_within (sym (array_at no_hit cap (λ k. hit_at bytes (at + 10 * k)) n past_hit i h))))
