-- Each event of a lane has plain floats, by the promise of its score. Assumes nothing.
use Rattle.std.proofs.Common.{ℕ, ◌<◌, ◌≤◌, List, All, length, take, get_or, sym, subst, arith, length-take-le}
use Rattle.std.proofs.lemmas.List.Elements.{All-from_get_or}
use lib.Seq.{get_or-take}
use Rattle.composer.specs.Note.{past_note, past_hit}
use Rattle.composer.specs.Plain.{PlainNote, PlainHit}
use Rattle.probe.proofs.songs.score_sum.Goals as goal

-- what holds of each of the first n entries, of these as a list
front : {A : Type 0} (P : A → Type 0) (xs : List A) (n : ℕ) (d : A) → n ≤ length xs → ((i : ℕ) → i < n → P (get_or xs i d)) → All P (take n xs)
front P xs n d few p =
    let size = length-take-le n xs few in
    All-from_get_or P (take n xs) d (λ i h. let l : i < n = omega arith in subst P (sym (get_or-take n xs i d l)) (p i l))

pub notes_sum-requires-clause-plain : goal.notes_sum-requires-clause-plain
notes_sum-requires-clause-plain c = let s = c.args.s.now in rw c.used.ensures.value (front PlainNote s.lead.at s.lead.n past_note (omega arith) c.requires.plain.lead)

pub notes_sum-requires-2-clause-plain : goal.notes_sum-requires-2-clause-plain
notes_sum-requires-2-clause-plain c = let s = c.args.s.now in rw c.used-2.ensures.value (front PlainNote s.keys.at s.keys.n past_note (omega arith) c.requires.plain.keys)

pub hits_sum-low-requires-clause-plain : goal.hits_sum-low-requires-clause-plain
hits_sum-low-requires-clause-plain c = let s = c.args.s.now in rw c.used-3.ensures.value (front PlainHit s.hits.at s.hits.n past_hit (omega arith) c.requires.plain.hits)

pub notes_sum-requires-3-clause-plain : goal.notes_sum-requires-3-clause-plain
notes_sum-requires-3-clause-plain c = let s = c.args.s.now in rw c.used-4.ensures.value (front PlainNote s.bass.at s.bass.n past_note (omega arith) c.requires.plain.bass)
