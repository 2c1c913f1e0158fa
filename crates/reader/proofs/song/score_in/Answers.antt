-- Its parts, each from its field. Assumes nothing.
use mathlib.Core.Bool.{true, false}
use mathlib.Core.List.{List}
use mathlib.Core.Path.{◌≡◌, sym, ◌∙◌, subst}
use Prim.Native.Nat.{ℕ}
use lib.Dec.{T}
use lib.Ieee.Scale.{finite}
use Rattle.std.proofs.Common.{rules}
use Rattle.pages.specs.Bytes.{f32_at}
use Rattle.reader.specs.Inner.Layout.{Roomy}
use Rattle.reader.specs.Inner.Reading.{notes_pass, hits_pass}
use Rattle.reader.specs.Layout.{edition_in, body_at}
use Rattle.reader.specs.Song.{note_count_in, hit_count_in, score_in}
use Rattle.reader.specs.Within.{score_within}
use Rattle.reader.proofs.ReadingLaws.{notes_within_lem, hits_within_lem}
use Rattle.reader.proofs.TestedLaws.{score_told}
use Rattle.reader.proofs.song.score_in.Goals as goal

-- what a score that is within says of its bytes
record Passing (b : List ℕ) : Type 0 where
  bpm : T (finite (f32_at b (body_at b 1)))
  lead : notes_pass (edition_in b) true b (body_at b 4) (note_count_in b 4) ≡ true
  keys : notes_pass (edition_in b) false b (body_at b 5) (note_count_in b 5) ≡ true
  hits : hits_pass b (body_at b 6) (hit_count_in b 6) ≡ true
  bass : notes_pass (edition_in b) false b (body_at b 7) (note_count_in b 7) ≡ true

passing : (b : List ℕ) → Roomy b → score_within (edition_in b) (score_in b) ≡ true → Passing b
unfolding score_in
passing b r ok =
    let e = edition_in b in
    let t = score_told e (score_in b) ok in
    record {
      bpm = subst T (sym t.bpm) tt;
      lead = notes_within_lem e true b (body_at b 4) 56 (note_count_in b 4) r.lead_few ∙ t.lead;
      keys = notes_within_lem e false b (body_at b 5) 128 (note_count_in b 5) r.keys_few ∙ t.keys;
      hits = hits_within_lem b (body_at b 6) 98 (hit_count_in b 6) r.hits_few ∙ t.hits;
      bass = notes_within_lem e false b (body_at b 7) 104 (note_count_in b 7) r.bass_few ∙ t.bass;
    }

pub f32_at-requires-clause-finite : goal.f32_at-requires-clause-finite
f32_at-requires-clause-finite c = rw c.body.ensures (passing _ c.args.formed.now.roomy c.requires).bpm

pub notes_at-requires : goal.notes_at-requires
notes_at-requires c = let p = passing _ c.args.formed.now.roomy c.requires in search rules

pub notes_at-requires-2 : goal.notes_at-requires-2
notes_at-requires-2 c = let p = passing _ c.args.formed.now.roomy c.requires in search rules

pub hits_at-requires : goal.hits_at-requires
hits_at-requires c = let p = passing _ c.args.formed.now.roomy c.requires in search rules

pub notes_at-requires-3 : goal.notes_at-requires-3
notes_at-requires-3 c = let p = passing _ c.args.formed.now.roomy c.requires in search rules

pub returns : goal.returns
unfolding score_in
returns c = rw (
  c.style_by.ensures,
  c.byte_in.ensures,
  c.f32_at.ensures,
  c.chords_from.ensures,
  c.notes_at.ensures,
  c.notes.ensures,
  c.notes_at-2.ensures,
  c.notes-2.ensures,
  c.hits_at.ensures,
  c.hits.ensures,
  c.notes_at-3.ensures,
  c.notes-3.ensures,
  c.voice_coded.ensures,
  c.byte_in-2.ensures,
  c.body-name.ensures,
  c.body.ensures,
  c.body-2.ensures,
)
