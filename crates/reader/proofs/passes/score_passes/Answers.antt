-- Its parts, each from its field. Assumes nothing.
use mathlib.Core.Bool.{true, false}
use mathlib.Core.Path.{◌∙◌}
use Rattle.reader.specs.Layout.{edition_in, body_at}
use Rattle.reader.specs.Song.{note_count_in, hit_count_in, score_in}
use Rattle.reader.specs.Within.{score_within}
use Rattle.reader.proofs.ReadingLaws.{notes_within_lem, hits_within_lem}
use Rattle.reader.proofs.passes.score_passes.Goals as goal

pub returns : goal.returns
unfolding score_in score_within
returns c =
    let b = c.args.formed.now.fields.bytes.now in
    let e = edition_in b in
    let r = c.args.formed.now.roomy in
    rw (
      c.finite_at-tempo.ensures,
      c.body.ensures,
      c.chords_within-chords.ensures,
      c.chords_from.ensures,
      c.body-2.ensures,
      c.notes_pass-lead.ensures ∙ notes_within_lem e true b (body_at b 4) 56 (note_count_in b 4) r.lead_few,
      c.notes_pass-keys.ensures ∙ notes_within_lem e false b (body_at b 5) 128 (note_count_in b 5) r.keys_few,
      c.hits_pass-hits.ensures ∙ hits_within_lem b (body_at b 6) 98 (hit_count_in b 6) r.hits_few,
      c.notes_pass-bass.ensures ∙ notes_within_lem e false b (body_at b 7) 104 (note_count_in b 7) r.bass_few,
    )
