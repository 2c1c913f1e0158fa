-- What is in range can be written; the arrays' lengths are the types'. Assumes nothing.
use Rattle.reader.proofs.BarsLaws.{song_bars}
use Rattle.reader.proofs.TestedLaws.{within_told, scale_told, form_told, told_writable}
use Rattle.reader.proofs.TypesLaws.{song_typed}
use Rattle.reader.proofs.write.song_into.Goals as goal

pub sheet_into-requires : goal.sheet_into-requires
sheet_into-requires c =
    let v = c.args.v in
    let t = (song_typed v _ c.well_formed.0).shape in
    let w = within_told v c.requires in
    let f = form_told v.form w.2 in
    record {
      writable = told_writable v.edition v.score w.0 t.lead.size t.keys.size t.hits.size t.bass.size;
      chorded = t.chords.each;
      capacities = ((scale_told v.scale w.1).1, (song_bars v.form f.0 f.1 f.2).most);
    }
