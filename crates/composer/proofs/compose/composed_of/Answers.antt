-- Each call is its definition, and every harmony drawn has a key and its chords. Assumes nothing.
use Rattle.composer.specs.Compose.{song_by}
use Rattle.composer.proofs.ComposeLaws.{composed_by}
use Rattle.composer.proofs.HarmonyLaws.{harmony_tonal}
use Rattle.composer.proofs.compose.composed_of.Goals as goal

pub lead-ld-requires : goal.lead-ld-requires
lead-ld-requires c = rw c.harmony_of-hd.ensures (harmony_tonal c.stream-hs.result c.args.style)

pub keys-kd-requires : goal.keys-kd-requires
keys-kd-requires c = rw c.harmony_of-hd.ensures (harmony_tonal c.stream-hs.result c.args.style)

pub bass-bd-requires : goal.bass-bd-requires
bass-bd-requires c = rw c.harmony_of-hd.ensures (harmony_tonal c.stream-hs.result c.args.style)

pub returns : goal.returns
unfolding song_by
returns c =
    composed_by c.args.style c.args.seed
    c.stream-hs.ensures c.harmony_of-hd.ensures
    c.stream-ts.ensures c.tempo-td.ensures c.beat_s_of-beat_s.ensures
    c.stream-ls.ensures c.lead-ld.ensures
    c.stream-ks.ensures c.keys-kd.ensures
    c.stream-ds.ensures c.drums-dd.ensures
    c.stream-bs.ensures c.bass-bd.ensures
    c.stream-vs.ensures c.lead_voice-vd.ensures
