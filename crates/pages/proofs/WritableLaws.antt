-- A score whose lanes are in order and whose floats are plain numbers can be written, as a sheet
-- and page by page. Assumes nothing.
use Rattle.laws.proofs.Bounds.{nonneg_finite}
use Rattle.composer.specs.Plain.{PlainNote, PlainHit, PlainPromise}
use Rattle.composer.specs.Promise.{LanesPromise, EventsPromise}
use Rattle.composer.specs.declared.note.Hit.{Hit}
use Rattle.composer.specs.declared.note.Note.{Note}
use Rattle.composer.specs.declared.score.Score.{Score}
use Rattle.pages.specs.Writable.{SizedLanes, FiniteNote, FiniteHit, FiniteEvents, Writable, Paged}

finite_note : (x : Note) → PlainNote x → FiniteNote x
finite_note x p = record { at = nonneg_finite x.at p.at.ok; vel = nonneg_finite x.vel p.vel.ok; dur = nonneg_finite x.dur p.dur.ok }

finite_hit : (x : Hit) → PlainHit x → FiniteHit x
finite_hit x p = record { at = nonneg_finite x.at p.at.ok; gain = nonneg_finite x.gain p.gain.ok }

finite_events : (s : Score) → PlainPromise s → FiniteEvents s
finite_events s p = record {
  bpm = nonneg_finite s.bpm p.bpm.ok;
  lead = λ i h. finite_note _ (p.lead i h);
  keys = λ i h. finite_note _ (p.keys i h);
  hits = λ i h. finite_hit _ (p.hits i h);
  bass = λ i h. finite_note _ (p.bass i h);
}

pub sized : (s : Score) → LanesPromise s → SizedLanes s
sized s p = record {
  lead = record { size = p.lead.size; few = p.lead.few };
  keys = record { size = p.keys.size; few = p.keys.few };
  hits = record { size = p.hits.size; few = p.hits.few };
  bass = record { size = p.bass.size; few = p.bass.few };
}

pub writable : (s : Score) → EventsPromise s → Writable s
writable s p = record { lanes = sized s p.lanes; numbers = finite_events s p.plain }

pub paged : (s : Score) → EventsPromise s → Paged s
paged s p = record { lanes = p.lanes; writable = writable s p }
