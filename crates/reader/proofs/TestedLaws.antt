-- The other way round: what the tests of a value say of it, one by one. Assumes nothing.
use mathlib.Core.Path.{◌≡◌, refl, sym, ap, ◌∙◌, subst}
use mathlib.Core.Bool.{Bool, true, false, ◌&&◌, ◌||◌}
use mathlib.Core.List.{List}
use Prim.Native.Nat.{ℕ, ◌≤◌, ◌<◌}
use native.Mathlib.Omega.{arith}
use borrow.Author.Tests.{eqb-true, leb-true, ltb-true, le-ltb}
use lib.Dec.{T, eqb, leb, ltb}
use lib.Ieee.{Float, binary32, to_bits, of_bits}
use lib.Ieee.Bits.{of_bits-to_bits}
use lib.Ieee.Scale.{finite}
use lib.ListN.{length, get_or}
use Rattle.laws.proofs.Bools.{both}
use Rattle.composer.specs.Chord.{past_chord, no_chord}
use Rattle.composer.specs.Form.{parts_of}
use Rattle.composer.specs.Form.Plays.{bits_of, silent}
use Rattle.composer.specs.Note.{zero32, no_note, past_note, no_hit, past_hit, role_number_of, kind_number_of}
use Rattle.composer.specs.Plain.{Fits32}
use Rattle.composer.specs.declared.chord.Chord.{Chord}
use Rattle.composer.specs.declared.form.Form.{Form}
use Rattle.composer.specs.declared.form.plays.Plays.{Plays}
use Rattle.composer.specs.declared.harmony.Scale.{Scale}
use Rattle.composer.specs.declared.note.DrumKind.{DrumKind}
use Rattle.composer.specs.declared.note.Hit.{Hit}
use Rattle.composer.specs.declared.note.Note.{Note}
use Rattle.composer.specs.declared.note.NoteRole.{NoteRole}
use Rattle.composer.specs.declared.score.Score.{Score}
use Rattle.pages.specs.Writable.{FiniteNote, FiniteHit, Writable}
use Rattle.pages.specs.declared.edition.Edition.{Edition}
use Rattle.reader.specs.Cleared.{is_zero, note_zero, hit_zero, notes_zero, hits_zero, scale_zero, plays_zero, score_zero, cleared}
use Rattle.reader.specs.Codes.{plays_coded}
use Rattle.reader.specs.Promise.{ValueTells}
use Rattle.reader.specs.Tests.{all_to}
use Rattle.reader.specs.Value.{valid, TypedNote, TypedHit, TypedLane, Shaped, Typed, Padded, Any, RoleIn, NoteIn, HitIn, ChordIn, Value}
use Rattle.reader.specs.Within.{role_within, note_within, hit_within, notes_within, hits_within, chord_within, chords_within, scale_within, form_within, score_within, within}
use Rattle.reader.specs.declared.song.Song.{Song}
use Rattle.reader.proofs.BarsLaws.{song_bars}
use Rattle.reader.proofs.SongLaws.{plays_back}
use Rattle.reader.proofs.TestLaws.{all_to_at}
use Rattle.reader.proofs.ValueLaws.{value_valid}

yes : (t : Bool) → t ≡ true → T t
yes t e = subst T (sym e) tt

-- ---- an event in range
backing_is : (r : NoteRole) → eqb (role_number_of r) 6 ≡ true → r ≡ NoteRole.Backing
backing_is NoteRole.Quote e = absurd (let z : ◌≡◌ {A = ℕ} 0 1 = cc in omega arith)
backing_is NoteRole.Close e = absurd (let z : ◌≡◌ {A = ℕ} 0 1 = cc in omega arith)
backing_is NoteRole.Peak e = absurd (let z : ◌≡◌ {A = ℕ} 0 1 = cc in omega arith)
backing_is NoteRole.Resolve e = absurd (let z : ◌≡◌ {A = ℕ} 0 1 = cc in omega arith)
backing_is NoteRole.ChordTone e = absurd (let z : ◌≡◌ {A = ℕ} 0 1 = cc in omega arith)
backing_is NoteRole.Passing e = absurd (let z : ◌≡◌ {A = ℕ} 0 1 = cc in omega arith)
backing_is NoteRole.Backing e = refl

role_told : (edition : Edition) (leads : Bool) (n : Note) → role_within edition leads n.role ≡ true → RoleIn edition leads n
unfolding role_within
role_told Edition.One leads n e = backing_is n.role e
role_told Edition.Two true n e = ltb-true (role_number_of n.role) 6 e
role_told Edition.Two false n e = backing_is n.role e

pub note_told : (edition : Edition) (leads : Bool) (n : Note) → note_within edition leads n ≡ true → (n.bar < 8) × (n.midi ≤ 127) × (n.spare ≡ 0) × FiniteNote n × RoleIn edition leads n
unfolding note_within
note_told edition leads n e =
    let role = role_within edition leads n.role in
    let a = both (ltb n.bar 8 && leb n.midi 127 && role && eqb n.spare 0 && finite n.at && finite n.vel) (finite n.dur) e in
    let b = both (ltb n.bar 8 && leb n.midi 127 && role && eqb n.spare 0 && finite n.at) (finite n.vel) a.0 in
    let c = both (ltb n.bar 8 && leb n.midi 127 && role && eqb n.spare 0) (finite n.at) b.0 in
    let d = both (ltb n.bar 8 && leb n.midi 127 && role) (eqb n.spare 0) c.0 in
    let r = both (ltb n.bar 8 && leb n.midi 127) role d.0 in
    let f = both (ltb n.bar 8) (leb n.midi 127) r.0 in
    let numbers : FiniteNote n = record { at = yes (finite n.at) c.1; vel = yes (finite n.vel) b.1; dur = yes (finite n.dur) a.1 } in
    (ltb-true n.bar 8 f.0, leb-true n.midi 127 f.1, eqb-true n.spare 0 d.1, numbers, role_told edition leads n r.1)

pub hit_told : (h : Hit) → hit_within h ≡ true → (h.bar < 8) × (h.spare ≡ 0) × FiniteHit h
unfolding hit_within
hit_told h e =
    let a = both (ltb h.bar 8 && eqb h.spare 0 && finite h.at) (finite h.gain) e in
    let b = both (ltb h.bar 8 && eqb h.spare 0) (finite h.at) a.0 in
    let c = both (ltb h.bar 8) (eqb h.spare 0) b.0 in
    let numbers : FiniteHit h = record { at = yes (finite h.at) b.1; gain = yes (finite h.gain) a.1 } in
    (ltb-true h.bar 8 c.0, eqb-true h.spare 0 c.1, numbers)

-- ---- a lane in range
pub notes_told : (edition : Edition) (leads : Bool) (xs : List Note) (cap n : ℕ) → notes_within edition leads xs cap n ≡ true → (n ≤ cap) × ((i : ℕ) → i < n → note_within edition leads (get_or xs i past_note) ≡ true)
unfolding notes_within
notes_told edition leads xs cap n e =
    let a = both (leb n cap) (all_to (λ i. note_within edition leads (get_or xs i past_note)) n) e in
    (leb-true n cap a.0, all_to_at (λ i. note_within edition leads (get_or xs i past_note)) n a.1)

pub hits_told : (xs : List Hit) (cap n : ℕ) → hits_within xs cap n ≡ true → (n ≤ cap) × ((i : ℕ) → i < n → hit_within (get_or xs i past_hit) ≡ true)
unfolding hits_within
hits_told xs cap n e =
    let a = both (leb n cap) (all_to (λ i. hit_within (get_or xs i past_hit)) n) e in
    (leb-true n cap a.0, all_to_at (λ i. hit_within (get_or xs i past_hit)) n a.1)

-- ---- a score, a scale and a form in range
pub record ScoreTold (edition : Edition) (s : Score) : Type 0 where
  pub bpm : finite s.bpm ≡ true
  pub chords : chords_within s.bar_chords ≡ true
  pub lead : notes_within edition true s.lead.at 56 s.lead.n ≡ true
  pub keys : notes_within edition false s.keys.at 128 s.keys.n ≡ true
  pub hits : hits_within s.hits.at 98 s.hits.n ≡ true
  pub bass : notes_within edition false s.bass.at 104 s.bass.n ≡ true

pub score_told : (edition : Edition) (s : Score) → score_within edition s ≡ true → ScoreTold edition s
unfolding score_within
score_told edition s ok =
    let lead = notes_within edition true s.lead.at 56 s.lead.n in
    let keys = notes_within edition false s.keys.at 128 s.keys.n in
    let hits = hits_within s.hits.at 98 s.hits.n in
    let a = both (finite s.bpm && chords_within s.bar_chords && lead && keys && hits) (notes_within edition false s.bass.at 104 s.bass.n) ok in
    let b = both (finite s.bpm && chords_within s.bar_chords && lead && keys) hits a.0 in
    let c = both (finite s.bpm && chords_within s.bar_chords && lead) keys b.0 in
    let d = both (finite s.bpm && chords_within s.bar_chords) lead c.0 in
    let e = both (finite s.bpm) (chords_within s.bar_chords) d.0 in
    record { bpm = e.0; chords = e.1; lead = d.1; keys = c.1; hits = b.1; bass = a.1 }

pub scale_told : (s : Scale) → scale_within s ≡ true → (5 ≤ s.n) × (s.n ≤ 6) × ((i : ℕ) → i < s.n → get_or s.pcs i 0 < 12)
unfolding scale_within
scale_told s ok =
    let a = both (leb 5 s.n && leb s.n 6) (all_to (λ i. ltb (get_or s.pcs i 0) 12) s.n) ok in
    let b = both (leb 5 s.n) (leb s.n 6) a.0 in
    let each : (i : ℕ) → i < s.n → get_or s.pcs i 0 < 12 = λ i h. ltb-true (get_or s.pcs i 0) 12 (all_to_at (λ k. ltb (get_or s.pcs k 0) 12) s.n a.1 i h) in
    (leb-true 5 s.n b.0, leb-true s.n 6 b.1, each)

pub form_told : (f : Form) → form_within f ≡ true → (4 ≤ f.phrases) × (f.phrases ≤ 6) × (parts_of f ≡ f.bars)
unfolding form_within
form_told f ok =
    let a = both (leb 4 f.phrases && leb f.phrases 6) (eqb (parts_of f) f.bars) ok in
    let b = both (leb 4 f.phrases) (leb f.phrases 6) a.0 in
    (leb-true 4 f.phrases b.0, leb-true f.phrases 6 b.1, eqb-true (parts_of f) f.bars a.1)

pub within_told : (v : Song) → within v ≡ true → (score_within v.edition v.score ≡ true) × (scale_within v.scale ≡ true) × (form_within v.form ≡ true)
unfolding within
within_told v ok =
    let a = both (score_within v.edition v.score && scale_within v.scale) (form_within v.form) ok in
    let b = both (score_within v.edition v.score) (scale_within v.scale) a.0 in
    (b.0, b.1, a.1)

-- ---- so it can be written
pub told_writable : (edition : Edition) (s : Score) → score_within edition s ≡ true → length s.lead.at ≡ 56 → length s.keys.at ≡ 128 → length s.hits.at ≡ 98 → length s.bass.at ≡ 104 → Writable s
told_writable edition s ok l k h b =
    let p = score_told edition s ok in
    let lead = notes_told edition true s.lead.at 56 s.lead.n p.lead in
    let keys = notes_told edition false s.keys.at 128 s.keys.n p.keys in
    let hits = hits_told s.hits.at 98 s.hits.n p.hits in
    let bass = notes_told edition false s.bass.at 104 s.bass.n p.bass in
    record {
      lanes = record {
        lead = record { size = l; few = lead.0 };
        keys = record { size = k; few = keys.0 };
        hits = record { size = h; few = hits.0 };
        bass = record { size = b; few = bass.0 };
      };
      numbers = record {
        bpm = yes (finite s.bpm) p.bpm;
        lead = λ i z. (note_told edition true (get_or s.lead.at i past_note) (lead.1 i z)).3;
        keys = λ i z. (note_told edition false (get_or s.keys.at i past_note) (keys.1 i z)).3;
        hits = λ i z. (hit_told (get_or s.hits.at i past_hit) (hits.1 i z)).2;
        bass = λ i z. (note_told edition false (get_or s.bass.at i past_note) (bass.1 i z)).3;
      };
    }

-- ---- unused entries
zero_is : (x : Float) → Fits32 x → is_zero x ≡ true → x ≡ zero32
zero_is x h e = sym (of_bits-to_bits binary32 x h) ∙ ap (of_bits binary32) (eqb-true (to_bits binary32 x) 0 e)

note_alike : (a a' b b' c c' : ℕ) (r r' : NoteRole) (d d' e e' f f' : Float) → a ≡ a' → b ≡ b' → r ≡ r' → c ≡ c' → d ≡ d' → e ≡ e' → f ≡ f'
    → ◌≡◌ {A = Note} (record { bar = a; midi = b; role = r; spare = c; at = d; vel = e; dur = f }) (record { bar = a'; midi = b'; role = r'; spare = c'; at = d'; vel = e'; dur = f' })
note_alike a a' b b' c c' r r' d d' e e' f f' p q k s t u w = rw (p, q, k, s, t, u, w)

quote_is : (r : NoteRole) → eqb (role_number_of r) 0 ≡ true → r ≡ NoteRole.Quote
quote_is NoteRole.Quote e = refl
quote_is NoteRole.Close e = absurd (let z : ◌≡◌ {A = ℕ} 0 1 = cc in omega arith)
quote_is NoteRole.Peak e = absurd (let z : ◌≡◌ {A = ℕ} 0 1 = cc in omega arith)
quote_is NoteRole.Resolve e = absurd (let z : ◌≡◌ {A = ℕ} 0 1 = cc in omega arith)
quote_is NoteRole.ChordTone e = absurd (let z : ◌≡◌ {A = ℕ} 0 1 = cc in omega arith)
quote_is NoteRole.Passing e = absurd (let z : ◌≡◌ {A = ℕ} 0 1 = cc in omega arith)
quote_is NoteRole.Backing e = absurd (let z : ◌≡◌ {A = ℕ} 0 1 = cc in omega arith)

note_blank : (n : Note) → TypedNote n → note_zero n ≡ true → n ≡ no_note
unfolding note_zero
note_blank n t e =
    let role = eqb (role_number_of n.role) 0 in
    let a = both (eqb n.bar 0 && eqb n.midi 0 && role && eqb n.spare 0 && is_zero n.at && is_zero n.vel) (is_zero n.dur) e in
    let b = both (eqb n.bar 0 && eqb n.midi 0 && role && eqb n.spare 0 && is_zero n.at) (is_zero n.vel) a.0 in
    let c = both (eqb n.bar 0 && eqb n.midi 0 && role && eqb n.spare 0) (is_zero n.at) b.0 in
    let d = both (eqb n.bar 0 && eqb n.midi 0 && role) (eqb n.spare 0) c.0 in
    let r = both (eqb n.bar 0 && eqb n.midi 0) role d.0 in
    let f = both (eqb n.bar 0) (eqb n.midi 0) r.0 in
    note_alike n.bar 0 n.midi 0 n.spare 0 n.role NoteRole.Quote n.at zero32 n.vel zero32 n.dur zero32 (eqb-true n.bar 0 f.0) (eqb-true n.midi 0 f.1)
    (quote_is n.role r.1) (eqb-true n.spare 0 d.1) (zero_is n.at t.at c.1) (zero_is n.vel t.vel b.1) (zero_is n.dur t.dur a.1)

kick_is : (k : DrumKind) → eqb (kind_number_of k) 0 ≡ true → k ≡ DrumKind.Kick
kick_is DrumKind.Kick e = refl
kick_is DrumKind.Snare e = absurd (let z : ◌≡◌ {A = ℕ} 0 1 = cc in omega arith)
kick_is DrumKind.Hat e = absurd (let z : ◌≡◌ {A = ℕ} 0 1 = cc in omega arith)
kick_is DrumKind.OpenHat e = absurd (let z : ◌≡◌ {A = ℕ} 0 1 = cc in omega arith)

hit_alike : (a a' c c' : ℕ) (k k' : DrumKind) (d d' e e' : Float) → a ≡ a' → c ≡ c' → k ≡ k' → d ≡ d' → e ≡ e'
    → ◌≡◌ {A = Hit} (record { bar = a; kind = k; spare = c; at = d; gain = e }) (record { bar = a'; kind = k'; spare = c'; at = d'; gain = e' })
hit_alike a a' c c' k k' d d' e e' p q r s t = rw (p, q, r, s, t)

hit_blank : (h : Hit) → TypedHit h → hit_zero h ≡ true → h ≡ no_hit
unfolding hit_zero
hit_blank h t e =
    let a = both (eqb h.bar 0 && eqb (kind_number_of h.kind) 0 && eqb h.spare 0 && is_zero h.at) (is_zero h.gain) e in
    let b = both (eqb h.bar 0 && eqb (kind_number_of h.kind) 0 && eqb h.spare 0) (is_zero h.at) a.0 in
    let c = both (eqb h.bar 0 && eqb (kind_number_of h.kind) 0) (eqb h.spare 0) b.0 in
    let d = both (eqb h.bar 0) (eqb (kind_number_of h.kind) 0) c.0 in
    hit_alike h.bar 0 h.spare 0 h.kind DrumKind.Kick h.at zero32 h.gain zero32 (eqb-true h.bar 0 d.0) (eqb-true h.spare 0 c.1)
    (kick_is h.kind d.1) (zero_is h.at t.at b.1) (zero_is h.gain t.gain a.1)

plays_blank : (p : Plays) → eqb (bits_of p) 0 ≡ true → p ≡ silent
unfolding plays_coded
plays_blank p e = sym (plays_back p) ∙ ap plays_coded (eqb-true (bits_of p) 0 e)

-- an entry past the first n passes the second test
past : {A : Type 0} (d : A) (xs : List A) (cap n : ℕ) (zero : A → Bool) → all_to (λ i. ltb i n || zero (get_or xs i d)) cap ≡ true → (i : ℕ) → n ≤ i → i < cap → zero (get_or xs i d) ≡ true
past d xs cap n zero e i h k = ap (λ (t : Bool). t || zero (get_or xs i d)) (sym (le-ltb i n h)) ∙ all_to_at (λ j. ltb j n || zero (get_or xs j d)) cap e i k

-- ---- whole lanes
notes_padded : (edition : Edition) (leads : Bool) (xs : List Note) (cap n : ℕ) → TypedLane TypedNote past_note cap xs → notes_within edition leads xs cap n ≡ true → notes_zero xs cap n ≡ true → Padded (NoteIn edition leads) past_note no_note cap xs n
unfolding notes_zero
notes_padded edition leads xs cap n t ok zero =
    let used = notes_told edition leads xs cap n ok in
    record {
      size = t.size;
      few = used.0;
      used = λ i h.
          let x = note_told edition leads (get_or xs i past_note) (used.1 i h) in
          record { bar = x.0; midi = x.1; role = x.4; spare = x.2; numbers = x.3; typed = t.each i (omega (arith, used.0)) };
      rest = λ i h k. note_blank (get_or xs i past_note) (t.each i k) (past past_note xs cap n note_zero zero i h k);
    }

hits_padded : (xs : List Hit) (cap n : ℕ) → TypedLane TypedHit past_hit cap xs → hits_within xs cap n ≡ true → hits_zero xs cap n ≡ true → Padded HitIn past_hit no_hit cap xs n
unfolding hits_zero
hits_padded xs cap n t ok zero =
    let used = hits_told xs cap n ok in
    record {
      size = t.size;
      few = used.0;
      used = λ i h.
          let x = hit_told (get_or xs i past_hit) (used.1 i h) in
          record { bar = x.0; spare = x.1; numbers = x.2; typed = t.each i (omega (arith, used.0)) };
      rest = λ i h k. hit_blank (get_or xs i past_hit) (t.each i k) (past past_hit xs cap n hit_zero zero i h k);
    }

chords_padded : (cs : List Chord) → TypedLane (λ c. length c.notes ≡ 4) past_chord 8 cs → chords_within cs ≡ true → Padded ChordIn past_chord no_chord 8 cs 8
unfolding chords_within chord_within
chords_padded cs t ok = record {
  size = t.size;
  few = omega arith;
  used = λ b h. record {
    size = t.each b h;
    notes = λ k j. leb-true (get_or (get_or cs b past_chord).notes k 0) 127
        (all_to_at (λ k. leb (get_or (get_or cs b past_chord).notes k 0) 127) 4 (all_to_at (λ b. chord_within (get_or cs b past_chord)) 8 ok b h) k j);
  };
  rest = λ b h k. absurd (omega arith);
}

-- ---- the whole
pub valid_told : (v : Song) → valid v ≡ true → (within v ≡ true) × (cleared v ≡ true)
unfolding valid
valid_told v ok = both (within v) (cleared v) ok

cleared_told : (v : Song) → cleared v ≡ true → (score_zero v.score ≡ true) × (scale_zero v.scale ≡ true) × (plays_zero v.form ≡ true)
unfolding cleared
cleared_told v ok =
    let a = both (score_zero v.score && scale_zero v.scale) (plays_zero v.form) ok in
    let b = both (score_zero v.score) (scale_zero v.scale) a.0 in
    (b.0, b.1, a.1)

lanes_told : (s : Score) → score_zero s ≡ true
    → (notes_zero s.lead.at 56 s.lead.n ≡ true) × (notes_zero s.keys.at 128 s.keys.n ≡ true)
    × (hits_zero s.hits.at 98 s.hits.n ≡ true) × (notes_zero s.bass.at 104 s.bass.n ≡ true)
unfolding score_zero
lanes_told s ok =
    let lead = notes_zero s.lead.at 56 s.lead.n in
    let keys = notes_zero s.keys.at 128 s.keys.n in
    let hits = hits_zero s.hits.at 98 s.hits.n in
    let a = both (lead && keys && hits) (notes_zero s.bass.at 104 s.bass.n) ok in
    let b = both (lead && keys) hits a.0 in
    let c = both lead keys b.0 in
    (c.0, c.1, b.1, a.1)

scale_padded : (s : Scale) → length s.pcs ≡ 6 → scale_within s ≡ true → scale_zero s ≡ true → Padded (λ c. c < 12) 0 0 6 s.pcs s.n
unfolding scale_zero
scale_padded s size ok zero =
    let x = scale_told s ok in
    record { size = size; few = x.1; used = x.2; rest = λ i h k. eqb-true (get_or s.pcs i 0) 0 (past 0 s.pcs 6 s.n (λ c. eqb c 0) zero i h k) }

plays_padded : (f : Form) → length f.plays ≡ 64 → f.bars ≤ 64 → plays_zero f ≡ true → Padded Any silent silent 64 f.plays f.bars
unfolding plays_zero
plays_padded f size few zero = record {
  size = size;
  few = few;
  used = λ i h. tt;
  rest = λ i h k. plays_blank (get_or f.plays i silent) (past silent f.plays 64 f.bars (λ p. eqb (bits_of p) 0) zero i h k);
}

pub tested_value : (v : Song) → Shaped v → valid v ≡ true → Value v
tested_value v t ok =
    let a = valid_told v ok in
    let w = within_told v a.0 in
    let z = cleared_told v a.1 in
    let s = score_told v.edition v.score w.0 in
    let l = lanes_told v.score z.0 in
    let f = form_told v.form w.2 in
    record {
      bpm = yes (finite v.score.bpm) s.bpm;
      bpm_fits = t.bpm;
      chords = chords_padded v.score.bar_chords t.chords s.chords;
      lead = notes_padded v.edition true v.score.lead.at 56 v.score.lead.n t.lead s.lead l.0;
      keys = notes_padded v.edition false v.score.keys.at 128 v.score.keys.n t.keys s.keys l.1;
      hits = hits_padded v.score.hits.at 98 v.score.hits.n t.hits s.hits l.2;
      bass = notes_padded v.edition false v.score.bass.at 104 v.score.bass.n t.bass s.bass l.3;
      classes = scale_padded v.scale t.pcs w.1 z.1;
      classes_least = (scale_told v.scale w.1).0;
      phrases = (f.0, f.1);
      parts = f.2;
      plays = plays_padded v.form t.plays (song_bars v.form f.0 f.1 f.2).most z.2;
    }

-- and so the tests say no more and no less
pub value_tells : (v : Song) → Typed v → ValueTells v
value_tells v t = record { facts = tested_value v t.shape; tests = value_valid v }
