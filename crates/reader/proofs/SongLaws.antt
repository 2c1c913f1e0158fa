-- What is written is read back: of a song whose unused entries are zero, the song. Assumes nothing.
use mathlib.Core.Path.{◌≡◌, refl, sym, ap, ◌∙◌}
use mathlib.Core.Bool.{Bool, true, false, cond}
use mathlib.Core.List.{List, [], ◌∷◌, ◌++◌, map, append_assoc, append-nil}
use Prim.Native.Nat.{ℕ, ◌+◌, ◌*◌, ◌/◌, ◌≤◌}
use native.Mathlib.Omega.{arith}
use lib.Dec.{eqb}
use lib.ListN.{length, get_or, take, length-map, get_or-map}
use lib.Seq.{length-take-le, take_all}
use Rattle.laws.specs.Lists.{list_to, pad, joined}
use Rattle.laws.specs.Sorts.{All}
use Rattle.laws.proofs.Joins.{length_joined}
use Rattle.laws.proofs.Sorts.{all_map, all_sub}
use Rattle.composer.specs.Chord.{no_chord}
use Rattle.composer.specs.Compose.{style_by}
use Rattle.composer.specs.Form.{intro_bars_of, outro_bars_of}
use Rattle.composer.specs.Form.Ends.{end_code_of, end_bars_of, outro_code_of, outro_length_of}
use Rattle.composer.specs.Form.Plays.{bits_of, silent}
use Rattle.composer.specs.Harmony.{notes_of}
use Rattle.composer.specs.Harmony.{notes_in as chordNotes}
use Rattle.composer.specs.Lead.Scale.{pcs_of}
use Rattle.composer.specs.Note.{no_note, no_hit}
use Rattle.composer.specs.Plain.{Fits32}
use Rattle.composer.specs.Style.{style_number_of}
use Rattle.composer.specs.Voice.{voice_number_of}
use Rattle.composer.specs.declared.chord.Chord.{Chord}
use Rattle.composer.specs.declared.form.ends.Bars.{Bars}
use Rattle.composer.specs.declared.form.ends.Edge.{Edge}
use Rattle.composer.specs.declared.form.ends.End.{End}
use Rattle.composer.specs.declared.form.ends.Outro.{Outro}
use Rattle.composer.specs.declared.form.plays.Plays.{Plays}
use Rattle.composer.specs.declared.style.Style.{Style}
use Rattle.composer.specs.declared.voice.LeadVoice.{LeadVoice}
use Rattle.pages.specs.Bytes.{byte_at, be64, be64_at, f32_bytes, f32_at, field}
use Rattle.pages.specs.Edition.{note_width, edition_field}
use Rattle.pages.specs.Lane.{note_bytes, hit_bytes, events_of}
use Rattle.pages.specs.Sheet.{song_bytes, lanes_bytes, form_bytes, plays_bytes, sheet_bytes}
use Rattle.pages.specs.declared.edition.Edition.{Edition}
use Rattle.pages.specs.declared.lane.Lane.{Lane}
use Rattle.pages.proofs.BytesLaws.{be64_back}
use Rattle.pages.proofs.LaneLaws.{note_width_lem, hit_width}
use Rattle.reader.specs.Layout.{edition_in, body_at, size_at}
use Rattle.reader.specs.Codes.{voice_coded, end_coded, outro_coded, plays_coded}
use Rattle.reader.specs.Song.{note_at, hit_at, notes_at, hits_at, chord_from, chords_from, scale_at, note_count_in, hit_count_in, score_in, plays_from, form_in, song_in, sheet_of}
use Rattle.reader.specs.Value.{Any}
use Rattle.reader.specs.declared.song.Song.{Song}
use Rattle.reader.proofs.EventLaws.{StoredNote, StoredHit, note_shifts, hit_shifts, note_back, hit_back, entries_back, bytes_back}
use Rattle.reader.proofs.LayoutLaws.{Stands, size_is, read_body, read_first, edition_told, stands_first, stands_next}
use Rattle.reader.proofs.NumberLaws.{Shifts, byte_shifts, be64_shifts, f32_shifts, f32_back}

-- ---- what it takes
-- an array of `cap` entries of which the first n are in use, each as P says, and the others are z
pub record Kept {A : Type 0} (P : A → Type 0) (z : A) (cap : ℕ) (xs : List A) (n : ℕ) : Type 0 where
  pub size : length xs ≡ cap
  pub few : n ≤ cap
  pub plain : All P (take n xs)
  pub rest : pad z cap (take n xs) ≡ xs

pub record StoredChord (c : Chord) : Type 0 where
  pub four : length c.notes ≡ 4

pub record StoredSong (v : Song) : Type 0 where
  pub bpm : Fits32 v.score.bpm
  pub chords : Kept StoredChord no_chord 8 v.score.bar_chords 8
  pub lead : Kept (StoredNote v.edition true) no_note 56 v.score.lead.at v.score.lead.n
  pub keys : Kept (StoredNote v.edition false) no_note 128 v.score.keys.at v.score.keys.n
  pub hits : Kept StoredHit no_hit 98 v.score.hits.at v.score.hits.n
  pub bass : Kept (StoredNote v.edition false) no_note 104 v.score.bass.at v.score.bass.n
  pub scale : Kept Any 0 6 v.scale.pcs v.scale.n
  pub plays : Kept Any silent 64 v.form.plays v.form.bars

-- ---- codes
style_back : (s : Style) → style_by (style_number_of s) ≡ s
style_back Style.Hiphop = refl
style_back Style.Sleep = refl

voice_back : (v : LeadVoice) → voice_coded (voice_number_of v) ≡ v
voice_back LeadVoice.EpVel = refl
voice_back LeadVoice.Pluck = refl
voice_back LeadVoice.Kalimba = refl
voice_back LeadVoice.Vibraphone = refl

end_back : (e : End) → end_coded (end_code_of e) (end_bars_of e) ≡ e
unfolding end_coded
end_back End.Cold = refl
end_back (End.Plain Bars.Four) = refl
end_back (End.Plain Bars.Eight) = refl
end_back (End.Edged Bars.Four Edge.Fade) = refl
end_back (End.Edged Bars.Four Edge.Filter) = refl
end_back (End.Edged Bars.Eight Edge.Fade) = refl
end_back (End.Edged Bars.Eight Edge.Filter) = refl

not_four : (e : End) → eqb (end_code_of e) 4 ≡ false
not_four End.Cold = refl
not_four (End.Plain n) = refl
not_four (End.Edged n Edge.Fade) = refl
not_four (End.Edged n Edge.Filter) = refl

outro_back : (o : Outro) → outro_coded (outro_code_of o) (outro_length_of o) ≡ o
unfolding outro_coded
outro_back (Outro.Ends e) = rw (not_four e, end_back e)
outro_back Outro.RingOut = refl

dip_back : (d : Bool) → eqb (cond d 1 0) 1 ≡ d
dip_back true = refl
dip_back false = refl

plays_coded_lem : (a b c d : Bool) → plays_coded (bits_of (record { pad = a; keys = b; drums = c; bass = d })) ≡ record { pad = a; keys = b; drums = c; bass = d }
unfolding plays_coded
plays_coded_lem true true true true = refl
plays_coded_lem true true true false = refl
plays_coded_lem true true false true = refl
plays_coded_lem true true false false = refl
plays_coded_lem true false true true = refl
plays_coded_lem true false true false = refl
plays_coded_lem true false false true = refl
plays_coded_lem true false false false = refl
plays_coded_lem false true true true = refl
plays_coded_lem false true true false = refl
plays_coded_lem false true false true = refl
plays_coded_lem false true false false = refl
plays_coded_lem false false true true = refl
plays_coded_lem false false true false = refl
plays_coded_lem false false false true = refl
plays_coded_lem false false false false = refl

pub plays_back : (p : Plays) → plays_coded (bits_of p) ≡ p
plays_back p = plays_coded_lem p.pad p.keys p.drums p.bass

-- ---- chords
chord_shifts : Shifts chord_from
unfolding chord_from
chord_shifts xs ys k = rw (byte_shifts xs ys k, at 1, at 2, at 3)
  where
    at : (j : ℕ) → byte_at (xs ++ ys) (length xs + k + j) ≡ byte_at ys (k + j)
    at j =
        let e : length xs + k + j ≡ length xs + (k + j) = omega arith in
        ap (byte_at (xs ++ ys)) e ∙ byte_shifts xs ys (k + j)

chord_of : (xs rest : List ℕ) → length xs ≡ 4 → chord_from (xs ++ rest) 0 ≡ record { notes = xs }
unfolding chord_from
chord_of [] rest h = absurd (omega arith)
chord_of (a ∷ []) rest h = absurd (omega arith)
chord_of (a ∷ b ∷ []) rest h = absurd (omega arith)
chord_of (a ∷ b ∷ c ∷ []) rest h = absurd (omega arith)
chord_of (a ∷ b ∷ c ∷ d ∷ []) rest h = refl
chord_of (a ∷ b ∷ c ∷ d ∷ x ∷ xs) rest h = absurd (omega arith)

chord_back : (c : Chord) (rest : List ℕ) → StoredChord c → chord_from (c.notes ++ rest) 0 ≡ c
chord_back c rest p = chord_of c.notes rest p.four

-- ---- a lane
module _ {A : Type 0} (w : ℕ) (f : List ℕ → ℕ → A) (g : A → List ℕ) (P : A → Type 0)
    (wide : (x : A) → P x → length (g x) ≡ w) (shifts : Shifts f) (back : (x : A) (rest : List ℕ) → P x → f (g x ++ rest) 0 ≡ x)
    (z : A) (cap : ℕ) (xs : List A) (n : ℕ) (p : Kept P z cap xs n) {bytes : List ℕ} {k tag : ℕ} {post : List ℕ} (s : Stands bytes k tag (joined (map g (take n xs))) post) where
  taken : length (take n xs) ≡ n
  taken = length-take-le n xs (omega (arith, p.size, p.few))

  pub lane_size_lem : size_at bytes k ≡ w * n
  lane_size_lem =
      size_is s ∙ length_joined w (map g (take n xs)) (all_map g (λ e. length e ≡ w) (take n xs) (all_sub P (λ x. length (g x) ≡ w) wide (take n xs) p.plain))
      ∙ ap (λ (m : ℕ). w * m) (length-map (take n xs) g ∙ taken)

  lane_list : list_to (λ i. f bytes (body_at bytes k + w * i)) n ≡ take n xs
  lane_list =
      ap (list_to (λ i. f bytes (body_at bytes k + w * i))) (sym taken)
      ∙ entries_back w f g P wide shifts back bytes (body_at bytes k) (take n xs) post z p.plain (read_body s f shifts)

  pub lane_back : (m : ℕ) → m ≡ n → pad z cap (list_to (λ i. f bytes (body_at bytes k + w * i)) m) ≡ xs
  lane_back m e = rw e (ap (pad z cap) lane_list ∙ p.rest)

-- ---- the fields of a sheet
module _ (v : Song) where
  abbrev name : List ℕ
  name = style_number_of v.score.style ∷ (be64 v.seed ++ (voice_number_of v.score.lead_voice ∷ []))

  abbrev ends : List ℕ
  ends =
      end_code_of v.form.intro ∷ intro_bars_of v.form ∷ v.form.phrases ∷ outro_code_of v.form.outro ∷ outro_bars_of v.form ∷ cond v.form.dip 1 0 ∷ []

  -- the fields from each one on
  abbrev from9 : List ℕ
  from9 = field 10 (plays_bytes v.form) ++ []

  abbrev from8 : List ℕ
  from8 = field 9 ends ++ from9

  abbrev pub from7 : List ℕ
  from7 = field 8 (joined (events_of v.edition v.score Lane.Bass)) ++ from8

  abbrev from6 : List ℕ
  from6 = field 7 (joined (events_of v.edition v.score Lane.Hits)) ++ from7

  abbrev from5 : List ℕ
  from5 = field 6 (joined (events_of v.edition v.score Lane.Keys)) ++ from6

  abbrev from4 : List ℕ
  from4 = field 5 (joined (events_of v.edition v.score Lane.Lead)) ++ from5

  abbrev from3 : List ℕ
  from3 = field 4 (pcs_of v.scale) ++ from4

  abbrev from2 : List ℕ
  from2 = field 3 (joined (notes_of v.score.bar_chords)) ++ from3

  abbrev from1 : List ℕ
  from1 = field 2 (f32_bytes v.score.bpm) ++ from2

  -- the ten, and the edition's own before them
  abbrev pub the_ten : List ℕ
  the_ten = field 1 name ++ from1

  abbrev pub fields : List ℕ
  fields = edition_field v.edition ++ the_ten

  pub edition_read : edition_in fields ≡ v.edition
  edition_read = edition_told v.edition name from1

  pub as_fields : sheet_of v ≡ fields
  unfolding sheet_bytes song_bytes lanes_bytes form_bytes
  as_fields = simp (append_assoc, append-nil)

  pub name_stands : Stands fields 0 1 name from1
  name_stands = stands_first v.edition name from1

  pub tempo_stands : Stands fields 1 2 (f32_bytes v.score.bpm) from2
  tempo_stands = stands_next name_stands

  pub chords_stand : Stands fields 2 3 (joined (notes_of v.score.bar_chords)) from3
  chords_stand = stands_next tempo_stands

  pub scale_stands : Stands fields 3 4 (pcs_of v.scale) from4
  scale_stands = stands_next chords_stand

  pub lead_stands : Stands fields 4 5 (joined (events_of v.edition v.score Lane.Lead)) from5
  lead_stands = stands_next scale_stands

  pub keys_stand : Stands fields 5 6 (joined (events_of v.edition v.score Lane.Keys)) from6
  keys_stand = stands_next lead_stands

  pub hits_stand : Stands fields 6 7 (joined (events_of v.edition v.score Lane.Hits)) from7
  hits_stand = stands_next keys_stand

  pub bass_stands : Stands fields 7 8 (joined (events_of v.edition v.score Lane.Bass)) from8
  bass_stands = stands_next hits_stand

  pub ends_stand : Stands fields 8 9 ends from9
  ends_stand = stands_next bass_stands

  pub plays_stand : Stands fields 9 10 (plays_bytes v.form) []
  plays_stand = stands_next ends_stand

-- as many notes as were written
count_back : (edition : Edition) (n : ℕ) → note_width edition * n / note_width edition ≡ n
count_back Edition.One n = omega arith
count_back Edition.Two n = omega arith

-- ---- read back, field by field
module _ (v : Song) (p : StoredSong v) where
  abbrev bytes : List ℕ
  bytes = fields v

  abbrev e : Edition
  e = v.edition

  style_read : style_by (byte_at bytes (body_at bytes 0)) ≡ v.score.style
  style_read = ap style_by (read_first (name_stands v) byte_at byte_shifts) ∙ style_back v.score.style

  seed_read : be64_at bytes (body_at bytes 0 + 1) ≡ v.seed
  seed_read = read_body (name_stands v) be64_at be64_shifts 1 ∙ be64_back v.seed (voice_number_of v.score.lead_voice ∷ from1 v)

  voice_read : voice_coded (byte_at bytes (body_at bytes 0 + 9)) ≡ v.score.lead_voice
  voice_read = ap voice_coded (read_body (name_stands v) byte_at byte_shifts 9) ∙ voice_back v.score.lead_voice

  tempo_read : f32_at bytes (body_at bytes 1) ≡ v.score.bpm
  tempo_read = read_first (tempo_stands v) f32_at f32_shifts ∙ f32_back v.score.bpm (from2 v) p.bpm

  chords_all : take 8 v.score.bar_chords ≡ v.score.bar_chords
  chords_all = take_all 8 v.score.bar_chords (omega (arith, p.chords.size))

  eight_stand : Stands bytes 2 3 (joined (map chordNotes (take 8 v.score.bar_chords))) (from3 v)
  eight_stand = rw chords_all (chords_stand v)

  pub chords_size : size_at bytes 2 ≡ 32
  chords_size = lane_size_lem 4 chord_from chordNotes StoredChord (λ c q. q.four) chord_shifts chord_back no_chord 8 v.score.bar_chords 8 p.chords eight_stand

  chords_read : chords_from bytes (body_at bytes 2) ≡ v.score.bar_chords
  chords_read = lane_list 4 chord_from chordNotes StoredChord (λ c q. q.four) chord_shifts chord_back no_chord 8 v.score.bar_chords 8 p.chords eight_stand ∙ chords_all

  pub scale_size : size_at bytes 3 ≡ v.scale.n
  scale_size = size_is (scale_stands v) ∙ length-take-le v.scale.n v.scale.pcs (omega (arith, p.scale.few, p.scale.size))

  scale_list : list_to (λ i. byte_at bytes (body_at bytes 3 + i)) v.scale.n ≡ pcs_of v.scale
  scale_list =
      ap (list_to (λ i. byte_at bytes (body_at bytes 3 + i))) (sym (length-take-le v.scale.n v.scale.pcs (omega (arith, p.scale.few, p.scale.size))))
      ∙ bytes_back (λ x. x) bytes (body_at bytes 3) (pcs_of v.scale) (from4 v) (pcs_of v.scale) 0 refl (λ i h. refl) (read_body (scale_stands v) byte_at byte_shifts)

  scale_read : scale_at bytes (body_at bytes 3) (size_at bytes 3) ≡ v.scale
  unfolding scale_at
  scale_read = rw (scale_size, scale_list, p.scale.rest)

  -- the lanes
  pub lead_size : size_at bytes 4 ≡ note_width e * v.score.lead.n
  lead_size = lane_size_lem (note_width e) (note_at e true) (note_bytes e) (StoredNote e true) (λ n q. note_width_lem e n) (note_shifts e true) (note_back e true) no_note 56 v.score.lead.at v.score.lead.n p.lead (lead_stands v)

  lead_count : note_count_in bytes 4 ≡ v.score.lead.n
  lead_count = rw (edition_read v, lead_size) (count_back e v.score.lead.n)

  lead_read : pad no_note 56 (notes_at (edition_in bytes) true bytes (body_at bytes 4) (note_count_in bytes 4)) ≡ v.score.lead.at
  lead_read = ap (λ (x : Edition). pad no_note 56 (notes_at x true bytes (body_at bytes 4) (note_count_in bytes 4))) (edition_read v) ∙ lane_back (note_width e) (note_at e true) (note_bytes e) (StoredNote e true) (λ n q. note_width_lem e n) (note_shifts e true) (note_back e true) no_note 56 v.score.lead.at v.score.lead.n p.lead (lead_stands v) (note_count_in bytes 4) lead_count

  pub keys_size : size_at bytes 5 ≡ note_width e * v.score.keys.n
  keys_size = lane_size_lem (note_width e) (note_at e false) (note_bytes e) (StoredNote e false) (λ n q. note_width_lem e n) (note_shifts e false) (note_back e false) no_note 128 v.score.keys.at v.score.keys.n p.keys (keys_stand v)

  keys_count : note_count_in bytes 5 ≡ v.score.keys.n
  keys_count = rw (edition_read v, keys_size) (count_back e v.score.keys.n)

  keys_read : pad no_note 128 (notes_at (edition_in bytes) false bytes (body_at bytes 5) (note_count_in bytes 5)) ≡ v.score.keys.at
  keys_read = ap (λ (x : Edition). pad no_note 128 (notes_at x false bytes (body_at bytes 5) (note_count_in bytes 5))) (edition_read v) ∙ lane_back (note_width e) (note_at e false) (note_bytes e) (StoredNote e false) (λ n q. note_width_lem e n) (note_shifts e false) (note_back e false) no_note 128 v.score.keys.at v.score.keys.n p.keys (keys_stand v) (note_count_in bytes 5) keys_count

  pub hits_size : size_at bytes 6 ≡ 10 * v.score.hits.n
  hits_size = lane_size_lem 10 hit_at hit_bytes StoredHit (λ h q. hit_width h) hit_shifts hit_back no_hit 98 v.score.hits.at v.score.hits.n p.hits (hits_stand v)

  hit_count : hit_count_in bytes 6 ≡ v.score.hits.n
  hit_count = omega (arith, hits_size)

  hits_read : pad no_hit 98 (hits_at bytes (body_at bytes 6) (hit_count_in bytes 6)) ≡ v.score.hits.at
  hits_read = lane_back 10 hit_at hit_bytes StoredHit (λ h q. hit_width h) hit_shifts hit_back no_hit 98 v.score.hits.at v.score.hits.n p.hits (hits_stand v) (hit_count_in bytes 6) hit_count

  pub bass_size : size_at bytes 7 ≡ note_width e * v.score.bass.n
  bass_size = lane_size_lem (note_width e) (note_at e false) (note_bytes e) (StoredNote e false) (λ n q. note_width_lem e n) (note_shifts e false) (note_back e false) no_note 104 v.score.bass.at v.score.bass.n p.bass (bass_stands v)

  bass_count : note_count_in bytes 7 ≡ v.score.bass.n
  bass_count = rw (edition_read v, bass_size) (count_back e v.score.bass.n)

  bass_read : pad no_note 104 (notes_at (edition_in bytes) false bytes (body_at bytes 7) (note_count_in bytes 7)) ≡ v.score.bass.at
  bass_read = ap (λ (x : Edition). pad no_note 104 (notes_at x false bytes (body_at bytes 7) (note_count_in bytes 7))) (edition_read v) ∙ lane_back (note_width e) (note_at e false) (note_bytes e) (StoredNote e false) (λ n q. note_width_lem e n) (note_shifts e false) (note_back e false) no_note 104 v.score.bass.at v.score.bass.n p.bass (bass_stands v) (note_count_in bytes 7) bass_count

  score_read : score_in bytes ≡ v.score
  unfolding score_in
  score_read =
      rw (style_read, voice_read, tempo_read, chords_read, lead_read, lead_count, keys_read, keys_count, hits_read, hit_count, bass_read, bass_count)

  -- the form
  end_read : (j : ℕ) → byte_at bytes (body_at bytes 8 + j) ≡ byte_at (ends v ++ from9 v) j
  end_read j = read_body (ends_stand v) byte_at byte_shifts j

  pub bars_read : size_at bytes 9 ≡ v.form.bars
  bars_read =
      size_is (plays_stand v) ∙ length-map (take v.form.bars v.form.plays) bits_of
      ∙ length-take-le v.form.bars v.form.plays (omega (arith, p.plays.few, p.plays.size))

  plays_list : plays_from bytes (body_at bytes 9) v.form.bars ≡ take v.form.bars v.form.plays
  plays_list =
      let ps = take v.form.bars v.form.plays in
      ap (plays_from bytes (body_at bytes 9)) (sym (length-take-le v.form.bars v.form.plays (omega (arith, p.plays.few, p.plays.size))))
      ∙ bytes_back plays_coded bytes (body_at bytes 9) (plays_bytes v.form) [] ps silent (length-map ps bits_of)
      (λ i h. ap plays_coded (get_or-map bits_of ps i silent) ∙ plays_back (get_or ps i silent)) (read_body (plays_stand v) byte_at byte_shifts)

  form_read : form_in bytes ≡ v.form
  unfolding form_in
  form_read =
      rw (
        read_first (ends_stand v) byte_at byte_shifts,
        end_read 1,
        end_read 2,
        end_read 3,
        end_read 4,
        end_read 5,
        bars_read,
        plays_list,
        p.plays.rest,
        end_back v.form.intro,
        outro_back v.form.outro,
        dip_back v.form.dip,
      )

  -- the song
  pub song_back : song_in (sheet_of v) ≡ v
  unfolding song_in
  song_back = rw (as_fields v, edition_read v, seed_read, score_read, scale_read, form_read)
