-- Every code that the writer writes is known. Assumes nothing.
use mathlib.Core.Path.{◌≡◌, refl, sym, ap, ◌∙◌, subst}
use mathlib.Core.Bool.{Bool, true, false, cond}
use mathlib.Core.List.{List, [], map}
use Prim.Native.Nat.{ℕ, ◌+◌, ◌*◌, ◌/◌, ◌≤◌, ◌<◌}
use native.Mathlib.Omega.{arith}
use borrow.Author.Tests.{le-leb, lt-ltb}
use lib.Dec.{leb, ltb}
use lib.ListN.{length, get_or, take, length-map, get_or-append, get_or-map}
use lib.Seq.{length-take-le}
use Rattle.laws.specs.Lists.{joined}
use Rattle.laws.specs.Sorts.{All}
use Rattle.laws.proofs.Joins.{joined_at}
use Rattle.laws.proofs.Sorts.{all_map, all_every}
use Rattle.composer.specs.Form.Ends.{end_code_of, end_bars_of, outro_code_of, outro_length_of}
use Rattle.composer.specs.Form.Plays.{bits_of, silent}
use Rattle.composer.specs.Note.{kind_number_of}
use Rattle.composer.specs.Style.{style_number_of}
use Rattle.composer.specs.Voice.{voice_number_of}
use Rattle.composer.specs.declared.form.ends.Bars.{Bars}
use Rattle.composer.specs.declared.form.ends.Edge.{Edge}
use Rattle.composer.specs.declared.form.ends.End.{End}
use Rattle.composer.specs.declared.form.ends.Outro.{Outro}
use Rattle.composer.specs.declared.form.plays.Plays.{Plays}
use Rattle.composer.specs.declared.note.DrumKind.{DrumKind}
use Rattle.composer.specs.declared.note.Hit.{Hit}
use Rattle.composer.specs.declared.style.Style.{Style}
use Rattle.composer.specs.declared.voice.LeadVoice.{LeadVoice}
use Rattle.pages.specs.Bytes.{byte_at}
use Rattle.pages.specs.Lane.{hit_bytes}
use Rattle.pages.specs.Sheet.{plays_bytes}
use Rattle.pages.proofs.LaneLaws.{hit_width}
use Rattle.reader.specs.Codes.{end_known, outro_known, name_known, kinds_known, ends_known, plays_known, coded}
use Rattle.reader.specs.Layout.{body_at, size_at}
use Rattle.reader.specs.Song.{sheet_of}
use Rattle.reader.specs.declared.song.Song.{Song}
use Rattle.reader.proofs.LayoutLaws.{size_is, read_body, read_first}
use Rattle.reader.proofs.NumberLaws.{byte_shifts}
use Rattle.reader.proofs.SongLaws.{StoredSong, fields, from7, as_fields, name_stands, hits_stand, ends_stand, plays_stand, hits_size, bars_read}
use Rattle.reader.proofs.TestLaws.{all_to_by}

-- ---- one code
style_few : (s : Style) → style_number_of s ≤ 1
style_few Style.Hiphop = omega arith
style_few Style.Sleep = omega arith

voice_few : (v : LeadVoice) → voice_number_of v ≤ 3
voice_few LeadVoice.EpVel = omega arith
voice_few LeadVoice.Pluck = omega arith
voice_few LeadVoice.Kalimba = omega arith
voice_few LeadVoice.Vibraphone = omega arith

kind_few : (k : DrumKind) → kind_number_of k ≤ 3
kind_few DrumKind.Kick = omega arith
kind_few DrumKind.Snare = omega arith
kind_few DrumKind.Hat = omega arith
kind_few DrumKind.OpenHat = omega arith

end_known_lem : (e : End) → end_known (end_code_of e) (end_bars_of e) ≡ true
unfolding end_known
end_known_lem End.Cold = refl
end_known_lem (End.Plain Bars.Four) = refl
end_known_lem (End.Plain Bars.Eight) = refl
end_known_lem (End.Edged Bars.Four Edge.Fade) = refl
end_known_lem (End.Edged Bars.Four Edge.Filter) = refl
end_known_lem (End.Edged Bars.Eight Edge.Fade) = refl
end_known_lem (End.Edged Bars.Eight Edge.Filter) = refl

outro_known_lem : (o : Outro) → outro_known (outro_code_of o) (outro_length_of o) ≡ true
unfolding outro_known end_known
outro_known_lem (Outro.Ends End.Cold) = refl
outro_known_lem (Outro.Ends (End.Plain Bars.Four)) = refl
outro_known_lem (Outro.Ends (End.Plain Bars.Eight)) = refl
outro_known_lem (Outro.Ends (End.Edged Bars.Four Edge.Fade)) = refl
outro_known_lem (Outro.Ends (End.Edged Bars.Four Edge.Filter)) = refl
outro_known_lem (Outro.Ends (End.Edged Bars.Eight Edge.Fade)) = refl
outro_known_lem (Outro.Ends (End.Edged Bars.Eight Edge.Filter)) = refl
outro_known_lem Outro.RingOut = refl

dip_few : (d : Bool) → leb (cond d 1 0) 1 ≡ true
dip_few true = refl
dip_few false = refl

bit_few : (b : Bool) (n : ℕ) → cond b n 0 ≤ n
bit_few true n = omega arith
bit_few false n = omega arith

bits_few : (p : Plays) → bits_of p < 16
bits_few p = omega (arith, bit_few p.pad 1, bit_few p.keys 2, bit_few p.drums 4, bit_few p.bass 8)

hit_known : (h : Hit) → (length (hit_bytes h) ≡ 10) × (get_or (hit_bytes h) 1 0 ≤ 3)
unfolding hit_bytes
hit_known h = (hit_width h, kind_few h.kind)

-- ---- the sheet's
module _ (v : Song) (p : StoredSong v) where
  abbrev bytes : List ℕ
  bytes = fields v

  name_known_lem : name_known bytes (body_at bytes 0) ≡ true
  unfolding name_known
  name_known_lem =
      rw (
        read_first (name_stands v) byte_at byte_shifts,
        read_body (name_stands v) byte_at byte_shifts 9,
        le-leb (style_number_of v.score.style) 1 (style_few v.score.style),
        le-leb (voice_number_of v.score.lead_voice) 3 (voice_few v.score.lead_voice),
      )

  -- the drum of hit i
  kind_known : (i : ℕ) → i < size_at bytes 6 / 10 → byte_at bytes (body_at bytes 6 + 10 * i + 1) ≤ 3
  kind_known i h =
      let hits = take v.score.hits.n v.score.hits.at in
      let body = joined (map hit_bytes hits) in
      let all : All (λ e. (length e ≡ 10) × (get_or e 1 0 ≤ 3)) (map hit_bytes hits) = all_map hit_bytes (λ e. (length e ≡ 10) × (get_or e 1 0 ≤ 3)) hits (all_every (λ x. (length (hit_bytes x) ≡ 10) × (get_or (hit_bytes x) 1 0 ≤ 3)) hit_known hits) in
      let e : body_at bytes 6 + 10 * i + 1 ≡ body_at bytes 6 + (10 * i + 1) = omega arith in
      let size = size_is (hits_stand v) in
      let here = ap (byte_at bytes) e ∙ read_body (hits_stand v) byte_at byte_shifts (10 * i + 1) ∙ get_or-append body (from7 v) 0 (10 * i + 1) (omega (arith, size, hits_size v p)) in
      subst (λ (n : ℕ). n ≤ 3) (sym here) (joined_at (λ n. n ≤ 3) 0 10 1 (omega arith) (map hit_bytes hits) all i (omega (arith, size)))

  kinds_known_lem : kinds_known bytes (body_at bytes 6) (size_at bytes 6 / 10) ≡ true
  unfolding kinds_known
  kinds_known_lem =
      all_to_by (λ i. leb (byte_at bytes (body_at bytes 6 + 10 * i + 1)) 3) (size_at bytes 6 / 10)
      (λ i h. le-leb (byte_at bytes (body_at bytes 6 + 10 * i + 1)) 3 (kind_known i h))

  ends_known_lem : ends_known bytes (body_at bytes 8) ≡ true
  unfolding ends_known
  ends_known_lem =
      let at = read_body (ends_stand v) byte_at byte_shifts in
      rw (
        read_first (ends_stand v) byte_at byte_shifts,
        at 1,
        at 3,
        at 4,
        at 5,
        end_known_lem v.form.intro,
        outro_known_lem v.form.outro,
        dip_few v.form.dip,
      )

  -- the layers of bar b
  bar_known : (b : ℕ) → b < size_at bytes 9 → byte_at bytes (body_at bytes 9 + b) < 16
  bar_known b h =
      let ps = take v.form.bars v.form.plays in
      let n = length-map ps bits_of ∙ length-take-le v.form.bars v.form.plays (omega (arith, p.plays.few, p.plays.size)) in
      let e = read_body (plays_stand v) byte_at byte_shifts b ∙ get_or-append (plays_bytes v.form) [] 0 b (omega (arith, n, bars_read v p)) ∙ get_or-map bits_of ps b silent in
      rw e (bits_few (get_or ps b silent))

  plays_known_lem : plays_known bytes (body_at bytes 9) (size_at bytes 9) ≡ true
  unfolding plays_known
  plays_known_lem = all_to_by (λ b. ltb (byte_at bytes (body_at bytes 9 + b)) 16) (size_at bytes 9) (λ b h. lt-ltb (byte_at bytes (body_at bytes 9 + b)) 16 (bar_known b h))

  pub sheet_coded : coded (sheet_of v) ≡ true
  unfolding coded
  sheet_coded = rw (as_fields v, name_known_lem, kinds_known_lem, ends_known_lem, plays_known_lem)
