-- A page's fields are read back as they were written, and a sheet's 0x0A, both in edition 2. Assumes nothing.
use mathlib.Core.Path.{◌≡◌, refl, sym, ap, ◌∙◌}
use mathlib.Core.Bool.{false, cond}
use mathlib.Core.List.{List, [], ◌∷◌, ◌++◌, map, append_assoc, append-nil}
use Prim.Native.Nat.{ℕ, suc, ◌+◌}
use native.Mathlib.Omega.{arith}
use borrow.Author.Tests.{eq-eqb, ne_eqb}
use lib.Dec.{eqb}
use lib.ListN.{length, get_or}
use lib.Seq.{take-append_seam, drop-append_seam}
use Rattle.laws.specs.Lists.{joined}
use Rattle.composer.specs.Form.{intro_bars_of, outro_bars_of}
use Rattle.composer.specs.Form.Ends.{end_code_of, outro_code_of}
use Rattle.composer.specs.Harmony.{notes_of}
use Rattle.composer.specs.Lead.Scale.{pcs_of}
use Rattle.composer.specs.Style.{style_number_of}
use Rattle.composer.specs.Voice.{voice_number_of}
use Rattle.composer.specs.declared.form.Form.{Form}
use Rattle.composer.specs.declared.form.plays.Plays.{Plays}
use Rattle.composer.specs.declared.harmony.Scale.{Scale}
use Rattle.composer.specs.declared.note.Hit.{Hit}
use Rattle.composer.specs.declared.score.Score.{Score}
use Rattle.pages.specs.Bar.{shown}
use Rattle.pages.specs.Bytes.{be64, f32_bytes, field}
use Rattle.pages.specs.Demand3.{body_in, body_of, plays_in}
use Rattle.pages.specs.Lane.{hit_bytes, events_of, drawn_for}
use Rattle.pages.specs.Page.{page_bytes}
use Rattle.pages.specs.Sheet.{song_bytes, lanes_bytes, plays_bytes, form_bytes, sheet_bytes}
use Rattle.pages.specs.declared.edition.Edition.{Edition}
use Rattle.pages.specs.declared.lane.Lane.{Lane}
use Rattle.pages.proofs.BytesLaws.{size_back}

-- the field that is asked for
pub body_here : (n tag : ℕ) (body rest : List ℕ) → body_in (suc n) tag (field tag body ++ rest) ≡ body
unfolding body_in field
body_here n tag body rest = rw (eq-eqb tag tag refl, size_back (length body)) (take-append_seam body rest)

-- another one is passed
pub body_later : (n tag other : ℕ) (body rest : List ℕ) → eqb other tag ≡ false → body_in (suc n) tag (field other body ++ rest) ≡ body_in n tag rest
unfolding body_in field
body_later n tag other body rest e =
    let three : 3 + length body ≡ suc (suc (suc (length body))) = omega arith in
    rw (e, size_back (length body), three) (ap (body_in n tag) (drop-append_seam body rest))

-- the last field of all
pub body_last : (n tag : ℕ) (body : List ℕ) → body_in (suc n) tag (field tag body) ≡ body
body_last n tag body = ap (body_in (suc n) tag) (sym (append-nil (field tag body))) ∙ body_here n tag body []

-- ---- a page
module _ (s : Score) (p : Plays) (bar : ℕ) (hs : List Hit) where
  abbrev chord : List ℕ
  chord = shown p.pad (get_or (notes_of s.bar_chords) bar [])

  abbrev lead : List ℕ
  lead = joined (shown p.keys (drawn_for bar (events_of Edition.Two s Lane.Lead)))

  abbrev keys : List ℕ
  keys = joined (shown p.keys (drawn_for bar (events_of Edition.Two s Lane.Keys)))

  abbrev hits : List ℕ
  hits = joined (map hit_bytes hs)

  abbrev bass : List ℕ
  bass = joined (shown p.bass (drawn_for bar (events_of Edition.Two s Lane.Bass)))

  -- all but the first
  abbrev fields : List ℕ
  fields = field 3 chord ++ (field 5 lead ++ (field 6 keys ++ (field 7 hits ++ field 8 bass)))

  -- the edition's field is passed
  after_edition : (tag : ℕ) → (tag ≡ 0 → ⊥) → body_of tag (page_bytes s p bar hs) ≡ body_in 5 tag fields
  unfolding page_bytes
  after_edition tag other = body_later 5 tag 0 (2 ∷ []) fields (ne_eqb 0 tag (λ e. other (sym e)))

  pub chord_body : body_of 0x03 (page_bytes s p bar hs) ≡ chord
  chord_body = after_edition 3 (λ e. omega arith) ∙ body_here 4 3 chord (field 5 lead ++ (field 6 keys ++ (field 7 hits ++ field 8 bass)))

  pub lead_body : body_of 0x05 (page_bytes s p bar hs) ≡ lead
  lead_body =
      after_edition 5 (λ e. omega arith)
      ∙ body_later 4 5 3 chord (field 5 lead ++ (field 6 keys ++ (field 7 hits ++ field 8 bass))) refl
      ∙ body_here 3 5 lead (field 6 keys ++ (field 7 hits ++ field 8 bass))

  pub keys_body : body_of 0x06 (page_bytes s p bar hs) ≡ keys
  keys_body =
      after_edition 6 (λ e. omega arith)
      ∙ body_later 4 6 3 chord (field 5 lead ++ (field 6 keys ++ (field 7 hits ++ field 8 bass))) refl
      ∙ body_later 3 6 5 lead (field 6 keys ++ (field 7 hits ++ field 8 bass)) refl
      ∙ body_here 2 6 keys (field 7 hits ++ field 8 bass)

  pub hits_body : body_of 0x07 (page_bytes s p bar hs) ≡ hits
  hits_body =
      after_edition 7 (λ e. omega arith)
      ∙ body_later 4 7 3 chord (field 5 lead ++ (field 6 keys ++ (field 7 hits ++ field 8 bass))) refl
      ∙ body_later 3 7 5 lead (field 6 keys ++ (field 7 hits ++ field 8 bass)) refl
      ∙ body_later 2 7 6 keys (field 7 hits ++ field 8 bass) refl
      ∙ body_here 1 7 hits (field 8 bass)

  pub bass_body : body_of 0x08 (page_bytes s p bar hs) ≡ bass
  bass_body =
      after_edition 8 (λ e. omega arith)
      ∙ body_later 4 8 3 chord (field 5 lead ++ (field 6 keys ++ (field 7 hits ++ field 8 bass))) refl
      ∙ body_later 3 8 5 lead (field 6 keys ++ (field 7 hits ++ field 8 bass)) refl
      ∙ body_later 2 8 6 keys (field 7 hits ++ field 8 bass) refl
      ∙ body_later 1 8 7 hits (field 8 bass) refl
      ∙ body_last 0 8 bass

-- ---- a sheet
module _ (seed : ℕ) (s : Score) (scale : Scale) (f : Form) where
  abbrev name : List ℕ
  name = style_number_of s.style ∷ (be64 seed ++ (voice_number_of s.lead_voice ∷ []))

  abbrev tempo : List ℕ
  tempo = f32_bytes s.bpm

  abbrev chords : List ℕ
  chords = joined (notes_of s.bar_chords)

  abbrev lane : Lane → List ℕ
  lane l = joined (events_of Edition.Two s l)

  abbrev ends : List ℕ
  ends = end_code_of f.intro ∷ intro_bars_of f ∷ f.phrases ∷ outro_code_of f.outro ∷ outro_bars_of f ∷ cond f.dip 1 0 ∷ []

  -- the last fields
  abbrev last2 : List ℕ
  last2 = field 9 ends ++ field 10 (plays_bytes f)

  abbrev last4 : List ℕ
  last4 = field 7 (lane Lane.Hits) ++ (field 8 (lane Lane.Bass) ++ last2)

  abbrev last6 : List ℕ
  last6 = field 5 (lane Lane.Lead) ++ (field 6 (lane Lane.Keys) ++ last4)

  abbrev last8 : List ℕ
  last8 = field 3 chords ++ (field 4 (pcs_of scale) ++ last6)

  in_a_row : sheet_bytes Edition.Two seed s scale f ≡ field 0 (2 ∷ []) ++ (field 1 name ++ (field 2 tempo ++ last8))
  unfolding sheet_bytes song_bytes lanes_bytes form_bytes
  in_a_row = simp append_assoc

  pub plays_body : plays_in (sheet_bytes Edition.Two seed s scale f) ≡ plays_bytes f
  plays_body =
      ap (body_in 11 10) in_a_row
      ∙ body_later 10 10 0 (2 ∷ []) (field 1 name ++ (field 2 tempo ++ last8)) refl
      ∙ body_later 9 10 1 name (field 2 tempo ++ last8) refl
      ∙ body_later 8 10 2 tempo last8 refl
      ∙ body_later 7 10 3 chords (field 4 (pcs_of scale) ++ last6) refl
      ∙ body_later 6 10 4 (pcs_of scale) last6 refl
      ∙ body_later 5 10 5 (lane Lane.Lead) (field 6 (lane Lane.Keys) ++ last4) refl
      ∙ body_later 4 10 6 (lane Lane.Keys) last4 refl
      ∙ body_later 3 10 7 (lane Lane.Hits) (field 8 (lane Lane.Bass) ++ last2) refl
      ∙ body_later 2 10 8 (lane Lane.Bass) last2 refl
      ∙ body_later 1 10 9 ends (field 10 (plays_bytes f)) refl
      ∙ body_last 0 10 (plays_bytes f)
