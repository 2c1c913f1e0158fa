-- What becomes of a sheet that is read: 9 unless its song is that of the style and the seed that it names, and else
-- what these give in the wanted edition. Assumes nothing.
use mathlib.Core.Path.{◌≡◌, refl, sym, ap, ◌∙◌}
use mathlib.Core.Bool.{Bool, true, false}
use mathlib.Core.List.{List}
use Prim.Native.Nat.{ℕ, ◌^◌, ◌≤◌, ◌<◌}
use native.Mathlib.Omega.{arith}
use lib.ListN.{length}
use Rattle.std.proofs.lemmas.Slice.Eq.{bytes_eq-Decides}
use Rattle.laws.proofs.Bools.{cond_by, either}
use Rattle.composer.specs.Compose.{compose_of}
use Rattle.composer.specs.Style.{style_number_of}
use Rattle.composer.specs.declared.compose.Composed.{Composed}
use Rattle.composer.specs.declared.form.Form.{Form}
use Rattle.composer.specs.declared.harmony.Scale.{Scale}
use Rattle.composer.specs.declared.refusal.Refusal.{Refusal}
use Rattle.composer.specs.declared.score.Score.{Score}
use Rattle.composer.specs.declared.style.Style.{Style}
use Rattle.composer.proofs.ComposeLaws.{done_promise}
use Rattle.pages.specs.Answer.{Asked, Writes, Declines, bytes_of}
use Rattle.pages.specs.Edition.{sheet_most}
use Rattle.pages.specs.Sheet.{sheet_by, sheet_in}
use Rattle.pages.specs.Writable.{Promised}
use Rattle.pages.specs.declared.edition.Edition.{Edition}
use Rattle.pages.proofs.AnswerLaws.{asked_most}
use Rattle.pages.proofs.SheetLaws.{sheet_in_most, edition_most}
use Rattle.reader.specs.Composed.{composed_song}
use Rattle.reader.specs.Promise.{Octets, Reads}
use Rattle.reader.specs.Read.{read_of}
use Rattle.reader.specs.Song.{song_in, sheet_of}
use Rattle.std.proofs.Common.{Result}
use Rattle.reader.proofs.AskedLaws.{read_song}
use Rattle.reader.specs.declared.song.Song.{Song}
use Rattle.reader.proofs.EditionLaws.{sheet_is}
use Rattle.reader.proofs.PromiseLaws.{reader_promise, reads_told}
use Rattle.editions.specs.Convert.{same_bytes, named_asked, named_sheet, held_asked, convert_asked}
use Rattle.editions.specs.Promise.{OfSeed, named_song}

-- ---- by the test
module _ (wanted : Edition) (sheet : List ℕ) (v : Song) where
  pub held_other : same_bytes sheet (named_sheet v.edition v) ≡ false → held_asked wanted sheet v ≡ Declines Refusal.OtherSong
  unfolding held_asked
  held_other e = rw e

  pub held_same : same_bytes sheet (named_sheet v.edition v) ≡ true → held_asked wanted sheet v ≡ named_asked wanted v
  unfolding held_asked
  held_same e = rw e

-- ---- a song by its parts
pub song_by_lem : (edition : Edition) (seed : ℕ) {s s' : Score} {c c' : Scale} {f f' : Form} → s ≡ s' → c ≡ c' → f ≡ f'
    → ◌≡◌ {A = Song} (record { edition = edition; seed = seed; score = s; scale = c; form = f }) (record { edition = edition; seed = seed; score = s'; scale = c'; form = f' })
song_by_lem edition seed p q r = cc

pub seed_song : (v : Song) → OfSeed v → v ≡ named_song v.edition v
seed_song v o = song_by_lem v.edition v.seed o.score o.scale o.form

song_seed : (v : Song) → v ≡ named_song v.edition v → OfSeed v
song_seed v e = record { score = ap (λ (x : Song). x.score) e; scale = ap (λ (x : Song). x.scale) e; form = ap (λ (x : Song). x.form) e }

-- ---- a sheet that is read: the song has a seed of 64 bits, and the sheet is the song's
pub record ReadAs (sheet : List ℕ) (v : Song) : Type 0 where
  pub reads : Reads sheet v
  pub small : v.seed < 2 ^ 64
  pub is : sheet_of v ≡ sheet

pub read_as : (sheet : List ℕ) (v : Song) → Octets sheet → Reads sheet v → ReadAs sheet v
read_as sheet v octets reads = record { reads = reads; small = (reader_promise.again v sheet octets reads).typed.seed; is = sheet_is sheet octets v reads }

pub seed_read : (edition : Edition) (style : Style) (seed : ℕ) (sheet : List ℕ) → seed < 2 ^ 64 → sheet_in edition (style_number_of style) seed ≡ Writes sheet → ReadAs sheet (composed_song edition style seed)
seed_read edition style seed sheet small asked =
    let s = reader_promise.sheets edition style seed small in
    let is = ap bytes_of (sym s.0 ∙ asked) in
    record { reads = rw (← is) s.1; small = small; is = is }

module _ {sheet : List ℕ} {v : Song} (r : ReadAs sheet v) where
  song_asked : (edition : Edition) → named_asked edition v ≡ Writes (sheet_of (named_song edition v))
  song_asked edition = (reader_promise.sheets edition v.score.style v.seed r.small).0

  named_asked_lem : (edition : Edition) → named_asked edition v ≡ Writes (named_sheet edition v)
  named_asked_lem edition = song_asked edition ∙ sym (ap (λ (a : Asked). Writes (bytes_of a)) (song_asked edition))

  pub named_reads : (edition : Edition) → Reads (named_sheet edition v) (named_song edition v)
  named_reads edition = rw (song_asked edition) (reader_promise.sheets edition v.score.style v.seed r.small).1

  -- the sheet is the seed's exactly if the song is
  pub seed_asked : OfSeed v → named_asked v.edition v ≡ Writes sheet
  seed_asked o = song_asked v.edition ∙ ap Writes (sym (ap sheet_of (seed_song v o)) ∙ r.is)

  bytes_seed : sheet ≡ named_sheet v.edition v → OfSeed v
  bytes_seed e =
      song_seed v
      (read_song sheet v (reads_told sheet v r.reads) ∙ ap song_in e ∙ sym (read_song (named_sheet v.edition v) (named_song v.edition v) (reads_told (named_sheet v.edition v) (named_song v.edition v) (named_reads v.edition))))

  pub asked_seed : named_asked v.edition v ≡ Writes sheet → OfSeed v
  asked_seed e = bytes_seed (sym (ap bytes_of e))

  -- ---- what it becomes
  abbrev held : Bool
  held = same_bytes sheet (named_sheet v.edition v)

  seed_held : OfSeed v → held ≡ true
  seed_held o = rw (seed_asked o) ((bytes_eq-Decides sheet sheet).1 refl)

  held_seed : held ≡ true → OfSeed v
  held_seed e = bytes_seed ((bytes_eq-Decides sheet (named_sheet v.edition v)).0 e)

  convert_held : (wanted : Edition) → convert_asked wanted sheet ≡ held_asked wanted sheet v
  unfolding convert_asked
  convert_held wanted = rw (reads_told sheet v r.reads)

  pub convert_seed : (wanted : Edition) → OfSeed v → convert_asked wanted sheet ≡ named_asked wanted v
  convert_seed wanted o = convert_held wanted ∙ held_same wanted sheet v (seed_held o)

  pub convert_bytes : (wanted : Edition) → OfSeed v → convert_asked wanted sheet ≡ Writes (named_sheet wanted v)
  convert_bytes wanted o = convert_seed wanted o ∙ named_asked_lem wanted

  pub convert_other : (wanted : Edition) → (OfSeed v → ⊥) → convert_asked wanted sheet ≡ Declines Refusal.OtherSong
  unfolding held_asked
  convert_other wanted other =
      convert_held wanted
      ∙ cond_by (λ (a : Asked). a ≡ Declines Refusal.OtherSong) held (named_asked wanted v) (Declines Refusal.OtherSong) (λ e. absurd (other (held_seed e))) (λ e. refl)

  -- what is taken is a seed's
  pub convert_taken : (wanted : Edition) (bytes : List ℕ) → convert_asked wanted sheet ≡ Writes bytes → OfSeed v
  unfolding held_asked
  convert_taken wanted bytes taken =
      cond_by (λ (a : Asked). a ≡ Writes bytes → OfSeed v) held (named_asked wanted v) (Declines Refusal.OtherSong)
      (λ e w. held_seed e)
      (λ e w. let z : ◌≡◌ {A = ℕ} 0 1 = cc in absurd (omega arith))
      (sym (convert_held wanted) ∙ taken)

-- ---- the longest
held_most : (wanted : Edition) (sheet : List ℕ) (v : Song) → length (bytes_of (held_asked wanted sheet v)) ≤ sheet_most wanted
unfolding held_asked
held_most wanted sheet v =
    either (λ (a : Asked). length (bytes_of a) ≤ sheet_most wanted) (same_bytes sheet (named_sheet v.edition v)) (named_asked wanted v) (Declines Refusal.OtherSong)
    (sheet_in_most wanted (style_number_of v.score.style) v.seed) (omega arith)

pub convert_most : (wanted : Edition) (sheet : List ℕ) → length (bytes_of (convert_asked wanted sheet)) ≤ sheet_most wanted
unfolding convert_asked
convert_most wanted sheet = asked_most (read_of sheet) (held_asked wanted sheet) (sheet_most wanted) (λ v e. held_most wanted sheet v)

-- ---- the song that is composed for the song v
module _ (v : Song) {number : ℕ} {song : Result Composed Refusal} (numbered : number ≡ style_number_of v.score.style) (composed : song ≡ compose_of number v.seed) where
  pub composed_promised : Promised song
  composed_promised = rw composed (done_promise number v.seed)

  pub composed_asked : (edition : Edition) → sheet_by edition v.seed song ≡ named_asked edition v
  unfolding sheet_in
  composed_asked edition = rw (composed, numbered)

  pub composed_most : (edition : Edition) → length (bytes_of (sheet_by edition v.seed song)) ≤ 5456
  composed_most edition = rw (composed_asked edition) (omega (arith, sheet_in_most edition (style_number_of v.score.style) v.seed, edition_most edition))

  -- the test of it is the test of what v names
  pub own_held : (sheet : List ℕ) {own : Bool} → own ≡ same_bytes sheet (bytes_of (sheet_by v.edition v.seed song)) → same_bytes sheet (named_sheet v.edition v) ≡ own
  own_held sheet e = sym (e ∙ ap (λ (a : Asked). same_bytes sheet (bytes_of a)) (composed_asked v.edition))
