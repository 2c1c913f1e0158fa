-- What the converter takes, what it makes of it, and what each call answers. Assumes nothing.
use mathlib.Core.Path.{◌≡◌, refl, sym, ap, ◌∙◌}
use mathlib.Core.List.{List}
use Prim.Native.Nat.{ℕ, ◌^◌, ◌<◌}
use native.Mathlib.Omega.{arith}
use Rattle.composer.specs.Compose.{composed_of}
use Rattle.composer.specs.Refusal.{Gives, answered}
use Rattle.composer.specs.Style.{style_number_of}
use Rattle.std.proofs.Common.{Result, Ok, Err}
use Rattle.composer.specs.declared.refusal.Refusal.{Refusal}
use Rattle.composer.specs.declared.score.Score.{Score}
use Rattle.composer.specs.declared.style.Style.{Style}
use Rattle.composer.proofs.ComposeLaws.{song_promise}
use Rattle.pages.specs.Answer.{Asked, Writes, bytes_of, asked_by}
use Rattle.pages.specs.Sheet.{sheet_in}
use Rattle.pages.specs.declared.edition.Edition.{Edition}
use Rattle.pages.proofs.AnswerLaws.{refused, call_answers, room_answers, asked_refused}
use Rattle.reader.specs.Composed.{told_in, composed_song}
use Rattle.reader.specs.Promise.{Octets, Reads}
use Rattle.reader.specs.Read.{read_of}
use Rattle.reader.specs.Song.{sheet_of}
use Rattle.reader.specs.declared.song.Song.{Song}
use Rattle.reader.proofs.PromiseLaws.{reader_promise}
use Rattle.editions.specs.Convert.{named_asked, named_sheet, held_asked, convert_asked}
use Rattle.editions.specs.Promise.{Converts, Converted, SeedSheet, OfSeed, named_song, unroled, ConverterPromise, ConvertAnswers}
use Rattle.editions.proofs.ConvertLaws.{song_by_lem, seed_song, ReadAs, read_as, seed_read, named_reads, seed_asked, asked_seed, convert_seed, convert_bytes, convert_other, convert_taken}

-- ---- the sheet of a seed
told_style : (edition : Edition) (s : Score) → (told_in edition s).style ≡ s.style
told_style Edition.One s = refl
told_style Edition.Two s = refl

module _ (edition : Edition) (style : Style) (seed : ℕ) where
  style_named : (composed_song edition style seed).score.style ≡ style
  style_named = told_style edition (composed_of style seed).score ∙ (song_promise style seed).score.in_style

  composed_seed : OfSeed (composed_song edition style seed)
  composed_seed = record {
    score = ap (λ (x : Style). told_in edition (composed_of x seed).score) (sym style_named);
    scale = ap (λ (x : Style). (composed_of x seed).scale) (sym style_named);
    form = refl;
  }

  seed_converts : (wanted : Edition) (sheet : List ℕ) → seed < 2 ^ 64 → sheet_in edition (style_number_of style) seed ≡ Writes sheet → convert_asked wanted sheet ≡ sheet_in wanted (style_number_of style) seed
  seed_converts wanted sheet small asked =
      convert_seed (seed_read edition style seed sheet small asked) wanted composed_seed ∙ ap (λ (x : Style). sheet_in wanted (style_number_of x) seed) style_named

-- ---- a sheet that is taken is read
taken_by : (o : Result Song Refusal) (a : Song → Asked) (bytes : List ℕ) → asked_by o a ≡ Writes bytes → (v : Song) × (answered o ≡ Gives v)
taken_by (Ok v) a bytes e = (v, refl)
taken_by (Err r) a bytes e = let z : ◌≡◌ {A = ℕ} 0 1 = cc in absurd (omega arith)

taken_reads : (wanted : Edition) (sheet bytes : List ℕ) → Converts wanted sheet bytes → (v : Song) × Reads sheet v
unfolding convert_asked
taken_reads wanted sheet bytes e = taken_by (read_of sheet) (held_asked wanted sheet) bytes e

taken_seed : (wanted : Edition) (sheet : List ℕ) → Octets sheet → Converted wanted sheet → SeedSheet sheet
taken_seed wanted sheet octets c =
    let t = taken_reads wanted sheet c.bytes c.converts in
    let v = t.0 in
    let r = read_as sheet v octets t.1 in
    record { edition = v.edition; style = v.score.style; seed = v.seed; small = r.small; asked = seed_asked r (convert_taken r wanted c.bytes c.converts) }

seed_taken : (wanted : Edition) (sheet : List ℕ) → SeedSheet sheet → Converted wanted sheet
seed_taken wanted sheet s = record {
  bytes = sheet_of (composed_song wanted s.style s.seed);
  converts = seed_converts s.edition s.style s.seed wanted sheet s.small s.asked ∙ (reader_promise.sheets wanted s.style s.seed s.small).0;
}

-- ---- what it becomes
module _ (wanted : Edition) (sheet bytes : List ℕ) (v : Song) (octets : Octets sheet) (reads : Reads sheet v) (converts : Converts wanted sheet bytes) where
  read : ReadAs sheet v
  read = read_as sheet v octets reads

  of : OfSeed v
  of = convert_taken read wanted bytes converts

  -- what is made is the seed's sheet in the wanted edition
  made : named_asked wanted v ≡ Writes bytes
  made = sym (convert_seed read wanted of) ∙ converts

  made_bytes : named_sheet wanted v ≡ bytes
  made_bytes = ap bytes_of made

  made_reads : Reads bytes (named_song wanted v)
  made_reads = rw (← made_bytes) (named_reads read wanted)

  there_and_back : Converts v.edition bytes sheet
  there_and_back = seed_converts wanted v.score.style v.seed v.edition bytes read.small made ∙ seed_asked read of

-- a song of edition 2 without its roles is that of edition 1
roles_dropped : (v : Song) → OfSeed v → v.edition ≡ Edition.Two → unroled v ≡ named_song Edition.One v
roles_dropped v o two =
    let s = (composed_of v.score.style v.seed).score in
    song_by_lem Edition.One v.seed (ap (told_in Edition.One) (o.score ∙ ap (λ (e : Edition). told_in e s) two)) o.scale o.form

roles_gained : (v : Song) → OfSeed v → v.edition ≡ Edition.One → unroled (named_song Edition.Two v) ≡ v
roles_gained v o one = ap (λ (e : Edition). named_song e v) (sym one) ∙ sym (seed_song v o)

pub converter_promise : ConverterPromise
converter_promise = record {
  seeds = λ wanted sheet s. seed_converts s.edition s.style s.seed wanted sheet s.small s.asked;
  exactly = λ wanted sheet octets. (taken_seed wanted sheet octets, seed_taken wanted sheet);
  whole = λ sheet v octets reads. (seed_asked (read_as sheet v octets reads), asked_seed (read_as sheet v octets reads));
  back = there_and_back;
  copied = λ sheet bytes v octets reads c. ap bytes_of (sym (made v.edition sheet bytes v octets reads c) ∙ seed_asked (read v.edition sheet bytes v octets reads c) (of v.edition sheet bytes v octets reads c));
  dropped = λ sheet bytes v octets reads two c.
      rw (roles_dropped v (of Edition.One sheet bytes v octets reads c) two) (made_reads Edition.One sheet bytes v octets reads c);
  gained = λ sheet bytes v octets reads one c. (made_reads Edition.Two sheet bytes v octets reads c, roles_gained v (of Edition.Two sheet bytes v octets reads c) one);
}

-- ---- in numbers
pub convert_answers : (wanted : Edition) (sheet b : List ℕ) → Octets sheet → ConvertAnswers wanted sheet b
unfolding convert_asked
convert_answers wanted sheet b octets = record {
  fields = asked_refused (read_of sheet) (held_asked wanted sheet) 7 b;
  values = asked_refused (read_of sheet) (held_asked wanted sheet) 8 b;
  other = λ v reads no. rw (convert_other (read_as sheet v octets reads) wanted no) (refl, refl);
  short = λ v reads o h. rw (convert_bytes (read_as sheet v octets reads) wanted o) (call_answers (Writes (named_sheet wanted v)) b (refused b (named_sheet wanted v) h));
  written = λ v reads o h. rw (convert_bytes (read_as sheet v octets reads) wanted o) (room_answers (named_sheet wanted v) b h);
}
