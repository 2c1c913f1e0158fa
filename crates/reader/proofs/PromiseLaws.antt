-- What reading and writing promise each other, and what each call answers. Assumes nothing.
use mathlib.Core.Path.{◌≡◌, refl, sym, ap, ◌∙◌}
use mathlib.Core.Bool.{true}
use mathlib.Core.List.{List}
use Prim.Native.Nat.{ℕ}
use Rattle.composer.specs.Refusal.{Gives, answered}
use Rattle.std.proofs.Common.{Ok}
use Rattle.composer.proofs.RefusalLaws.{gives_ok}
use Rattle.pages.specs.Answer.{Writes, bytes_of}
use Rattle.pages.proofs.AnswerLaws.{refused, call_answers, room_answers, asked_refused}
use Rattle.reader.specs.Composed.{composed_song}
use Rattle.reader.specs.Promise.{Octets, Reads, Makes, ReaderPromise, ReadAnswers, WriteAnswers, RereadAnswers}
use Rattle.reader.specs.Read.{read_of, write_asked, reread_asked}
use Rattle.reader.specs.Song.{song_in, sheet_of}
use Rattle.reader.specs.Value.{valid, Typed}
use Rattle.reader.specs.Within.{within}
use Rattle.reader.specs.declared.song.Song.{Song}
use Rattle.reader.proofs.AgainLaws.{sheet_again}
use Rattle.reader.proofs.ArrayLaws.{typed_read}
use Rattle.reader.proofs.AskedLaws.{asked_valid, asked_other, writes_valid, Passes, passes, passes_read, read_song, read_valid}
use Rattle.reader.proofs.ComposedLaws.{composed_valid, composed_typed, seed_asked}
use Rattle.reader.proofs.FormedLaws.{sheet_formed, song_read}
use Rattle.reader.proofs.KnownLaws.{sheet_coded}
use Rattle.reader.proofs.TestedLaws.{valid_told, tested_value}
use Rattle.reader.proofs.ValueLaws.{value_stored}

-- ---- an answer that gives
pub reads_told : (bytes : List ℕ) (v : Song) → Reads bytes v → read_of bytes ≡ Ok v
reads_told bytes v e = gives_ok (read_of bytes) v e

-- ---- what is written and read
sheet_passes : (v : Song) → Typed v → valid v ≡ true → Passes (sheet_of v)
sheet_passes v t ok =
    let p = tested_value v t.shape ok in
    record { formed = sheet_formed v p; coded = sheet_coded v (value_stored v p); within = ap within (song_read v p) ∙ (valid_told v ok).0 }

pub sheet_back : (v : Song) → Typed v → valid v ≡ true → Reads (sheet_of v) v
sheet_back v t ok =
    ap answered (passes_read (sheet_of v) (sheet_passes v t ok))
    ∙ ap (λ (x : Song). Gives x) (song_read v (tested_value v t.shape ok))

back : (v : Song) (bytes : List ℕ) → Makes v bytes → Reads bytes v
back v bytes m =
    let ok = writes_valid v bytes m.asked in
    let same : sheet_of v ≡ bytes = ap bytes_of (sym (asked_valid v ok) ∙ m.asked) in
    rw (← same) (sheet_back v m.typed ok)

-- ---- what is read and written again
passed_bytes : (bytes : List ℕ) → Octets bytes → Passes bytes → sheet_of (song_in bytes) ≡ bytes
passed_bytes bytes octets p = sheet_again bytes octets p.formed p.coded p.within

again : (v : Song) (bytes : List ℕ) → Octets bytes → Reads bytes v → Makes v bytes
again v bytes octets e =
    let t = reads_told bytes v e in
    let s = read_song bytes v t in
    let p = passes bytes v t in
    record {
      typed = rw s (typed_read bytes p.formed octets);
      asked = asked_valid v (read_valid bytes v t) ∙ ap (λ (x : Song). Writes (sheet_of x)) s ∙ ap Writes (passed_bytes bytes octets p);
    }

pub reader_promise : ReaderPromise
reader_promise = record {
  back = back;
  again = again;
  exactly = λ bytes octets. (
    λ t. record { v = t.v; makes = again t.v bytes octets t.reads },
    λ m. record { v = m.v; reads = back m.v bytes m.makes },
  );
  sheets = λ edition style seed h. (seed_asked style seed edition, sheet_back (composed_song edition style seed) (composed_typed style seed edition h) (composed_valid style seed edition));
}

-- ---- in numbers
pub read_answers : (bytes : List ℕ) → ReadAnswers bytes
unfolding read_of
read_answers bytes = record {
  fields = λ e. rw e;
  values = λ e n. rw (e, n);
  given = λ e y. rw (e, y);
}

pub write_answers : (v : Song) (b : List ℕ) → WriteAnswers v b
write_answers v b = record {
  other = λ e. rw (asked_other v e) (refl, refl);
  short = λ e h. rw (asked_valid v e) (call_answers (Writes (sheet_of v)) b (refused b (sheet_of v) h));
  written = λ e h. rw (asked_valid v e) (room_answers (sheet_of v) b h);
}

-- ---- read and written again
pub reread_passed : (bytes : List ℕ) → Octets bytes → Passes bytes → reread_asked bytes ≡ Writes bytes
unfolding reread_asked
reread_passed bytes octets p =
    let e = passes_read bytes p in
    rw e (asked_valid (song_in bytes) (read_valid bytes (song_in bytes) e) ∙ ap Writes (passed_bytes bytes octets p))

pub reread_done : (bytes : List ℕ) (v : Song) → Octets bytes → read_of bytes ≡ Ok v → reread_asked bytes ≡ Writes bytes
reread_done bytes v octets e = reread_passed bytes octets (passes bytes v e)

reread_given : (v : Song) (bytes : List ℕ) → Octets bytes → Reads bytes v → reread_asked bytes ≡ Writes bytes
reread_given v bytes octets e = reread_done bytes v octets (reads_told bytes v e)

pub reread_answers : (bytes b : List ℕ) → Octets bytes → RereadAnswers bytes b
unfolding reread_asked
reread_answers bytes b octets = record {
  fields = asked_refused (read_of bytes) write_asked 7 b;
  values = asked_refused (read_of bytes) write_asked 8 b;
  short = λ v e h. rw (reread_given v bytes octets e) (call_answers (Writes bytes) b (refused b bytes h));
  written = λ v e h. rw (reread_given v bytes octets e) (room_answers bytes b h);
}
