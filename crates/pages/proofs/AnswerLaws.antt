-- A call that has bytes to write answers refusal 2 and writes nothing where the buffer is shorter. Else it writes them,
-- whatever the buffer held, and what stood beyond them stays. Assumes nothing.
use mathlib.Core.Path.{◌≡◌, refl, sym, ap, ◌∙◌}
use mathlib.Core.Bool.{Bool, true, false, cond}
use mathlib.Core.List.{List, ◌++◌}
use Prim.Native.Nat.{ℕ, ◌≤◌, ◌<◌}
use native.Mathlib.Omega.{arith}
use borrow.Author.Tests.{lt-ltb, le-ltb}
use lib.Dec.{ltb}
use lib.ListN.{length, take, drop}
use lib.Seq.{take-append_seam, drop-append_seam}
use Rattle.laws.specs.Writes.{Wrote}
use Rattle.laws.proofs.Bools.{either}
use Rattle.laws.proofs.Writes.{wrote_first}
use Rattle.composer.specs.Refusal.{Answer, Gives, Refuses, answered}
use Rattle.composer.specs.declared.refusal.Refusal.{Refusal}
use Rattle.pages.specs.Answer.{Asked, Writes, Declines, bytes_of, asked_by, written_of, buffer_of, written_count, CallAnswers}
use Rattle.std.proofs.Common.{Result, Ok, Err}

pub refused : (b bytes : List ℕ) → length b < length bytes → (Err Refusal.ShortBuffer ≡ written_of (length b) (Writes bytes)) × (b ≡ buffer_of b (Writes bytes))
refused b bytes h =
    let e = lt-ltb (length b) (length bytes) h in
    (rw e, rw e)

pub served : {b b' bytes : List ℕ} {r n : ℕ} → Wrote b b' 0 r n bytes → (Ok r ≡ written_of (length b) (Writes bytes)) × (b' ≡ buffer_of b (Writes bytes))
served {b} {b'} {bytes} {r} {n} w =
    let e = le-ltb (length b) (length bytes) (omega (arith, w.size, w.fits)) in
    let f = wrote_first w in
    (rw (e, f.0), rw (e, f.1))

-- ---- for readers
-- what a contract says of a call, in document 01's words
pub call_answers : (a : Asked) (b : List ℕ) {b' : List ℕ} {w : Result ℕ Refusal} → (w ≡ written_of (length b) a) × (b' ≡ buffer_of b a) → CallAnswers a b (answered w) b'
call_answers a b e = (sym (ap answered e.0), sym e.1)

-- a buffer long enough gets the bytes
room_written : (bytes b : List ℕ) → length bytes ≤ length b → written_of (length b) (Writes bytes) ≡ Ok (length bytes)
room_written bytes b h = rw (le-ltb (length b) (length bytes) h)

room_buffer_lem : (bytes b : List ℕ) → length bytes ≤ length b → buffer_of b (Writes bytes) ≡ bytes ++ drop (length bytes) b
room_buffer_lem bytes b h = rw (le-ltb (length b) (length bytes) h)

pub room_answers : (bytes b : List ℕ) → length bytes ≤ length b → CallAnswers (Writes bytes) b (Gives (length bytes)) (bytes ++ drop (length bytes) b)
room_answers bytes b h = (ap answered (room_written bytes b h), room_buffer_lem bytes b h)

pub room_bytes : (bytes b : List ℕ) → length bytes ≤ length b → take (length bytes) (buffer_of b (Writes bytes)) ≡ bytes
room_bytes bytes b h = rw (room_buffer_lem bytes b h) (take-append_seam bytes (drop (length bytes) b))

-- what a call wrote is no longer than what it was asked for
pub count_most : (room : ℕ) (a : Asked) → written_count (written_of room a) ≤ length (bytes_of a)
count_most room (Writes bytes) = either (λ (w : Result ℕ Refusal). written_count w ≤ length bytes) (ltb room (length bytes)) (Err Refusal.ShortBuffer) (Ok (length bytes)) (omega arith) (omega arith)
count_most room (Declines r) = omega arith

-- and it is just that, in a buffer long enough
pub count_bytes : (a : Asked) (b : List ℕ) → length (bytes_of a) ≤ length b → take (written_count (written_of (length b) a)) (buffer_of b a) ≡ bytes_of a
count_bytes (Writes bytes) b h = rw (room_written bytes b h) (room_bytes bytes b h)
count_bytes (Declines r) b h = refl

-- whatever the buffers held
pub bytes_alike : (a : Asked) (b b' : List ℕ) → length (bytes_of a) ≤ length b → length (bytes_of a) ≤ length b' → take (length (bytes_of a)) (buffer_of b a) ≡ take (length (bytes_of a)) (buffer_of b' a)
bytes_alike (Writes bytes) b b' h k = room_bytes bytes b h ∙ sym (room_bytes bytes b' k)
bytes_alike (Declines r) b b' h k = refl

-- bytes beyond keep their values, in a buffer of any length
pub beyond : (a : Asked) (b : List ℕ) → drop (length (bytes_of a)) (buffer_of b a) ≡ drop (length (bytes_of a)) b
beyond (Writes bytes) b = go (ltb (length b) (length bytes))
  where
    go : (short : Bool) → drop (length bytes) (cond short b (bytes ++ drop (length bytes) b)) ≡ drop (length bytes) b
    go true = refl
    go false = drop-append_seam bytes (drop (length bytes) b)
beyond (Declines r) b = refl

-- a refusal writes nothing
pub asked_most : {A : Type 0} (o : Result A Refusal) (a : A → Asked) (m : ℕ) → ((x : A) → o ≡ Ok x → length (bytes_of (a x)) ≤ m) → length (bytes_of (asked_by o a)) ≤ m
asked_most (Ok x) a m h = h x refl
asked_most (Err r) a m h = omega arith

-- what was refused before is what the call answers
abbrev number : {A : Type 0} → Answer A → ℕ
number (Gives x) = 0
number (Refuses n) = n

pub asked_refused : {A : Type 0} (o : Result A Refusal) (a : A → Asked) (n : ℕ) (b : List ℕ) → answered o ≡ Refuses n → CallAnswers (asked_by o a) b (Refuses n) b
asked_refused (Ok x) a n b e = let z : ◌≡◌ {A = ℕ} 0 1 = cc in absurd (omega arith)
asked_refused {A} (Err r) a n b e = (ap (λ (y : Answer A). Refuses (number y)) e, refl)
