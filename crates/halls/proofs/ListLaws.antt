-- A list's seeds stand at their places and are all different; and what every call for a list answers. Assumes nothing.
use mathlib.Core.Path.{◌≡◌, refl, sym, ap, ◌∙◌}
use mathlib.Core.Bool.{true, false}
use mathlib.Core.Logic.{⊎_elim}
use mathlib.Core.List.{List, [], ◌++◌}
use Prim.Native.Nat.{ℕ, zero, suc, ◌+◌, ◌*◌, ◌^◌, ◌≤◌, ◌<◌}
use native.Mathlib.Numerals.{add-one}
use native.Mathlib.Nat.{eq-or-lt_of_le, le_of_suc-le-suc}
use native.Mathlib.Omega.{arith}
use borrow.Author.Tests.{ltb-false, lt-ltb, le-ltb}
use lib.Dec.{ltb}
use lib.ListN.{length, take, drop, length-append, length-drop}
use lib.Seq.{drop_at, drop-append-le, take-append-le, take_all}
use Rattle.laws.specs.Lists.{list_to, joined}
use Rattle.laws.specs.Writes.{Wrote}
use Rattle.laws.proofs.Bools.{neither, cond_by}
use Rattle.laws.proofs.Joins.{joined_snoc}
use Rattle.streams.specs.Mix.{splitmix_draw_of}
use Rattle.streams.proofs.StreamLaws.{new_word}
use Rattle.streams.proofs.UnmixLaws.{draw_injective}
use Rattle.composer.specs.Refusal.{Gives}
use Rattle.composer.specs.declared.refusal.Refusal.{Refusal}
use Rattle.pages.specs.Answer.{Asked, Writes, Declines, bytes_of, written_of, buffer_of, CallAnswers}
use Rattle.pages.specs.Bytes.{be64}
use Rattle.pages.proofs.AnswerLaws.{refused, served, call_answers, room_answers}
use Rattle.pages.proofs.BytesLaws.{be64_injective}
use Rattle.halls.specs.List.{list_bytes, is_outside, list_asked, ListAnswers, slot, ListPromise}
use Rattle.std.proofs.Common.{Ok, Err}

module _ (h : ℕ) where
  -- ---- one seed more
  pub bytes_none : list_bytes h 0 ≡ []
  unfolding list_bytes list_to joined
  bytes_none = refl

  bytes_suc : (n : ℕ) → list_bytes h (suc n) ≡ list_bytes h n ++ be64 (splitmix_draw_of h (n + 1))
  unfolding list_bytes list_to
  bytes_suc n = joined_snoc (list_to (λ k. be64 (splitmix_draw_of h (k + 1))) n) (be64 (splitmix_draw_of h (n + 1)))

  pub bytes_on : (n : ℕ) → list_bytes h (n + 1) ≡ list_bytes h n ++ be64 (splitmix_draw_of h (n + 1))
  bytes_on n = ap (list_bytes h) (add-one n) ∙ bytes_suc n

  length_bytes : (n : ℕ) → length (list_bytes h n) ≡ 8 * n
  length_bytes zero = ap length bytes_none
  length_bytes (suc n) = omega (arith, ap length (bytes_suc n), length-append (list_bytes h n) (be64 (splitmix_draw_of h (n + 1))), length_bytes n)

  -- ---- places
  bytes_start : (n m : ℕ) → m ≤ n → take (8 * m) (list_bytes h n) ≡ list_bytes h m
  bytes_start zero m l =
      let e : m ≡ 0 = omega arith in
      rw e (take_all 0 (list_bytes h 0) (omega (arith, length_bytes 0)))
  bytes_start (suc n) m l =
      ⊎_elim (λ (e : m ≡ suc n). rw e (take_all (8 * suc n) (list_bytes h (suc n)) (omega (arith, length_bytes (suc n)))))
      (λ (e : m < suc n).
      ap (take (8 * m)) (bytes_suc n)
      ∙ take-append-le (8 * m) (list_bytes h n) (be64 (splitmix_draw_of h (n + 1))) (omega (arith, length_bytes n))
      ∙ bytes_start n m (le_of_suc-le-suc e))
      (eq-or-lt_of_le l)

  slot_at : (n k : ℕ) → k < n → slot k (list_bytes h n) ≡ be64 (splitmix_draw_of h (k + 1))
  slot_at zero k l = absurd (omega arith)
  slot_at (suc n) k l =
      let bs = list_bytes h n in
      let new = be64 (splitmix_draw_of h (n + 1)) in
      let size = length_bytes n in
      ap (slot k) (bytes_suc n)
      ∙ ⊎_elim (λ (e : k ≡ n). rw e (ap (take 8) (drop_at bs new (8 * n) size)))
      (λ (e : k < n).
      ap (take 8) (drop-append-le (8 * k) bs new (omega arith)) ∙ take-append-le 8 (drop (8 * k) bs) new (omega (arith, length-drop (8 * k) bs)) ∙ slot_at n k e)
      (eq-or-lt_of_le (le_of_suc-le-suc l))

  slots_distinct : (n : ℕ) → n < 2 ^ 64 → (j k : ℕ) → j < n → k < n → slot j (list_bytes h n) ≡ slot k (list_bytes h n) → j ≡ k
  slots_distinct n l j k a b e =
      let f : j + 1 ≡ k + 1 = draw_injective h (j + 1) (k + 1) (omega arith) (omega arith) (be64_injective _ _ (sym (slot_at n j a) ∙ e ∙ slot_at n k b)) in
      omega arith

  -- a list of any length that a stream has draws for
  pub list_promise : (n : ℕ) → n < 2 ^ 64 → ListPromise h n
  list_promise n l = record {
    size = length_bytes n;
    drawn = λ k a. slot_at n k a ∙ ap be64 (sym (new_word h (k + 1) (omega arith)));
    distinct = slots_distinct n l;
    starts = bytes_start n;
  }

-- ---- the range
most_inside : (n : ℕ) → is_outside n ≡ false → n ≤ 4096
most_inside n t = ltb-false 4096 n (neither (ltb n 1) (ltb 4096 n) t).1

inside : (n : ℕ) → 1 ≤ n → n ≤ 4096 → is_outside n ≡ false
inside n l k = rw (le-ltb n 1 l, le-ltb 4096 n k)

above : (n : ℕ) → 4096 < n → is_outside n ≡ true
above n l = rw (le-ltb n 1 (omega arith), lt-ltb 4096 n l)

-- ---- a call: refused by its count, whatever the buffer; then by the buffer; else served
module _ (h n : ℕ) (b : List ℕ) where
  pub list_outside : is_outside n ≡ true → (Err Refusal.HallCount ≡ written_of (length b) (list_asked h n)) × (b ≡ buffer_of b (list_asked h n))
  unfolding list_asked
  list_outside t = rw t (refl, refl)

  pub list_short : is_outside n ≡ false → length b < 8 * n → (Err Refusal.ShortBuffer ≡ written_of (length b) (list_asked h n)) × (b ≡ buffer_of b (list_asked h n))
  unfolding list_asked
  list_short t l = rw t (refused b (list_bytes h n) (omega (arith, length_bytes h n)))

  pub list_served : {b' : List ℕ} {r : ℕ} → is_outside n ≡ false → Wrote b b' 0 r (8 * n) (list_bytes h n)
      → (Ok r ≡ written_of (length b) (list_asked h n)) × (b' ≡ buffer_of b (list_asked h n))
  unfolding list_asked
  list_served t w = rw t (served w)

  list_written : is_outside n ≡ false → 8 * n ≤ length b → CallAnswers (list_asked h n) b (Gives (8 * n)) (list_bytes h n ++ drop (8 * n) b)
  unfolding list_asked
  list_written t l = rw (t, ← length_bytes h n) (room_answers (list_bytes h n) b (omega (arith, length_bytes h n)))

  pub list_answers : ListAnswers h n b
  list_answers = record {
    written = λ l k. list_written (inside n l k);
    short = λ l k r. call_answers (list_asked h n) b (list_short (inside n l k) r);
    none = λ e. call_answers (list_asked h n) b (list_outside (rw e refl));
    many = λ l. call_answers (list_asked h n) b (list_outside (above n l));
  }

-- the longest list
pub list_most : (h n : ℕ) → length (bytes_of (list_asked h n)) ≤ 32768
unfolding list_asked
list_most h n =
    cond_by (λ (a : Asked). length (bytes_of a) ≤ 32768) (is_outside n) (Declines Refusal.HallCount) (Writes (list_bytes h n))
    (λ t. omega arith) (λ t. omega (arith, length_bytes h n, most_inside n t))
