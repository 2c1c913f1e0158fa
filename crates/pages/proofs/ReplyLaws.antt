-- A program's reply is the call's bytes or its refusal's field, where there is room for it. Assumes nothing.
use mathlib.Core.Path.{◌≡◌, refl, ◌∙◌}
use mathlib.Core.Bool.{Bool, true, false, cond}
use mathlib.Core.List.{List, ◌++◌}
use Prim.Native.Nat.{ℕ, ◌≤◌, ◌<◌}
use native.Mathlib.Omega.{arith}
use borrow.Author.Tests.{lt-ltb, le-ltb}
use lib.ListN.{length, take, drop}
use Rattle.std.proofs.lemmas.List.{take_at}
use Rattle.composer.specs.declared.refusal.Refusal.{Refusal}
use Rattle.pages.specs.Answer.{Asked, Writes, Declines, bytes_of, written_of, buffer_of}
use Rattle.pages.specs.Bytes.{field}
use Rattle.pages.specs.Reply.{reply_bytes, replied_length, replied_buffer, length_after, buffer_after}
use Rattle.std.proofs.Common.{Result}

reply_most : (a : Asked) (m : ℕ) → 4 ≤ m → length (bytes_of a) ≤ m → length (reply_bytes a) ≤ m
unfolding field
reply_most (Writes bytes) m k h = h
reply_most (Declines r) m k h = k

-- what is asked for where a record passes its test
pub record_most : (t : Bool) (a : Asked) (r : Refusal) (m : ℕ) → 4 ≤ m → length (bytes_of a) ≤ m → length (reply_bytes (cond t a (Declines r))) ≤ m
record_most true a r m k h = reply_most a m k h
record_most false a r m k h = reply_most (Declines r) m k (omega arith)

-- after a call that had room
reply_after : (a : Asked) (b : List ℕ) → length (bytes_of a) ≤ length b
    → (length_after (written_of (length b) a) ≡ length (reply_bytes a)) × (buffer_after (written_of (length b) a) (buffer_of b a) ≡ reply_bytes a ++ drop (length (reply_bytes a)) b)
reply_after (Writes bytes) b h = rw (le-ltb (length b) (length bytes) h) (refl, refl)
reply_after (Declines r) b h = (refl, refl)

module _ (most : ℕ) (a : Asked) (b : List ℕ) where
  -- with fewer places nothing is written
  pub replied_none : length b < most → (0 ≡ replied_length most (length b) a) × (b ≡ replied_buffer most b a)
  replied_none h = rw (lt-ltb (length b) most h) (refl, refl)

  pub replied_whole : {n : ℕ} {b' : List ℕ} → most ≤ length b → n ≡ length (reply_bytes a) → b' ≡ reply_bytes a ++ drop (length (reply_bytes a)) b
      → (n ≡ replied_length most (length b) a) × (b' ≡ replied_buffer most b a)
  replied_whole h e f = rw (le-ltb (length b) most h) (e, f)

  -- a call, then its reply
  pub replied_after : {w : Result ℕ Refusal} {n : ℕ} {b' b'' : List ℕ} → most ≤ length b → length (bytes_of a) ≤ most → w ≡ written_of (length b) a → b' ≡ buffer_of b a
      → n ≡ length_after w → b'' ≡ buffer_after w b' → (n ≡ replied_length most (length b) a) × (b'' ≡ replied_buffer most b a)
  replied_after h k p q e f =
      let g = reply_after a b (omega arith) in
      replied_whole h (e ∙ rw p g.0) (f ∙ rw (p, q) g.1)

-- the reply is the front of the buffer
pub replied_front : (most : ℕ) (a : Asked) (b : List ℕ) → most ≤ length b → take (replied_length most (length b) a) (replied_buffer most b a) ≡ reply_bytes a
replied_front most a b h = rw (le-ltb (length b) most h) (take_at (reply_bytes a) (drop (length (reply_bytes a)) b) _ refl)
