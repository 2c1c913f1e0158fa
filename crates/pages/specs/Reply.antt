-- What a program writes for what a call has to write: its bytes, or one field with the number of its refusal.
-- Definitions only.
use Rattle.std.specs.Prelude.{cond, List, [], ◌∷◌, ◌++◌, ℕ, ltb, length, drop, Result, Ok, Err}
use Rattle.composer.specs.Refusal.{number_of}
use Rattle.composer.specs.declared.refusal.Refusal.{Refusal}
use Rattle.pages.specs.Answer.{Asked, Writes, Declines}
use Rattle.pages.specs.Bytes.{field}

-- one field with tag 0x7f whose single byte is the refusal
abbrev pub refusal_field : Refusal → List ℕ
refusal_field r = field 0x7f (number_of r ∷ [])

abbrev pub reply_bytes : Asked → List ℕ
reply_bytes (Writes bytes) = bytes
reply_bytes (Declines r) = refusal_field r

-- ---- into a buffer: with fewer than `most` places, which is enough for every reply of the program, nothing is written
abbrev pub replied_length : ℕ → ℕ → Asked → ℕ
replied_length most room a = cond (ltb room most) 0 (length (reply_bytes a))

abbrev pub replied_buffer : ℕ → List ℕ → Asked → List ℕ
replied_buffer most b a = cond (ltb (length b) most) b (reply_bytes a ++ drop (length (reply_bytes a)) b)

-- ---- after the call has answered and left the buffer b: how long the reply is, and the buffer with it
abbrev pub length_after : Result ℕ Refusal → ℕ
length_after (Ok n) = n
length_after (Err r) = length (refusal_field r)

abbrev pub buffer_after : Result ℕ Refusal → List ℕ → List ℕ
buffer_after (Ok n) b = b
buffer_after (Err r) b = refusal_field r ++ drop (length (refusal_field r)) b
