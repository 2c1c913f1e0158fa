-- What a call has to write, and what of it is seen: the answer, and the buffer afterwards. Definitions only.
use Rattle.std.specs.Prelude.{◌≡◌, cond, List, [], ◌++◌, ℕ, ltb, length, drop, Result, Ok, Err}
use Rattle.std.specs.Result.{result_unwrap_or}
use Rattle.composer.specs.Refusal.{Answer, answered}
use Rattle.composer.specs.declared.refusal.Refusal.{Refusal}

-- bytes, or why there are none
pub data Asked : Type 0 where
  Writes : List ℕ → Asked
  Declines : Refusal → Asked

abbrev pub bytes_of : Asked → List ℕ
bytes_of (Writes bytes) = bytes
bytes_of (Declines r) = []

-- the first refusal is that of what was done before: composing, or reading
abbrev pub asked_by : {A : Type 0} → Result A Refusal → (A → Asked) → Asked
asked_by (Ok x) a = a x
asked_by (Err r) a = Declines r

-- the answer to a buffer of `room` bytes: refusal 2 if it is shorter than the bytes
abbrev pub written_of : ℕ → Asked → Result ℕ Refusal
written_of room (Writes bytes) = cond (ltb room (length bytes)) (Err Refusal.ShortBuffer) (Ok (length bytes))
written_of room (Declines r) = Err r

-- the buffer afterwards: the bytes from its start on and what stood beyond, or what stood there
abbrev pub buffer_of : List ℕ → Asked → List ℕ
buffer_of b (Writes bytes) = cond (ltb (length b) (length bytes)) b (bytes ++ drop (length bytes) b)
buffer_of b (Declines r) = b

-- how many bytes are written
abbrev pub written_count : Result ℕ Refusal → ℕ
written_count w = result_unwrap_or w 0

-- lent the buffer b, the call answers x and leaves b' there
abbrev pub CallAnswers : Asked → List ℕ → Answer ℕ → List ℕ → Type 0
CallAnswers a b x b' = (answered (written_of (length b) a) ≡ x) × (buffer_of b a ≡ b')
