-- A hall's list: its seeds in bytes, what a call for it has to write and answers, and what every list promises.
-- Definitions only.
use Rattle.std.specs.Prelude.{◌≡◌, Bool, cond, ◌||◌, List, ◌++◌, ℕ, ◌+◌, ◌*◌, ◌≤◌, ◌<◌, ltb, length, take, drop}
use Rattle.laws.specs.Lists.{list_to, joined}
use Rattle.streams.specs.Mix.{splitmix_draw_of}
use Rattle.streams.specs.Stream.{new_of, word_at}
use Rattle.composer.specs.Refusal.{Gives, Refuses}
use Rattle.composer.specs.declared.refusal.Refusal.{Refusal}
use Rattle.pages.specs.Answer.{Asked, Writes, Declines, CallAnswers}
use Rattle.pages.specs.Bytes.{be64}

-- seed i, for i from 1 to n, is draw i of the stream seeded with h; 8 bytes each
unfoldable pub list_bytes : ℕ → ℕ → List ℕ
list_bytes h n = joined (list_to (λ k. be64 (splitmix_draw_of h (k + 1))) n)

-- a list has 1 to 4,096 seeds
abbrev pub is_outside : ℕ → Bool
is_outside n = ltb n 1 || ltb 4096 n

-- refusal 6 for a count outside that range; 2 for a short buffer comes after it, in `written_of`
unfoldable pub list_asked : ℕ → ℕ → Asked
list_asked h n = cond (is_outside n) (Declines Refusal.HallCount) (Writes (list_bytes h n))

-- ---- what every call answers and leaves in the buffer b
pub record ListAnswers (h n : ℕ) (b : List ℕ) : Type 0 where
  -- the list and what stood beyond it, its length the answer
  pub written : 1 ≤ n → n ≤ 4096 → 8 * n ≤ length b → CallAnswers (list_asked h n) b (Gives (8 * n)) (list_bytes h n ++ drop (8 * n) b)
  -- a short buffer
  pub short : 1 ≤ n → n ≤ 4096 → length b < 8 * n → CallAnswers (list_asked h n) b (Refuses 2) b
  -- a count outside the range, whatever the buffer
  pub none : n ≡ 0 → CallAnswers (list_asked h n) b (Refuses 6) b
  pub many : 4096 < n → CallAnswers (list_asked h n) b (Refuses 6) b

-- ---- what every list promises
-- the 8 bytes in which seed k + 1 stands
abbrev pub slot : ℕ → List ℕ → List ℕ
slot k bytes = take 8 (drop (8 * k) bytes)

pub record ListPromise (h n : ℕ) : Type 0 where
  pub size : length (list_bytes h n) ≡ 8 * n
  -- each seed stands at its place: draw k + 1 of the stream seeded with h
  pub drawn : (k : ℕ) → k < n → slot k (list_bytes h n) ≡ be64 (word_at (new_of h) (k + 1))
  -- no two are equal
  pub distinct : (j k : ℕ) → j < n → k < n → slot j (list_bytes h n) ≡ slot k (list_bytes h n) → j ≡ k
  -- a longer list starts with the shorter one
  pub starts : (m : ℕ) → m ≤ n → take (8 * m) (list_bytes h n) ≡ list_bytes h m
