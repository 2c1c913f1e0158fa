-- A bar's beats in an array: one more, one less, and settled. Definitions only.
use Rattle.std.specs.Prelude.{Bool, cond, List, [], ◌∷◌, ℕ, zero, suc, Float}
use Rattle.std.specs.Float.{nan, binary32}
use Rattle.std.specs.Float.Ieee.{of_bits, lt, neg, sub}
use Rattle.laws.specs.Order.{total_le}
use Rattle.laws.specs.Sorts.{sort}
use Rattle.composer.specs.Few.{used_of, few_of, one_more}
use Rattle.composer.specs.Note.{zero32}
use Rattle.composer.specs.declared.few.Few.{Few}

-- a bar's beats: the first n entries, in order; the others are 0
abbrev pub Beats : Type 0
Beats = Few Float 7

abbrev pub past_beats : Beats
past_beats = record { at = []; n = 0 }

-- a list of at most seven in the struct
abbrev pub beats_of : List Float → Beats
beats_of xs = few_of zero32 7 xs

-- the struct's beats as a list
abbrev pub list_of : Beats → List Float
list_of b = used_of b

abbrev pub add_of : Beats → Float → Beats
add_of b x = one_more b x

-- all but the entry at k; the later ones move down
unfoldable pub without : ℕ → List Float → List Float
without k [] = []
without zero (x ∷ xs) = xs
without (suc k) (x ∷ xs) = x ∷ without k xs

abbrev pub remove_of : Beats → ℕ → Beats
remove_of b k = beats_of (without k (list_of b))

-- d, or -d where d is below 0
abbrev pub size_of : Float → Float
size_of d = cond (lt d zero32) (neg d) d

-- |x - k| < 0.5
unfoldable pub near_of : Float → Float → Bool
unfolding lt neg sub of_bits
near_of x k = lt (size_of (sub binary32 x k)) (of_bits binary32 0x3f00_0000)

-- those that are not near the last that was kept, k
unfoldable pub thin_of : Float → List Float → List Float
thin_of k [] = []
thin_of k (x ∷ xs) = cond (near_of x k) (thin_of k xs) (x ∷ thin_of x xs)

-- in order, and none less than half a beat after the last that was kept; nothing is near nan, so the first is kept
unfoldable pub settled : List Float → List Float
settled xs = thin_of nan (sort total_le xs)

abbrev pub settle_of : Beats → Beats
settle_of b = beats_of (settled (list_of b))
