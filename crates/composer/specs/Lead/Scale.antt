-- The lead's scale: what fits the window, the nearest note of the scale, and steps along it. Definitions only.
use Rattle.std.specs.Prelude.{Bool, true, false, cond, ◌&&◌, List, [], ◌∷◌, ℕ, zero, suc, ◌+◌, ◌-◌, ◌%◌, leb, eqb, get_or, take}
use Rattle.laws.specs.Lists.{list_to}
use Rattle.composer.specs.declared.harmony.Scale.{Scale}

-- the classes in use
abbrev pub pcs_of : Scale → List ℕ
pcs_of scale = take scale.n scale.pcs

unfoldable pub has_of : List ℕ → ℕ → Bool
has_of [] pc = false
has_of (x ∷ xs) pc = cond (eqb x pc) true (has_of xs pc)

-- the lead's pool: for each of the twelve classes, whether it is one of these
abbrev pub pool_by : List ℕ → List Bool
pool_by pcs = list_to (has_of pcs) 12

abbrev pub pool_of : Scale → List Bool
pool_of scale = pool_by (pcs_of scale)

abbrev pub in_pool : List Bool → ℕ → Bool
in_pool pool pc = get_or pool pc false

-- n is in the window, and its class in the pool
unfoldable pub fits_of : List Bool → ℕ → ℕ → ℕ → Bool
fits_of pool lo hi n = leb lo n && leb n hi && in_pool pool (n % 12)

-- side 0 is below, any other above
abbrev pub candidate_of : ℕ → ℕ → ℕ → ℕ
candidate_of n d zero = n - d
candidate_of n d (suc side) = n + d

-- the first that fits at the k distances from d on, lower before higher, or else lo
unfoldable pub snap_from : List Bool → ℕ → ℕ → ℕ → ℕ → ℕ → ℕ
snap_from pool lo hi n d zero = lo
snap_from pool lo hi n d (suc k) =
    cond (fits_of pool lo hi (candidate_of n d 0)) (candidate_of n d 0)
    (cond (fits_of pool lo hi (candidate_of n d 1)) (candidate_of n d 1)
    (snap_from pool lo hi n (d + 1) k))

-- the distances 0 to 6
unfoldable pub snapped_of : List Bool → ℕ → ℕ → ℕ → ℕ
snapped_of pool lo hi n = snap_from pool lo hi n 0 7

-- a semitone up or down
abbrev pub moved_of : Bool → ℕ → ℕ
moved_of true n = n + 1
moved_of false n = n - 1

-- semitones to the window's edge
abbrev pub room_of : Bool → ℕ → ℕ → ℕ → ℕ
room_of true lo hi n = hi - n
room_of false lo hi n = n - lo

-- the steps still due after a note that the scale has, or has not
abbrev pub due_after : Bool → ℕ → ℕ
due_after true due = due - 1
due_after false due = due

-- semitone by semitone, at most `space` of them, past `steps` notes of the scale
unfoldable pub walk_of : List Bool → Bool → ℕ → ℕ → ℕ → ℕ
walk_of pool up n zero steps = n
walk_of pool up n (suc space) zero = n
walk_of pool up n (suc space) (suc due) = walk_of pool up (moved_of up n) space (due_after (in_pool pool (moved_of up n % 12)) (suc due))

unfoldable pub scale_step_of : List Bool → ℕ → ℕ → ℕ → Bool → ℕ → ℕ
scale_step_of pool lo hi note up steps = snapped_of pool lo hi (walk_of pool up note (room_of up lo hi note) steps)
