-- A chord's tones in the lead's window, and the one nearest to a note. Definitions only.
use Rattle.std.specs.Prelude.{Bool, true, false, cond, not, ◌&&◌, List, [], ◌∷◌, ◌++◌, ℕ, zero, suc, ◌+◌, ◌-◌, ◌*◌, ◌%◌, min, leb, ltb, eqb, get_or, set, replicate}
use Rattle.laws.specs.Lists.{filter_of}
use Rattle.composer.specs.Chord.{root_class_of}
use Rattle.composer.specs.Few.{used_of, few_of}
use Rattle.composer.specs.Lead.Scale.{in_pool}
use Rattle.composer.specs.declared.chord.Chord.{Chord}
use Rattle.composer.specs.declared.lead.tones.ChordTones.{ChordTones}
use Rattle.composer.specs.declared.few.Few.{Few}

-- notes in ascending order, one for each semitone of the widest window
abbrev pub Tones : Type 0
Tones = Few ℕ 20

-- n is c, or whole octaves above it
abbrev pub above_of : ℕ → ℕ → Bool
above_of c n = leb c n && eqb ((n - c) % 12) 0

unfoldable pub in_chord_of : List ℕ → ℕ → Bool
in_chord_of [] n = false
in_chord_of (c ∷ cs) n = cond (above_of c n) true (in_chord_of cs n)

-- of each class the lowest of the chord's notes, or 256
abbrev pub lowered : List ℕ → ℕ → List ℕ
lowered lowest c = set lowest (c % 12) (min (get_or lowest (c % 12) 0) c)

unfoldable pub lowest_from : List ℕ → List ℕ → List ℕ
lowest_from lowest [] = lowest
lowest_from lowest (c ∷ cs) = lowest_from (lowered lowest c) cs

abbrev pub lowest_of : List ℕ → List ℕ
lowest_of chord = lowest_from (replicate 12 256) chord

-- n is not below the lowest of its class
abbrev pub is_tone_of : List ℕ → ℕ → Bool
is_tone_of lowest n = leb (get_or lowest (n % 12) 0) n

-- n is a chord tone of the scale, and of another class than `avoid`
unfoldable pub is_sung_of : List ℕ → List Bool → ℕ → ℕ → Bool
is_sung_of chord pool avoid n = in_chord_of chord n && not (eqb (n % 12) avoid) && in_pool pool (n % 12)

-- no note's class
abbrev pub no_class : ℕ
no_class = 12

abbrev pub one : Bool → ℕ → List ℕ
one true x = x ∷ []
one false x = []

-- those of lo, lo + 1, .. (k of them) that pass, ascending
unfoldable pub kept : (ℕ → Bool) → ℕ → ℕ → List ℕ
kept passes lo zero = []
kept passes lo (suc k) = kept passes lo k ++ one (passes (lo + k)) (lo + k)

-- the chord's tones of the scale from lo to hi
unfoldable pub tones_in : List ℕ → List Bool → ℕ → ℕ → ℕ → List ℕ
tones_in chord pool avoid lo hi = kept (is_sung_of chord pool avoid) lo (hi + 1 - lo)

-- a list of at most 20 in the struct, the first n of an array there, and back
abbrev pub packed : List ℕ → Tones
packed xs = few_of 0 20 xs

abbrev pub cleared_of : List ℕ → ℕ → Tones
cleared_of at n = record { at = set at n 0; n = n }

abbrev pub listed : Tones → List ℕ
listed t = used_of t

abbrev pub tones_in_of : List ℕ → List Bool → ℕ → ℕ → ℕ → Tones
tones_in_of chord pool avoid lo hi = packed (tones_in chord pool avoid lo hi)

-- the scale's notes from lo to hi
abbrev pub has_class : List Bool → ℕ → Bool
has_class pool n = in_pool pool (n % 12)

unfoldable pub scale_notes_in : List Bool → ℕ → ℕ → List ℕ
scale_notes_in pool lo hi = kept (has_class pool) lo (hi + 1 - lo)

abbrev pub scale_notes_of : List Bool → ℕ → ℕ → Tones
scale_notes_of pool lo hi = packed (scale_notes_in pool lo hi)

-- those of the notes that are the chord's, and those of them that are of another class than its root
abbrev pub is_other : ℕ → ℕ → Bool
is_other pc n = not (eqb (n % 12) pc)

abbrev pub chord_tones_of : Tones → Chord → ChordTones
chord_tones_of notes chord =
    let tones = packed (filter_of (in_chord_of chord.notes) (listed notes)) in
    record { tones = tones; rootless = packed (filter_of (is_other (root_class_of chord)) (listed tones)) }

-- the tones without the root, where there are any
abbrev pub strong_of : Tones → Tones → Tones
strong_of tones rootless = cond (eqb rootless.n 0) tones rootless

abbrev pub distance_of : ℕ → ℕ → ℕ
distance_of a b = a - b + (b - a)

-- by distance first, then by height: notes are below 256
abbrev pub rank_of : ℕ → ℕ → ℕ
rank_of target x = distance_of x target * 256 + x

abbrev pub closer_of : ℕ → ℕ → ℕ → ℕ
closer_of target best x = cond (ltb (rank_of target x) (rank_of target best)) x best

unfoldable pub closest : ℕ → ℕ → List ℕ → ℕ
closest target best [] = best
closest target best (x ∷ xs) = closest target (closer_of target best x) xs

-- the nearest of a list that has one; ties low
unfoldable pub nearest_of : List ℕ → ℕ → ℕ
unfolding closest
nearest_of [] target = 0
nearest_of (x ∷ xs) target = closest target x xs

abbrev pub near_of : Tones → ℕ → ℕ
near_of t target = nearest_of (listed t) target
