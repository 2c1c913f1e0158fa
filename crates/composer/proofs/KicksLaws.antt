-- A score's kicks are in order, and each time occurs as often as among the kicks; and laws of the loop that hears them. Assumes nothing.
use mathlib.Core.Path.{◌≡◌, refl, sym, ap, ◌∙◌}
use mathlib.Core.Bool.{Bool, true, false, cond}
use mathlib.Core.List.{List, [], ◌∷◌, ◌++◌}
use Prim.Native.Nat.{ℕ, zero, suc, ◌≤◌, ◌<◌}
use native.Mathlib.Omega.{arith}
use lib.ListN.{length, get_or, take, drop}
use lib.Ieee.{Float, nan, inf, binary32, of_bits, to_bits}
use borrow.Author.Tests.{le-leb, lt-leb}
use Rattle.laws.specs.Lists.{pad}
use Rattle.laws.specs.Order.{total_le}
use Rattle.laws.specs.Sorts.{count, insert, sort, Sorted}
use Rattle.laws.proofs.Sorts.{sort_pad, length_sort, count_sort, floats_sorted}
use Rattle.composer.specs.Note.{zero32}
use Rattle.composer.specs.Refusal.{Gives, Refuses, answered}
use Rattle.composer.specs.Kicks.{KickTimes, is_kick, times_of, kick_times, kicks_in, kicks_of}
use denote.Enum.Bare.{sameb}
use Rattle.composer.specs.contracts.note.DrumKind.{the_type}
use Rattle.composer.specs.declared.note.Hit.{Hit}
use Rattle.composer.specs.declared.note.DrumKind.{DrumKind}
use Rattle.composer.specs.declared.score.Score.{Score}

-- ---- the loop: what the test says, and a hit more
pub kick_test : (k : DrumKind) → sameb the_type k DrumKind.Kick ≡ is_kick k
kick_test DrumKind.Kick = refl
kick_test DrumKind.Snare = refl
kick_test DrumKind.Hat = refl
kick_test DrumKind.OpenHat = refl

pub times_more : (hs : List Hit) (i : ℕ) (d : Hit) → i < length hs → times_of (take (suc i) hs) ≡ times_of (take i hs) ++ cond (is_kick (get_or hs i d).kind) ((get_or hs i d).at ∷ []) []
unfolding times_of
times_more [] i d h = absurd (omega arith)
times_more (x ∷ hs) zero d h = refl
times_more (x ∷ hs) (suc i) d h = go (is_kick x.kind) (times_of (take i hs)) _ (times_more hs i d (omega arith))
  where
    go : (t : Bool) (ys zs : List Float) {xs : List Float} → xs ≡ ys ++ zs → cond t (x.at ∷ xs) xs ≡ cond t (x.at ∷ ys) ys ++ zs
    go true ys zs e = ap (λ (xs : List Float). x.at ∷ xs) e
    go false ys zs e = e

-- the times in an array, sorted where they stand
pub times_sorted : (xs : List Float) (t : KickTimes) (a : List Float) → t ≡ kick_times xs → a ≡ sort total_le (take t.n t.at) ++ drop t.n t.at → ◌≡◌ {A = KickTimes} (record { at = a; n = t.n }) (kick_times (sort total_le xs))
times_sorted xs t a e h =
    let p : a ≡ pad zero32 98 (sort total_le xs) = h ∙ ap (λ (t : KickTimes). sort total_le (take t.n t.at) ++ drop t.n t.at) e ∙ sort_pad total_le zero32 98 xs (length xs) refl in
    let q : t.n ≡ length (sort total_le xs) = ap (λ (t : KickTimes). t.n) e ∙ sym (length_sort total_le xs) in
    rw (p, q)

-- ---- what a reader wants
pub kicks_sorted : (score : Score) → Sorted total_le (kicks_in score)
unfolding kicks_in
kicks_sorted score = floats_sorted (times_of (take score.hits.n score.hits.at))

-- every test passes as often as among the kicks
pub kicks_count : (p : Float → Bool) (score : Score) → count p (kicks_in score) ≡ count p (times_of (take score.hits.n score.hits.at))
unfolding kicks_in
kicks_count p score = count_sort total_le p (times_of (take score.hits.n score.hits.at))

-- of nan, inf, 0, -0, -1, 0, -inf both zeros are kept, -0 before them, nan above inf
pub odd_order : sort total_le (nan ∷ inf false ∷ zero32 ∷ of_bits binary32 0x8000_0000 ∷ of_bits binary32 0xbf80_0000 ∷ zero32 ∷ inf true ∷ [])
    ≡ inf true ∷ of_bits binary32 0xbf80_0000 ∷ of_bits binary32 0x8000_0000 ∷ zero32 ∷ zero32 ∷ inf false ∷ nan ∷ []
unfolding sort insert of_bits to_bits
odd_order = refl

-- ---- document 01's answers
pub kicks_given : (score : Score) → score.hits.n ≤ 98 → answered (kicks_of score) ≡ Gives (kick_times (kicks_in score))
unfolding kicks_of
kicks_given score h = rw (le-leb score.hits.n 98 h)

pub kicks_refused : (score : Score) → 98 < score.hits.n → answered (kicks_of score) ≡ Refuses 4
unfolding kicks_of
kicks_refused score h = rw (lt-leb score.hits.n 98 h)
