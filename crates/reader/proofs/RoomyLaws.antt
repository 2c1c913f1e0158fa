-- Formed bytes have room: every body stands in them, and no array is too small for it. Assumes nothing.
use mathlib.Core.Path.{◌≡◌, refl}
use mathlib.Core.Bool.{true}
use mathlib.Core.Logic.{⊎_elim}
use mathlib.Core.List.{List}
use Prim.Native.Nat.{ℕ, zero, suc, ◌+◌, ◌≤◌, ◌<◌}
use native.Mathlib.Nat.{eq-or-lt_of_le, le_of_suc-le-suc}
use native.Mathlib.Omega.{arith}
use lib.ListN.{length}
use Rattle.std.proofs.Math.Nat.{mul-div-le}
use Rattle.pages.specs.Edition.{note_width, edition_size}
use Rattle.reader.specs.Inner.Layout.{Roomy}
use Rattle.reader.specs.Layout.{edition_in, start_at, body_at, size_at, formed}
use Rattle.reader.proofs.FitLaws.{last_start_lem, entries}

-- ---- the first of the ten stands behind the edition's own, and each other begins where the one before it ends
pub first_start : (bytes : List ℕ) → start_at bytes 0 ≡ edition_size (edition_in bytes)
unfolding start_at
first_start bytes = refl

pub next_start : (bytes : List ℕ) (k : ℕ) → start_at bytes (suc k) ≡ body_at bytes k + size_at bytes k
unfolding start_at
next_start bytes k = refl

starts_rise : (bytes : List ℕ) (k n : ℕ) → k ≤ n → start_at bytes k ≤ start_at bytes n
starts_rise bytes k zero h = let e : k ≡ 0 = omega arith in rw e (omega arith)
starts_rise bytes k (suc n) h =
    ⊎_elim
    (λ (e : k ≡ suc n). rw e (omega arith))
    (λ (l : k < suc n). omega (arith, starts_rise bytes k n (le_of_suc-le-suc l), next_start bytes n))
    (eq-or-lt_of_le h)

module _ (bytes : List ℕ) (ok : formed bytes ≡ true) where
  pub body_ends : (k : ℕ) → k < 10 → body_at bytes k + size_at bytes k ≤ length bytes
  body_ends k h = omega (arith, next_start bytes k, starts_rise bytes (suc k) 10 h, last_start_lem bytes ok)

  pub formed_roomy : Roomy bytes
  formed_roomy = record {
    name = omega (arith, entries bytes ok 0 (omega arith), body_ends 0 (omega arith));
    tempo = omega (arith, entries bytes ok 1 (omega arith), body_ends 1 (omega arith));
    chords = omega (arith, entries bytes ok 2 (omega arith), body_ends 2 (omega arith));
    scale = body_ends 3 (omega arith);
    scale_few = omega (arith, entries bytes ok 3 (omega arith));
    notes = λ k h. omega (arith, mul-div-le (size_at bytes k) (note_width (edition_in bytes)), body_ends k h);
    hits = λ k h. omega (arith, body_ends k h);
    lead_few = (entries bytes ok 4 (omega arith)).most;
    keys_few = (entries bytes ok 5 (omega arith)).most;
    hits_few = (entries bytes ok 6 (omega arith)).most;
    bass_few = (entries bytes ok 7 (omega arith)).most;
    ends = omega (arith, entries bytes ok 8 (omega arith), body_ends 8 (omega arith));
    plays = body_ends 9 (omega arith);
    plays_few = omega (arith, entries bytes ok 9 (omega arith));
  }
