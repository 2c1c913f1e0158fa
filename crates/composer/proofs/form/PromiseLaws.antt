-- A body that has more keeps the promise too. Assumes nothing.
use mathlib.Core.Path.{◌≡◌}
use mathlib.Core.Bool.{Bool, true, ◌&&◌, and-eq-true_iff}
use Prim.Native.Nat.{ℕ, ◌*◌, ◌<◌}
use native.Mathlib.Omega.{arith}
use Rattle.laws.proofs.Runs.{among_more, runs_more, lacking_fewer}
use Rattle.composer.specs.Form.Promise.{BodyPromise}

-- whatever has it, has it here too
abbrev pub Also : ℕ → (ℕ → Bool) → (ℕ → Bool) → Type 0
Also P has more = (b : ℕ) → b < 8 * P → has b ≡ true → more b ≡ true

both_more : (P : ℕ) (f f' g g' : ℕ → Bool) → Also P f f' → Also P g g' → Also P (λ k. f k && g k) (λ k. f' k && g' k)
both_more P f f' g g' i j b h t =
    let e = (and-eq-true_iff (f b) (g b)).0 t in
    (and-eq-true_iff (f' b) (g' b)).1 (i b h e.0, j b h e.1)

module _ (P : ℕ) (chord drums bass chord' drums' bass' : ℕ → Bool) where
  pub promise_more : Also P chord chord' → Also P drums drums' → Also P bass bass' → BodyPromise P chord drums bass → BodyPromise P chord' drums' bass'
  promise_more c d s p = record {
    chords = λ b h. c b h (p.chords b h);
    drums_running = runs_more drums drums' (8 * P) d 8 p.drums_running;
    bass_running = runs_more bass bass' (8 * P) s 11 p.bass_running;
    together = λ b h. among_more (λ k. drums k && bass k) (λ k. drums' k && bass' k) (8 * P) (both_more P drums drums' bass bass' d s) b 12 h (p.together b h);
    drums_in_all = omega (arith, lacking_fewer drums drums' (8 * P) d, p.drums_in_all);
    bass_in_all = omega (arith, lacking_fewer bass bass' (8 * P) s, p.bass_in_all);
  }
