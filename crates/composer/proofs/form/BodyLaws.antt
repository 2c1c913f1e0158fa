-- Every body keeps the promise: it mutes no more than the body of the same thinning with every cut, each of three bars and low,
-- and the late bass drop; and those few bodies are computed. Assumes nothing.
use mathlib.Core.Path.{◌≡◌, refl, sym, subst}
use mathlib.Core.Bool.{Bool, true, false, not, ◌&&◌, ◌||◌}
use Prim.Native.Nat.{ℕ, ◌+◌, ◌-◌, ◌*◌, ◌/◌, ◌%◌, ◌≤◌, ◌<◌}
use native.Mathlib.Omega.{arith}
use lib.Dec.{T, leb, eqb, leb→le, le→leb}
use lib.ListN.{replicate, get_or-replicate}
use mir.Facts.{and_yes}
use Rattle.laws.specs.Runs.{lacking}
use Rattle.laws.proofs.Bools.{or_map, contra}
use Rattle.laws.proofs.Runs.{every, every_at, windows, windows_among, runs_at_most}
use denote.Enum.Bare.{sameb}
use Rattle.composer.specs.contracts.form.decisions.Thinning.{the_type}
use Rattle.composer.specs.Form.Body.{is_break, low_thinning, thins, no_cut, cut_at, may_cut, cut_heard, cut_takes, late_drop, drums_out, bass_out, body_bar_of}
use Rattle.composer.specs.Form.Promise.{BodyPromise}
use Rattle.composer.specs.declared.form.decisions.Opening.{Opening}
use Rattle.composer.specs.declared.form.decisions.Closing.{Closing}
use Rattle.composer.specs.declared.form.decisions.Thinning.{Thinning}
use Rattle.composer.specs.declared.form.decisions.Cut.{Cut}
use Rattle.composer.specs.declared.form.decisions.Decisions.{Decisions}
use Rattle.composer.proofs.form.PromiseLaws.{promise_more}

-- what the code's test of a thinning says
pub break_test : (t : Thinning) → sameb the_type t Thinning.Break ≡ is_break t
break_test Thinning.Break = refl
break_test Thinning.BassDrop = refl
break_test Thinning.Steady = refl

abbrev long_cut : Cut
long_cut = record { on = true; bars = 3; low = true }

abbrev worst : ℕ → Thinning → Bool → Bool → Decisions
worst P t whole low = record {
  opening = Opening.Cold;
  long_intro = false;
  phrases = P;
  thinning = t;
  whole = whole;
  low_with_break = low;
  cutting = true;
  cuts = replicate 6 long_cut;
  bass_drop = true;
  dip = false;
  closing = Closing.Cold;
  long_outro = false;
}

-- ---- what a body has, and the promise as a test
abbrev pad_at : Decisions → ℕ → Bool
pad_at d b = (body_bar_of d b).pad

abbrev drums_at : Decisions → ℕ → Bool
drums_at d b = (body_bar_of d b).drums

abbrev bass_at : Decisions → ℕ → Bool
bass_at d b = (body_bar_of d b).bass

abbrev both_at : Decisions → ℕ → Bool
both_at d b = drums_at d b && bass_at d b

abbrev runs_test : ℕ → Decisions → Bool
runs_test P d = windows 9 (drums_at d) (8 * P) && (windows 12 (bass_at d) (8 * P) && windows 12 (both_at d) (8 * P))

abbrev count_test : ℕ → Decisions → Bool
count_test P d = leb (lacking (drums_at d) (8 * P) + 4) (3 * P) && leb (lacking (bass_at d) (8 * P) + 1) (3 * P)

abbrev test : Thinning → Bool → Bool → ℕ → Bool
test t whole low P = runs_test P (worst P t whole low) && count_test P (worst P t whole low)

-- P is 4, 5 or 6
worst_tests : (t : Thinning) (whole low : Bool) → T (every 3 (λ n. test t whole low (4 + n)))
unfolding body_bar_of cut_heard
worst_tests Thinning.Break true true = tt
worst_tests Thinning.Break true false = tt
worst_tests Thinning.Break false true = tt
worst_tests Thinning.Break false false = tt
worst_tests Thinning.BassDrop true low = tt
worst_tests Thinning.BassDrop false low = tt
worst_tests Thinning.Steady whole low = tt

worst_test : (t : Thinning) (whole low : Bool) (P : ℕ) → 4 ≤ P → P ≤ 6 → T (test t whole low P)
worst_test t whole low P l m =
    let e : 4 + (P - 4) ≡ P = omega arith in
    subst (λ (n : ℕ). T (test t whole low n)) e (every_at 3 (λ n. test t whole low (4 + n)) (worst_tests t whole low) (P - 4) (omega arith))

worst_promise : (t : Thinning) (whole low : Bool) (P : ℕ) → 4 ≤ P → P ≤ 6 → BodyPromise P (pad_at (worst P t whole low)) (drums_at (worst P t whole low)) (bass_at (worst P t whole low))
unfolding body_bar_of
worst_promise t whole low P l m =
    let d = worst P t whole low in
    let parts = and_yes (runs_test P d) (count_test P d) (worst_test t whole low P l m) in
    let runs = and_yes (windows 9 (drums_at d) (8 * P)) (windows 12 (bass_at d) (8 * P) && windows 12 (both_at d) (8 * P)) parts.0 in
    let low-runs = and_yes (windows 12 (bass_at d) (8 * P)) (windows 12 (both_at d) (8 * P)) runs.1 in
    let counts = and_yes (leb (lacking (drums_at d) (8 * P) + 4) (3 * P)) (leb (lacking (bass_at d) (8 * P) + 1) (3 * P)) parts.1 in
    record {
      chords = λ b h. refl;
      drums_running = runs_at_most 8 (drums_at d) (8 * P) (windows_among 9 (drums_at d) (8 * P) runs.0);
      bass_running = runs_at_most 11 (bass_at d) (8 * P) (windows_among 12 (bass_at d) (8 * P) low-runs.0);
      together = windows_among 12 (both_at d) (8 * P) low-runs.1;
      drums_in_all = leb→le (lacking (drums_at d) (8 * P) + 4) (3 * P) counts.0;
      bass_in_all = leb→le (lacking (bass_at d) (8 * P) + 1) (3 * P) counts.1;
    }

-- ---- each body mutes a part of the worst
cut_part : (c on may long long' : Bool) → (T long → T long') → T (((c && on) && may) && long) → T (may && long')
cut_part true true true long long' i u = i u
cut_part true true false long long' i u = u
cut_part true false may long long' i u = absurd u
cut_part false on may long long' i u = absurd u

low_part : (cut cut' low : Bool) → (T cut → T cut') → T (cut && low) → T (cut' && true)
low_part true true low i u = tt
low_part true false low i u = i tt
low_part false cut' low i u = absurd u

drop_part : (drawn five keeps there : Bool) → T (((drawn && five) && keeps) && there) → T ((five && keeps) && there)
drop_part true five keeps there u = u
drop_part false five keeps there u = absurd u

module _ (d : Decisions) (short : (p : ℕ) → (cut_at d p).bars ≤ 3) (most : d.phrases ≤ 6) where
  abbrev w : Decisions
  w = worst d.phrases d.thinning d.whole d.low_with_break

  module _ (b : ℕ) (inside : b < 8 * d.phrases) where
    long_cut_lem : cut_at w (b / 8) ≡ long_cut
    long_cut_lem = get_or-replicate 6 (b / 8) long_cut no_cut (omega arith)

    cut_worst : T (cut_takes d b) → T (cut_takes w b)
    unfolding cut_heard
    cut_worst u =
        rw long_cut_lem
        (cut_part d.cutting (cut_at d (b / 8)).on (may_cut d (b / 8)) (leb (8 - b % 8) (cut_at d (b / 8)).bars) (leb (8 - b % 8) 3)
        (λ v. le→leb (8 - b % 8) 3 (omega (arith, leb→le (8 - b % 8) (cut_at d (b / 8)).bars v, short (b / 8)))) u)

    low_worst : T (cut_takes d b && (cut_at d (b / 8)).low) → T (cut_takes w b && (cut_at w (b / 8)).low)
    low_worst u =
        subst (λ (c : Cut). T (cut_takes w b && c.low)) (sym long_cut_lem) (low_part (cut_takes d b) (cut_takes w b) (cut_at d (b / 8)).low cut_worst u)

    drums_worst : T (drums_out d b) → T (drums_out w b)
    drums_worst = or_map (is_break d.thinning && thins d b) (cut_takes d b) (is_break d.thinning && thins d b) (cut_takes w b) (λ v. v) cut_worst

    bass_worst : T (bass_out d b) → T (bass_out w b)
    bass_worst =
        or_map ((low_thinning d && thins d b) || (cut_takes d b && (cut_at d (b / 8)).low)) (late_drop d b) ((low_thinning d && thins d b) || (cut_takes w b && (cut_at w (b / 8)).low)) (late_drop w b)
        (or_map (low_thinning d && thins d b) (cut_takes d b && (cut_at d (b / 8)).low) (low_thinning d && thins d b) (cut_takes w b && (cut_at w (b / 8)).low) (λ v. v) low_worst)
        (drop_part d.bass_drop (leb 5 d.phrases) (not (low_thinning d)) (eqb (b / 8) (d.phrases / 2 + 1) && leb 4 (b % 8)))

    more_drums : drums_at w b ≡ true → drums_at d b ≡ true
    unfolding body_bar_of
    more_drums = contra (drums_out d b) (drums_out w b) drums_worst

    more_bass : bass_at w b ≡ true → bass_at d b ≡ true
    unfolding body_bar_of
    more_bass = contra (bass_out d b) (bass_out w b) bass_worst

  pub body_promise : 4 ≤ d.phrases → BodyPromise d.phrases (λ b. (body_bar_of d b).pad) (λ b. (body_bar_of d b).drums) (λ b. (body_bar_of d b).bass)
  unfolding body_bar_of
  body_promise least =
      promise_more d.phrases (pad_at w) (drums_at w) (bass_at w) (pad_at d) (drums_at d) (bass_at d) (λ b h e. refl) more_drums more_bass
      (worst_promise d.thinning d.whole d.low_with_break d.phrases least most)
