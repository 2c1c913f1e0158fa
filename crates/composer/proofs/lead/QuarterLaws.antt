-- A quarter beat pushed or shifted is a quarter beat, by computation at each of the thirteen. Assumes nothing.
use mathlib.Core.Path.{◌≡◌, refl, sym, ap, ◌∙◌, subst}
use mathlib.Core.Bool.{Bool, true, false, ◌&&◌, cond}
use Prim.Native.Nat.{ℕ, ◌+◌, ◌-◌, ◌*◌, ◌≤◌, ◌<◌, min}
use native.Mathlib.Omega.{arith}
use lib.Dec.{T, eqb, leb, eqb→eq, leb→le}
use lib.Ieee.{Float, binary32, add, sub, mul, div, neg, eq, lt, of_int, of_bits, to_bits, fits}
use lib.Ieee.Fits.{add-fits, sub-fits, mul-fits, div-fits, cond-fits}
use mir.Facts.{and_yes}
use Rattle.laws.specs.Floats.{fract_of}
use Rattle.laws.specs.Lists.{list_to}
use Rattle.laws.specs.Sorts.{All}
use Rattle.laws.proofs.Bools.{cond_by}
use Rattle.laws.proofs.Order.{same_bits}
use Rattle.laws.proofs.Runs.{every, every_at}
use Rattle.laws.proofs.Sorts.{all_list_to}
use Rattle.streams.specs.Draw.{chance_of, coin_of}
use Rattle.streams.specs.declared.stream.NoiseStream.{NoiseStream}
use Rattle.streams.specs.declared.stream.Draw.{Draw}
use Rattle.composer.specs.Note.{zero32}
use Rattle.composer.specs.Timing.{sixteenth_beats}
use Rattle.composer.specs.Lead.Grid.{grid_beat_of, lead_grid, grid_first, grid_last}
use Rattle.composer.specs.Lead.Push.{push_p, push_of}
use Rattle.composer.specs.Lead.Answer.{shift_p, either_way_of, clamp_of, shift_of}
use Rattle.composer.specs.Lead.Settled.{quarters, Quarter}

quarter_by : (x : Float) (q : ℕ) → 2 ≤ q → q ≤ 14 → T (fits binary32 x) → T (eqb (to_bits binary32 x) (to_bits binary32 (quarters q))) → Quarter x
quarter_by x q a b f t = record {
  times = q;
  least = a;
  most = b;
  is = same_bits binary32 x (quarters q) f (mul-fits binary32 _ _) (eqb→eq (to_bits binary32 x) (to_bits binary32 (quarters q)) t);
}

-- ---- the grid
pub quarter_on : (q : ℕ) → T (leb 2 q && leb q 14) → Quarter (quarters q)
quarter_on q t =
    let u = and_yes (leb 2 q) (leb q 14) t in
    record { times = q; least = leb→le 2 q u.0; most = leb→le q 14 u.1; is = refl }

-- half of i + 1 is i + 1 times two quarters
abbrev grid_test : ℕ → Bool
grid_test i = eqb (to_bits binary32 (grid_beat_of i)) (to_bits binary32 (quarters (2 * i + 2)))

grid_tested : T (every 7 grid_test)
unfolding mul div of_int of_bits to_bits
grid_tested = tt

grid_quarter : (i : ℕ) → i < 7 → Quarter (grid_beat_of i)
grid_quarter i h = quarter_by (grid_beat_of i) (2 * i + 2) (omega arith) (omega arith) (div-fits binary32 _ _) (every_at 7 grid_test grid_tested i h)

pub grid_quarters : All Quarter lead_grid
grid_quarters = all_list_to grid_beat_of Quarter 7 grid_quarter

-- ---- the push: q quarters on a whole beat become q - 1
abbrev push_test : ℕ → Bool
push_test p =
    cond (eq (fract_of (quarters (p + 2))) zero32) (leb 1 p && eqb (to_bits binary32 (sub binary32 (quarters (p + 2)) sixteenth_beats)) (to_bits binary32 (quarters (p + 1)))) true

push_tested : T (every 13 push_test)
unfolding mul of_int of_bits sub eq to_bits fract_of
push_tested = tt

push_at : (p : ℕ) → p < 13 → eq (fract_of (quarters (p + 2))) zero32 ≡ true → Quarter (sub binary32 (quarters (p + 2)) sixteenth_beats)
push_at p h e =
    let t : T (push_test p) = every_at 13 push_test push_tested p h in
    let u = and_yes (leb 1 p) (eqb (to_bits binary32 (sub binary32 (quarters (p + 2)) sixteenth_beats)) (to_bits binary32 (quarters (p + 1)))) (rw e at t) in
    let l = leb→le 1 p u.0 in
    quarter_by (sub binary32 (quarters (p + 2)) sixteenth_beats) (p + 1) (omega arith) (omega arith) (sub-fits binary32 _ _) u.1

-- a quarter beat by its place among the thirteen
placed : (x : Float) (a : Quarter x) → x ≡ quarters (a.times - 2 + 2)
placed x a =
    let l = a.least in
    let e : a.times ≡ a.times - 2 + 2 = omega arith in
    a.is ∙ ap quarters e

pub push_quarter : (s : NoiseStream) (x : Float) → Quarter x → Quarter (push_of s x).value
unfolding push_of
push_quarter s x a =
    let c = chance_of s push_p in
    let moved : Draw Float = record { value = cond c.value (sub binary32 x sixteenth_beats) x; stream = c.stream } in
    let stays : Draw Float = record { value = x; stream = s } in
    cond_by (λ (d : Draw Float). Quarter d.value) (eq (fract_of x) zero32) moved stays
    (λ (e : eq (fract_of x) zero32 ≡ true). cond_by Quarter c.value (sub binary32 x sixteenth_beats) x (λ (u : c.value ≡ true). ahead e) (λ (u : c.value ≡ false). a)) (λ (e : eq (fract_of x) zero32 ≡ false). a)
  where
    ahead : eq (fract_of x) zero32 ≡ true → Quarter (sub binary32 x sixteenth_beats)
    ahead e =
        let l = a.most in
        let p = placed x a in
        subst (λ (y : Float). Quarter (sub binary32 y sixteenth_beats)) (sym p) (push_at (a.times - 2) (omega arith) (subst (λ (y : Float). eq (fract_of y) zero32 ≡ true) p e))

-- ---- the shift: q quarters become q + 2 or q - 2, at least 2 and at most 14
abbrev shifted_to : Bool → ℕ → ℕ
shifted_to up p = cond up (min (p + 4) 14) (p - 2 + 2)

abbrev shift_test : Bool → ℕ → Bool
shift_test up p = eqb (to_bits binary32 (clamp_of (add binary32 (quarters (p + 2)) (either_way_of up)))) (to_bits binary32 (quarters (shifted_to up p)))

shift_tested : (up : Bool) → T (every 13 (shift_test up))
unfolding list_to mul div of_int of_bits add neg lt to_bits
shift_tested true = tt
shift_tested false = tt

clamp_fits : (x : Float) → T (fits binary32 x) → T (fits binary32 (clamp_of x))
unfolding list_to
clamp_fits x f = cond-fits binary32 (lt x grid_first) grid_first (cond (lt grid_last x) grid_last x) (div-fits binary32 _ _) (cond-fits binary32 (lt grid_last x) grid_last x (div-fits binary32 _ _) f)

shift_at : (up : Bool) (p : ℕ) → p < 13 → Quarter (clamp_of (add binary32 (quarters (p + 2)) (either_way_of up)))
shift_at up p h =
    quarter_by (clamp_of (add binary32 (quarters (p + 2)) (either_way_of up))) (shifted_to up p) (least up) (most up) (clamp_fits _ (add-fits binary32 _ _)) (every_at 13 (shift_test up) (shift_tested up) p h)
  where
    least : (up : Bool) → 2 ≤ shifted_to up p
    least true = omega arith
    least false = omega arith

    most : (up : Bool) → shifted_to up p ≤ 14
    most true = omega arith
    most false = omega arith

pub shift_quarter : (s : NoiseStream) (x : Float) → Quarter x → Quarter (shift_of s x).value
unfolding shift_of
shift_quarter s x a =
    let c = chance_of s shift_p in
    let up = coin_of c.stream in
    let moved : Draw Float = record { value = clamp_of (add binary32 x (either_way_of up.value)); stream = up.stream } in
    let stays : Draw Float = record { value = x; stream = c.stream } in
    let l = a.most in
    cond_by (λ (d : Draw Float). Quarter d.value) c.value moved stays
    (λ (e : c.value ≡ true). subst (λ (y : Float). Quarter (clamp_of (add binary32 y (either_way_of up.value)))) (sym (placed x a)) (shift_at up.value (a.times - 2) (omega arith)))
    (λ (e : c.value ≡ false). a)
