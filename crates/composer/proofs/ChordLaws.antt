-- Every chord of the grammar, in every key: its root in 48 to 59, and third, fifth and seventh above. Assumes nothing.
use mathlib.Core.Path.{◌≡◌, refl, sym, ap, subst}
use mathlib.Core.Bool.{Bool, ◌&&◌}
use mathlib.Core.List.{List, [], ◌∷◌}
use Prim.Native.Nat.{ℕ, zero, suc, ◌+◌, ◌%◌, ◌≤◌, ◌<◌}
use native.Mathlib.Omega.{arith}
use lib.Dec.{leb, leb→le}
use lib.ListN.{length, get_or}
use mir.Facts.{and_yes}
use Rattle.laws.proofs.Runs.{every_at}
use Rattle.composer.specs.Chord.{root_class_of, fifth_class_of, in_octave_from, degree_at, voiced_of, RootPosition}
use Rattle.composer.specs.Range.{Within}
use Rattle.composer.specs.declared.chord.Chord.{Chord}
use Rattle.composer.specs.declared.chord.Degree.{Degree}

-- a pitch class, a third and a seventh
pub record Small (g : Degree) : Type 0 where
  pub root : g.root_pc ≤ 9
  pub third_least : 3 ≤ g.third
  pub third_most : g.third ≤ 4
  pub seventh_least : 10 ≤ g.seventh
  pub seventh_most : g.seventh ≤ 11

abbrev thirds : Degree → Bool
thirds g = leb 3 g.third && leb g.third 4

abbrev sevenths : Degree → Bool
sevenths g = leb 10 g.seventh && leb g.seventh 11

abbrev small : ℕ → Bool
small d = leb (degree_at d).root_pc 9 && (thirds (degree_at d) && sevenths (degree_at d))

pub degree_small : (d : ℕ) → d < 6 → Small (degree_at d)
degree_small d h =
    let g = degree_at d in
    let a = and_yes (leb g.root_pc 9) (thirds g && sevenths g) (every_at 6 small tt d h) in
    let b = and_yes (thirds g) (sevenths g) a.1 in
    let t = and_yes (leb 3 g.third) (leb g.third 4) b.0 in
    let s = and_yes (leb 10 g.seventh) (leb g.seventh 11) b.1 in
    record {
      root = leb→le g.root_pc 9 a.0;
      third_least = leb→le 3 g.third t.0;
      third_most = leb→le g.third 4 t.1;
      seventh_least = leb→le 10 g.seventh s.0;
      seventh_most = leb→le g.seventh 11 s.1;
    }

-- of a class below 12
octave_class : (pc : ℕ) → pc < 12 → in_octave_from 48 pc ≡ 48 + pc
octave_class pc h = omega arith

pub voiced_root : (d key : ℕ) → d < 6 → RootPosition (voiced_of (degree_at d) key)
voiced_root d key h =
    let g = degree_at d in
    let s = degree_small d h in
    let pc = (g.root_pc + key) % 12 in
    let lt : pc < 12 = omega arith in
    let e = octave_class pc lt in
    record {
      root = in_octave_from 48 pc;
      third = g.third;
      seventh = g.seventh;
      notes = refl;
      least = omega (arith, e);
      most = omega (arith, e, lt);
      third_within = (s.third_least, s.third_most);
      seventh_within = (s.seventh_least, s.seventh_most);
    }

-- the first note's class is the degree's in the key
pub voiced_class : (d key : ℕ) → root_class_of (voiced_of (degree_at d) key) ≡ ((degree_at d).root_pc + key) % 12
voiced_class d key =
    let pc = ((degree_at d).root_pc + key) % 12 in
    let lt : pc < 12 = omega arith in
    omega (arith, octave_class pc lt)

-- ---- a chord in root position: four notes, from 48 to 70
module _ (c : Chord) (r : RootPosition c) where
  pub root_size : length c.notes ≡ 4
  root_size = ap length r.notes

  pub root_fifth : (root_class_of c + 7) % 12 ≡ fifth_class_of c
  root_fifth = rw r.notes (omega arith)

  placed_within : (k : ℕ) → k < 4 → Within 48 70 (get_or (r.root ∷ (r.root + r.third) ∷ (r.root + 7) ∷ (r.root + r.seventh) ∷ []) k 0)
  placed_within zero h = record { least = r.least; most = omega (arith, r.most) }
  placed_within (suc zero) h = record { least = omega (arith, r.least); most = omega (arith, r.most, r.third_within.1) }
  placed_within (suc (suc zero)) h = record { least = omega (arith, r.least); most = omega (arith, r.most) }
  placed_within (suc (suc (suc zero))) h = record { least = omega (arith, r.least); most = omega (arith, r.most, r.seventh_within.1) }
  placed_within (suc (suc (suc (suc k)))) h = absurd (omega arith)

  pub root_within : (k : ℕ) → k < 4 → Within 48 70 (get_or c.notes k 0)
  root_within k h = subst (λ (notes : List ℕ). Within 48 70 (get_or notes k 0)) (sym r.notes) (placed_within k h)
