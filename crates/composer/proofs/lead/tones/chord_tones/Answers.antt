-- The arrays hold the chord's of the notes so far, and those of them that are not its root. Assumes nothing.
use Rattle.std.proofs.Common.{◌≡◌, ◌∙◌, ap, Bool, ◌&&◌, leb, ℕ, ◌%◌, ◌<◌, List, [], get_or, arith}
use Rattle.composer.specs.Lead.Tones.{in_chord_of, is_other, is_tone_of}
use Rattle.composer.proofs.lead.TonesLaws.{tone_is, chosen_none, chosen_on, chosen_all, filtered_both}
use Rattle.laws.proofs.Bools.{bit_few}
use Rattle.composer.proofs.lead.tones.chord_tones.Invariants.{is_upper}
use Rattle.composer.proofs.lead.tones.chord_tones.Goals as goal

pub loop-x-init : goal.loop-x-init
loop-x-init c = record {
  few = omega arith;
  fewer = omega arith;
  tones = chosen_none (in_chord_of c.args.chord.notes) [];
  rootless = chosen_none (is_upper c.args.chord.notes c.root_class-root.result) [];
}

pub loop-x-preserved : goal.loop-x-preserved
loop-x-preserved c =
    let l = c.loop-x in
    let xs = c.used-x-items.result.now in
    let x = get_or xs l.x-index 0 in
    let chord = c.args.chord.notes in
    let root = c.root_class-root.result in
    let keep = leb (get_or c.lowest_of-lowest.result (x % 12) 0) x in
    let small : x < 256 = omega arith in
    let is : keep ≡ in_chord_of chord x = ap (λ (t : List ℕ). is_tone_of t x) c.lowest_of-lowest.ensures ∙ tone_is chord x small in
    record {
      few = omega (arith, bit_few keep);
      fewer = omega (arith, bit_few (keep && is_other root x));
      tones = chosen_on (in_chord_of chord) xs l.x-index l.at l.n keep (omega arith) (omega arith) is l.invariant.tones;
      rootless =
          chosen_on (is_upper chord root) xs l.x-index l.others l.m (keep && is_other root x) (omega arith) (omega arith) (ap (λ (b : Bool). b && is_other root x) is) l.invariant.rootless;
    }

pub returns : goal.returns
returns c =
    let l = c.loop-x in
    let xs = c.used-x-items.result.now in
    let chord = c.args.chord.notes in
    let root = c.root_class-root.result in
    rw (
      c.cleared-rootless.ensures,
      c.cleared-tones.ensures,
      chosen_all (in_chord_of chord) xs l.x-index l.at l.n c.loop-x-test.false l.invariant.tones,
      chosen_all (is_upper chord root) xs l.x-index l.others l.m c.loop-x-test.false l.invariant.rootless,
      filtered_both (in_chord_of chord) (is_other root) xs,
      c.root_class-root.ensures,
      c.used-x-items.ensures.value,
    )
