-- The array holds the notes below x, at most one for each semitone passed. Assumes nothing.
use Rattle.std.proofs.Common.{◌≡◌, ◌∙◌, ◌+◌, ◌-◌, arith}
use Rattle.composer.specs.Lead.Tones.{has_class, kept, scale_notes_in}
use Rattle.composer.proofs.lead.TonesLaws.{holds_on, tones_written}
use Rattle.laws.proofs.Bools.{bit_few}
use Rattle.laws.proofs.Written.{written_none}
use Rattle.composer.proofs.lead.tones.scale_notes.Goals as goal
use Rattle.composer.proofs.lead.tones.scale_notes.Goals.{else-loop-x-test, then-loop-x-test+else-x-hi}

pub loop-x-init : goal.loop-x-init
unfolding kept
loop-x-init c =
    let e : c.args.lo - c.args.lo ≡ 0 = omega arith in
    record { few = omega arith; written = rw e (written_none 0 20) }

pub loop-x-preserved : goal.loop-x-preserved
loop-x-preserved c =
    let l = c.loop-x in
    let b = c.has-keep.result in
    record {
      few = omega (arith, bit_few b);
      written = holds_on (has_class c.args.pool.now) c.args.lo l.x l.at l.n b (omega arith) (omega arith) c.has-keep.ensures l.invariant.written;
    }

pub returns : goal.returns
unfolding scale_notes_in
returns c =
    let l = c.loop-x in
    let lo = c.args.lo in
    let passes = has_class c.args.pool.now in
    elim c.loop-x-test.branch [
      | else-loop-x-test w ↦ absurd (omega arith)
      | then-loop-x-test+else-x-hi w ↦
          let e : l.x ≡ c.args.hi = omega arith in
          let all = holds_on passes lo l.x l.at l.n w.has-keep.result (omega arith) (omega arith) w.has-keep.ensures l.invariant.written in
          c.cleared.ensures ∙ rw (w.at-is, w.n-is, ← e) (tones_written (kept passes lo (l.x + 1 - lo)) _ _ all)
    ]
