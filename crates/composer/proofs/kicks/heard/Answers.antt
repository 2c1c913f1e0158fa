-- The kicks among the hits so far stand before the padding. Assumes nothing.
use Rattle.std.proofs.Common.{◌≡◌, refl, sym, ◌∙◌, ◌+◌, [], ◌∷◌, ◌++◌, get_or, take, arith, add-one, length-append}
use Rattle.std.proofs.lemmas.List.{append-nil}
use Rattle.laws.specs.Lists.{pad}
use Rattle.laws.proofs.Lists.{pad_push}
use Rattle.composer.specs.Note.{zero32, past_hit}
use Rattle.composer.specs.Kicks.{times_of}
use Rattle.composer.proofs.KicksLaws.{kick_test, times_more}
use Rattle.composer.proofs.kicks.heard.Goals as goal
use Rattle.composer.proofs.kicks.heard.Goals.{then-eq, else-eq}

pub loop-hit-init : goal.loop-hit-init
unfolding times_of pad
loop-hit-init c = record { few = omega arith; count = refl; times = refl }

pub loop-hit-preserved : goal.loop-hit-preserved
loop-hit-preserved c =
    let l = c.loop-hit in
    let hits = c.args.hits.now in
    let hit = get_or hits l.hit-index past_hit in
    let times = times_of (take l.hit-index hits) in
    let is = sym (kick_test hit.kind) ∙ sym c.eq.ensures in
    let more = times_more hits l.hit-index past_hit (omega arith) in
    elim c.if-eq.branch [
      | then-eq w ↦
          let grown : times_of (take (l.hit-index + 1) hits) ≡ times ++ (hit.at ∷ []) = rw (add-one, more, is, w.if-eq.true) in
          record {
            few = omega arith;
            count = rw (w.count-is, grown, length-append times (hit.at ∷ [])) (omega arith);
            times = rw (w.at-is, grown, l.invariant.times) (pad_push zero32 98 times hit.at l.count (sym l.invariant.count) (omega arith));
          }
      | else-eq w ↦
          let same : times_of (take (l.hit-index + 1) hits) ≡ times = rw (add-one, more, is, w.if-eq.false, append-nil) in
          record { few = omega arith; count = rw (w.count-is, same) l.invariant.count; times = rw (w.at-is, same) l.invariant.times }
    ]
