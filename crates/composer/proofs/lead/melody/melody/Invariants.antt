-- After k turns k bars are sung, and after i more turns i notes of the next; what the turns ask is what a good melody so far gives. Assumes nothing.
use mathlib.Core.Path.{◌≡◌}
use mathlib.Core.List.{List}
use Prim.Native.Nat.{ℕ, ◌+◌, ◌*◌, ◌≤◌, ◌<◌}
use Rattle.composer.specs.Lead.Melody.{bar_to, bars_to}
use Rattle.composer.specs.declared.lead.line.Line.{Line}
use Rattle.composer.specs.declared.lead.melody.LeadNote.{LeadNote}
use Rattle.composer.specs.declared.lead.melody.Sung.{Sung}
use Rattle.composer.proofs.lead.melody.melody.Given as goal

abbrev pub sung_with : List LeadNote → ℕ → Line → Sung
sung_with notes count line = record { notes = record { at = notes; n = count }; line = line }

abbrev pub invariant-loop-i : goal.invariant-loop-i
invariant-loop-i l =
    (l.i ≤ l.n) × (l.n ≤ 7) × (l.k < 8) × (l.count ≤ 7 * l.k + l.i) × (sung_with l.notes l.count l.line ≡ bar_to l.pool l.g l.bar l.b (sung_with l.initial.notes l.initial.count l.initial.line) l.i)

abbrev pub invariant-loop-k : goal.invariant-loop-k
invariant-loop-k l =
    (l.k ≤ 8) × (l.count ≤ 7 * l.k) × (sung_with l.notes l.count l.line ≡ bars_to l.beats l.bars l.pool l.style (sung_with l.initial.notes l.initial.count l.initial.line) l.k)
