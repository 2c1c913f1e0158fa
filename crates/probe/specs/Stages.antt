-- The streams of the stages, by number. Definitions only.
use Rattle.std.specs.Prelude.{cond, List, [], ◌∷◌, ℕ, eqb, ℤ, pos, negsuc, length, set, get_or, Option, Some, None}
use Rattle.streams.specs.Stage.{stream_of}
use Rattle.streams.specs.declared.stage.Stage.{Stage}

-- the stages in the order of their numbers
abbrev pub stages : List (Option Stage)
stages =
    None ∷ Some Stage.Form ∷ Some Stage.Harmony ∷ Some Stage.Tempo ∷ Some Stage.Lead
    ∷ Some Stage.Keys ∷ Some Stage.Drums ∷ Some Stage.Bass ∷ Some Stage.LeadVoice ∷ []

unfoldable pub stage_of : ℕ → Option Stage
stage_of n = get_or stages n None

-- -16 for no stage, -2 where there is no place, else 1
abbrev pub answer_by : Option Stage → List ℕ → ℤ
answer_by None out = negsuc 15
answer_by (Some st) out = cond (eqb (length out) 0) (negsuc 1) (pos 1)

-- the stream's seed in the first place, where there is one
abbrev pub buffer_by : Option Stage → ℕ → List ℕ → List ℕ
buffer_by None seed out = out
buffer_by (Some st) seed out = set out 0 (stream_of st seed).seed

abbrev pub seed_answer : ℕ → List ℕ → ℤ
seed_answer n out = answer_by (stage_of n) out

abbrev pub seed_buffer : ℕ → ℕ → List ℕ → List ℕ
seed_buffer n seed out = buffer_by (stage_of n) seed out
