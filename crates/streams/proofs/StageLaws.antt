-- A stage's stream starts at its first draw, and a stage's number names that stage. Assumes nothing.
use Rattle.std.proofs.Common.{◌≡◌, ℕ, Ok, refl}
use Rattle.streams.specs.Stage.{id_of, stage_named, stream_of}
use Rattle.streams.specs.declared.stage.Stage.{Stage}

pub stream_counter : (st : Stage) (seed : ℕ) → (stream_of st seed).counter ≡ 0
unfolding stream_of
stream_counter st seed = refl

pub id_named : (st : Stage) → stage_named (id_of st) ≡ Ok st
id_named Stage.Form = refl
id_named Stage.Harmony = refl
id_named Stage.Tempo = refl
id_named Stage.Lead = refl
id_named Stage.Keys = refl
id_named Stage.Drums = refl
id_named Stage.Bass = refl
id_named Stage.LeadVoice = refl
