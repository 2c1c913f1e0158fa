-- Events in range, one by one where they stand. Definitions only.
use Rattle.std.specs.Prelude.{Bool, List, ℕ, ◌+◌, ◌*◌}
use Rattle.pages.specs.Edition.{note_width}
use Rattle.pages.specs.declared.edition.Edition.{Edition}
use Rattle.reader.specs.Song.{note_at, hit_at}
use Rattle.reader.specs.Tests.{all_to}
use Rattle.reader.specs.Within.{note_within, hit_within}

-- n of them from a place on
abbrev pub notes_pass : Edition → Bool → List ℕ → ℕ → ℕ → Bool
notes_pass edition leads bytes at n = all_to (λ i. note_within edition leads (note_at edition leads bytes (at + note_width edition * i))) n

abbrev pub hits_pass : List ℕ → ℕ → ℕ → Bool
hits_pass bytes at n = all_to (λ i. hit_within (hit_at bytes (at + 10 * i))) n
