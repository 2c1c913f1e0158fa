-- Whether songs span a form. Definitions only.
use Rattle.std.specs.Prelude.{Bool, not, ◌&&◌, ◌||◌, cond, List, ℕ, take}
use Rattle.std.specs.List.{list_any}
use Rattle.composer.specs.Form.Ends.{end_edged_of, outro_edged_of}
use Rattle.composer.specs.Form.Song.{arrange_of}
use Rattle.composer.specs.declared.form.Form.{Form}
use Rattle.composer.specs.declared.form.plays.Plays.{Plays}
use Rattle.composer.specs.declared.form.spans.SpansAnswer.{SpansAnswer}

-- some layer is silent
abbrev pub mutes : Plays → Bool
mutes p = not (p.pad && p.keys && p.drums && p.bass)

abbrev pub mutes_in : List Plays → ℕ → Bool
mutes_in ps n = list_any mutes (take n ps)

abbrev pub mutes_any : ℕ → Bool
mutes_any seed = mutes_in (arrange_of seed).plays (arrange_of seed).bars

-- an edge or a dip
unfoldable pub edged_of : Form → Bool
edged_of f = end_edged_of f.intro || outro_edged_of f.outro || f.dip

abbrev pub moves_any : ℕ → Bool
moves_any seed = edged_of (arrange_of seed)

abbrev pub spans_by : Bool → Bool → SpansAnswer
spans_by mutes moves = cond mutes (cond moves SpansAnswer.Spans SpansAnswer.NoneMoves) SpansAnswer.NoneMutes

unfoldable pub spans_of : List ℕ → SpansAnswer
spans_of seeds = spans_by (list_any mutes_any seeds) (list_any moves_any seeds)

-- an answer as document 01 has it
abbrev pub spans_number_of : SpansAnswer → ℕ
spans_number_of SpansAnswer.NoneMutes = 1
spans_number_of SpansAnswer.NoneMoves = 2
spans_number_of SpansAnswer.Spans = 0
