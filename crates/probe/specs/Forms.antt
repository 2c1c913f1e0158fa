-- Forms in numbers. Definitions only.
use Rattle.std.specs.Prelude.{Bool, cond, List, [], ◌∷◌, ℕ, zero, suc, ◌+◌, ◌-◌, ◌*◌, ◌^◌, eqb, leb, ℤ, pos, neg_ℤ, get_or, Result, Ok, Err}
use Rattle.std.specs.Result.{result_unwrap_or}
use Rattle.streams.specs.Stage.{stream_of}
use Rattle.streams.specs.declared.stage.Stage.{Stage}
use Rattle.composer.specs.Refusal.{number_of}
use Rattle.composer.specs.Form.{intro_bars_of, outro_bars_of, lead_in_of}
use Rattle.composer.specs.Form.Ask.{beatless_of}
use Rattle.composer.specs.Form.Decisions.{decide_of}
use Rattle.composer.specs.Form.Ends.{end_code_of, outro_code_of}
use Rattle.composer.specs.Form.Plays.{bits_of, silent}
use Rattle.composer.specs.Form.Song.{arrange_of}
use Rattle.composer.specs.declared.form.Form.{Form}
use Rattle.composer.specs.declared.form.ends.Bars.{Bars}
use Rattle.composer.specs.declared.form.ends.Edge.{Edge}
use Rattle.composer.specs.declared.form.ends.End.{End}
use Rattle.composer.specs.declared.form.ends.Outro.{Outro}
use Rattle.composer.specs.declared.form.plays.Plays.{Plays}
use Rattle.probe.specs.Draws.{flag_of}
use Rattle.composer.specs.declared.refusal.Refusal.{Refusal}

-- ---- words
-- n bars from `from` on, four bits each, the first bar highest
unfoldable pub bars_word_of : List Plays → ℕ → ℕ → ℕ
bars_word_of ps from zero = 0
bars_word_of ps from (suc n) = bars_word_of ps from n * 16 + bits_of (get_or ps (from + n) silent)

-- four bytes, the first highest
abbrev pub four_of : ℕ → ℕ → ℕ → ℕ → ℕ
four_of a b c d = ((a * 256 + b) * 256 + c) * 256 + d

unfoldable pub head_of : Form → ℕ
head_of f =
    four_of (end_code_of f.intro) (intro_bars_of f) f.phrases (outro_code_of f.outro) * 2 ^ 32
    + four_of (outro_bars_of f) (flag_of f.dip) f.bars (lead_in_of f)

-- its numbers, then 16 bars in each of four words
unfoldable pub form_word_of : Form → ℕ → ℕ
form_word_of f k = cond (eqb k 0) (head_of f) (cond (leb k 4) (bars_word_of f.plays (16 * (k - 1)) 16) 0)

-- ---- answers
-- the number of the refusal, 0 for none
abbrev pub outcome_number_of : {A : Type 0} → Result A Refusal → ℕ
outcome_number_of (Ok x) = 0
outcome_number_of (Err r) = number_of r

-- a form that is refused has its own words
unfoldable pub beatless_word_of : Form → ℕ → ℕ
beatless_word_of f k = cond (eqb k 5) (outcome_number_of (beatless_of f)) (form_word_of (result_unwrap_or (beatless_of f) f) k)

-- the bar's layers, or minus the number of the refusal
abbrev pub plays_number_of : Result Plays Refusal → ℤ
plays_number_of (Ok p) = pos (bits_of p)
plays_number_of (Err r) = neg_ℤ (pos (number_of r))

abbrev pub counter_of : ℕ → ℕ
counter_of seed = (decide_of (stream_of Stage.Form seed)).stream.counter

-- ---- forms of other parts
abbrev pub ends : List End
ends =
    End.Cold ∷ End.Plain Bars.Four ∷ End.Plain Bars.Eight ∷ End.Edged Bars.Four Edge.Fade ∷ End.Edged Bars.Eight Edge.Fade
    ∷ End.Edged Bars.Four Edge.Filter ∷ End.Edged Bars.Eight Edge.Filter ∷ []

-- the end by its number; a number of none is cold
unfoldable pub end_by : ℕ → End
end_by n = get_or ends n End.Cold

abbrev pub outro_by : ℕ → Outro
outro_by n = cond (eqb n 7) Outro.RingOut (Outro.Ends (end_by n))

-- the seed's form with other parts
unfoldable pub made_of : ℕ → ℕ → ℕ → ℕ → Bool → ℕ → Form
made_of seed intro phrases outro dip bars = record {
  intro = end_by intro;
  phrases = phrases;
  outro = outro_by outro;
  dip = dip;
  plays = (arrange_of seed).plays;
  bars = bars;
}
