-- A turn of the loops over the rhythm's bars, and the fallback between them. Assumes nothing.
use mathlib.Core.Path.{◌≡◌, refl, ap, ◌∙◌}
use mathlib.Core.Bool.{Bool, true, false, cond}
use mathlib.Core.List.{List}
use Prim.Native.Nat.{ℕ, ◌+◌}
use lib.Dec.{ltb}
use lib.ListN.{get_or, set}
use lib.Seq.{set-get_or}
use Rattle.streams.specs.declared.stream.NoiseStream.{NoiseStream}
use Rattle.streams.specs.declared.stream.Draw.{Draw}
use Rattle.composer.specs.Lead.Beats.{Beats, past_beats}
use Rattle.composer.specs.Lead.Statement.{statement_bar_of}
use Rattle.composer.specs.Lead.Answer.{answer_bar_of}
use Rattle.composer.specs.Lead.Rhythm.{state_of, notes_in, fallback_first, fallback_third, fallback_of, reply_of}
use Rattle.composer.specs.declared.style.LeadStyle.{LeadStyle}

abbrev pub whole : List Beats → NoiseStream → Draw (List Beats)
whole bars stream = record { value = bars; stream = stream }

pub state_on : (style : LeadStyle) (r q : Draw (List Beats)) (k : ℕ) (d : Draw Beats) → r ≡ q → d ≡ statement_bar_of r.stream style → whole (set r.value k d.value) d.stream ≡ state_of q style k
unfolding state_of
state_on style r q k d e f = rw (f, e)

pub reply_on : (r q : Draw (List Beats)) (k : ℕ) (d : Draw Beats) → r ≡ q → d ≡ answer_bar_of r.stream (get_or r.value k past_beats) → whole (set r.value (4 + k) d.value) d.stream ≡ reply_of q k
unfolding reply_of
reply_on r q k d e f = rw (f, e)

-- with enough notes each of the two bars is put back where it was
pub fallback_by : (r q : Draw (List Beats)) (first third : Beats) → r ≡ q → first ≡ cond (ltb (notes_in r.value) 2) fallback_first (get_or r.value 0 past_beats)
    → third ≡ cond (ltb (notes_in r.value) 2) fallback_third (get_or r.value 2 past_beats) → whole (set (set r.value 0 first) 2 third) r.stream ≡ whole (fallback_of q.value) q.stream
unfolding fallback_of
fallback_by r q first third e f g = rw (f, g, e) (ap (λ (bars : List Beats). whole bars q.stream) (go q.value (ltb (notes_in q.value) 2)))
  where
    go : (bars : List Beats) (t : Bool) → set (set bars 0 (cond t fallback_first (get_or bars 0 past_beats))) 2 (cond t fallback_third (get_or bars 2 past_beats)) ≡ cond t (set (set bars 0 fallback_first) 2 fallback_third) bars
    go bars true = refl
    go bars false = ap (λ (b : List Beats). set b 2 (get_or bars 2 past_beats)) (set-get_or bars 0 past_beats) ∙ set-get_or bars 2 past_beats
