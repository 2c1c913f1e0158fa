-- Every bar of every rhythm is settled: at most seven beats, in order, spaced, on quarters, and zero behind them. Assumes nothing.
use mathlib.Core.Path.{◌≡◌, refl, ◌∙◌, subst}
use mathlib.Core.Bool.{true, false, cond}
use mathlib.Core.List.{List, [], ◌∷◌, ◌++◌, foldl}
use Prim.Native.Nat.{ℕ, zero, suc, ◌+◌, ◌≤◌, ◌<◌}
use native.Mathlib.Omega.{arith}
use lib.Dec.{eqb, ltb}
use lib.ListN.{length, get_or, set, length-append, length-set}
use lib.Ieee.{Float, nan, of_bits, of_int, mul}
use borrow.Author.Tests.{le-ltb}
use Rattle.laws.specs.Sorts.{All}
use Rattle.laws.proofs.Bools.{cond_by}
use Rattle.laws.proofs.Lists.{length_list_to, pad_at_lem}
use Rattle.laws.proofs.Sorts.{all_at, all_set, all_snoc}
use Rattle.streams.specs.Draw.{chance_of, pick_of}
use Rattle.streams.specs.declared.stream.NoiseStream.{NoiseStream}
use Rattle.streams.specs.declared.stream.Draw.{Draw}
use Rattle.composer.specs.Note.{zero32}
use Rattle.composer.specs.Style.{odds_of}
use Rattle.composer.specs.Lead.Beats.{Beats, past_beats, beats_of, list_of, add_of, without, remove_of, settled, settle_of}
use Rattle.composer.specs.Lead.Grid.{grid_beat_of, lead_grid}
use Rattle.composer.specs.Lead.Push.{push_of, push_on_of}
use Rattle.composer.specs.Lead.Statement.{empty_from, slot_of, slots_of, pushes_of, settled_of, statement_bar_of}
use Rattle.composer.specs.Lead.Answer.{drop_p, shift_of, vary_of, varied_of, drop_one_of, answer_bar_of}
use Rattle.composer.specs.Lead.Rhythm.{state_of, state_to, notes_in, fallback_first, fallback_third, fallback_of, statement_of, reply_of, reply_to, rhythm_of}
use Rattle.composer.specs.Lead.Settled.{Quarter, Settled}
use Rattle.composer.specs.declared.style.LeadStyle.{LeadStyle}
use Rattle.composer.proofs.lead.BeatsLaws.{list_back, add_beats, rest_zero}
use Rattle.composer.proofs.lead.SettleLaws.{settle_sorted, settle_spaced, settle_all, length_settled, none_near}
use Rattle.composer.proofs.lead.QuarterLaws.{quarter_on, grid_quarters, push_quarter, shift_quarter}

-- ---- a bar while its beats are drawn: at most m, on quarters
record Drawing (m : ℕ) (b : Beats) : Type 0 where
  beats : List Float
  is : b ≡ beats_of beats
  few : length beats ≤ m
  quartered : All Quarter beats

drawing_none : Drawing 0 (beats_of [])
drawing_none = record { beats = []; is = refl; few = omega arith; quartered = tt }

drawing_more : (m k : ℕ) (b : Beats) → m ≤ k → Drawing m b → Drawing k b
drawing_more m k b h d = let f = d.few in record { beats = d.beats; is = d.is; few = omega arith; quartered = d.quartered }

drawing_add : (m : ℕ) (b : Beats) (x : Float) → m < 7 → Drawing m b → Quarter x → Drawing (m + 1) (add_of b x)
drawing_add m b x h d q =
    let f = d.few in
    let l : length (d.beats ++ (x ∷ [])) ≡ length d.beats + 1 = length-append d.beats (x ∷ []) in
    record { beats = d.beats ++ (x ∷ []); is = rw d.is (add_beats d.beats x (omega arith)); few = omega arith; quartered = all_snoc Quarter d.beats x d.quartered q }

drawing_listed : (m : ℕ) (b : Beats) → Drawing m b → All Quarter (list_of b)
drawing_listed m b d = rw (d.is, list_back d.beats) d.quartered

drawing_count : (m : ℕ) (b : Beats) → Drawing m b → length (list_of b) ≤ m
drawing_count m b d = rw (d.is, list_back d.beats) d.few

-- every beat adds one at most
drawing_fold : (f : Draw Beats → Float → Draw Beats) → ((m : ℕ) (d : Draw Beats) (x : Float) → m < 7 → Drawing m d.value → Quarter x → Drawing (m + 1) (f d x).value)
    → (m : ℕ) (d : Draw Beats) (xs : List Float) → m + length xs ≤ 7 → Drawing m d.value → All Quarter xs → Drawing 7 (foldl f d xs).value
drawing_fold f step m d [] h g a = drawing_more m 7 d.value (omega arith) g
drawing_fold f step m d (x ∷ xs) h g a = drawing_fold f step (m + 1) (f d x) xs (omega arith) (step m d x (omega arith) g a.0) a.1

-- ---- the statement
drawing_slot : (p : Float) (m : ℕ) (d : Draw Beats) (x : Float) → m < 7 → Drawing m d.value → Quarter x → Drawing (m + 1) (slot_of p d x).value
unfolding slot_of
drawing_slot p m d x h g q =
    let c = chance_of d.stream p in
    cond_by (Drawing (m + 1)) c.value (add_of d.value x) d.value (λ (e : c.value ≡ true). drawing_add m d.value x h g q) (λ (e : c.value ≡ false). drawing_more m (m + 1) d.value (omega arith) g)

drawing_push : (m : ℕ) (d : Draw Beats) (x : Float) → m < 7 → Drawing m d.value → Quarter x → Drawing (m + 1) (push_on_of d x).value
unfolding push_on_of
drawing_push m d x h g q = drawing_add m d.value (push_of d.stream x).value h g (push_quarter d.stream x q)

drawing_slots : (s : NoiseStream) (p : Float) → Drawing 7 (slots_of s p).value
unfolding slots_of
drawing_slots s p = drawing_fold (slot_of p) (drawing_slot p) 0 (empty_from s) lead_grid (omega (arith, length_list_to grid_beat_of 7)) drawing_none grid_quarters

drawing_pushes : (d : Draw Beats) → Drawing 7 d.value → Drawing 7 (pushes_of d).value
unfolding pushes_of
drawing_pushes d g = drawing_fold push_on_of drawing_push 0 (empty_from d.stream) (list_of d.value) (omega (arith, drawing_count 7 d.value g)) drawing_none (drawing_listed 7 d.value g)

settled_by : (b : Beats) → Drawing 7 b → Settled (settle_of b)
settled_by b g = record {
  beats = settled (list_of b);
  is = refl;
  few = omega (arith, length_settled (list_of b), drawing_count 7 b g);
  sorted = settle_sorted (list_of b);
  spaced = settle_spaced (list_of b);
  quartered = settle_all Quarter (list_of b) (drawing_listed 7 b g);
}

settled_none : Settled (beats_of [])
settled_none = record { beats = []; is = refl; few = omega arith; sorted = tt; spaced = tt; quartered = tt }

settled_one : (x : Float) → Quarter x → Settled (beats_of (x ∷ []))
settled_one x q = record { beats = x ∷ []; is = refl; few = omega arith; sorted = (tt, tt); spaced = (none_near x, tt); quartered = (q, tt) }

statement_bar_settled : (s : NoiseStream) (style : LeadStyle) → Settled (statement_bar_of s style).value
unfolding statement_bar_of
statement_bar_settled s style =
    let r = odds_of style.rest_p s in
    let kept = slots_of r.stream style.note_p in
    cond_by (λ (d : Draw Beats). Settled d.value) r.value (empty_from r.stream) (settled_of (pushes_of kept))
    (λ (e : r.value ≡ true). settled_none) (λ (e : r.value ≡ false). settled_by (pushes_of kept).value (drawing_pushes kept (drawing_slots r.stream style.note_p)))

-- ---- the answer
drawing_vary : (m : ℕ) (d : Draw Beats) (x : Float) → m < 7 → Drawing m d.value → Quarter x → Drawing (m + 1) (vary_of d x).value
unfolding vary_of
drawing_vary m d x h g q =
    let v = shift_of d.stream x in
    drawing_push m (record { value = d.value; stream = v.stream }) v.value h g (shift_quarter d.stream x q)

all_without : (P : Float → Type 0) (k : ℕ) (xs : List Float) → All P xs → All P (without k xs)
unfolding without
all_without P k [] a = tt
all_without P zero (x ∷ xs) a = a.1
all_without P (suc k) (x ∷ xs) a = (a.0, all_without P k xs a.1)

fewer : (k : ℕ) (xs : List Float) → length (without k xs) ≤ length xs
unfolding without
fewer k [] = omega arith
fewer zero (x ∷ xs) = omega arith
fewer (suc k) (x ∷ xs) = omega (arith, fewer k xs)

drawing_remove : (b : Beats) (k : ℕ) → Drawing 7 b → Drawing 7 (remove_of b k)
drawing_remove b k g = record {
  beats = without k (list_of b);
  is = refl;
  few = omega (arith, fewer k (list_of b), drawing_count 7 b g);
  quartered = all_without Quarter k (list_of b) (drawing_listed 7 b g);
}

drawing_drop : (d : Draw Beats) → Drawing 7 d.value → Drawing 7 (drop_one_of d).value
unfolding drop_one_of
drawing_drop d g =
    let n = d.value.n in
    let c = chance_of d.stream drop_p in
    let k = pick_of c.stream n in
    let less : Draw Beats = record { value = remove_of d.value k.value; stream = k.stream } in
    let same : Draw Beats = record { value = d.value; stream = c.stream } in
    cond_by (λ (e : Draw Beats). Drawing 7 e.value) (eqb n 0) d (cond c.value less same) (λ (e : eqb n 0 ≡ true). g)
    (λ (e : eqb n 0 ≡ false).
    cond_by (λ (e : Draw Beats). Drawing 7 e.value) c.value less same (λ (e : c.value ≡ true). drawing_remove d.value k.value g) (λ (e : c.value ≡ false). g))

-- a bar to answer: of at most seven beats, on quarters
abbrev Heard : Beats → Type 0
Heard b = (length (list_of b) ≤ 7) × All Quarter (list_of b)

settled_heard : (b : Beats) → Settled b → Heard b
settled_heard b t = rw (t.is, list_back t.beats) (t.few, t.quartered)

answer_bar_settled : (s : NoiseStream) (b : Beats) → Heard b → Settled (answer_bar_of s b).value
unfolding answer_bar_of varied_of
answer_bar_settled s b h =
    let v = foldl vary_of (empty_from s) (list_of b) in
    settled_by (drop_one_of v).value (drawing_drop v (drawing_fold vary_of drawing_vary 0 (empty_from s) (list_of b) (omega (arith, h.0)) drawing_none h.1))

-- ---- all bars
state_settled : (style : LeadStyle) (s : NoiseStream) (n : ℕ) → All Settled (state_to style s n).value
unfolding state_to state_of
state_settled style s zero = (settled_none, (settled_none, (settled_none, (settled_none, (settled_none, (settled_none, (settled_none, (settled_none, tt))))))))
state_settled style s (suc n) =
    let r = state_to style s n in
    all_set Settled r.value n (statement_bar_of r.stream style).value (statement_bar_settled r.stream style) (state_settled style s n)

fallback_settled : (bars : List Beats) → All Settled bars → All Settled (fallback_of bars)
unfolding fallback_of mul of_int of_bits
fallback_settled bars a =
    let first : Settled fallback_first = settled_one _ (quarter_on 4 tt) in
    let third : Settled fallback_third = settled_one _ (quarter_on 8 tt) in
    cond_by (All Settled) (ltb (notes_in bars) 2) (set (set bars 0 fallback_first) 2 fallback_third) bars
    (λ (e : ltb (notes_in bars) 2 ≡ true). all_set Settled (set bars 0 fallback_first) 2 fallback_third third (all_set Settled bars 0 fallback_first first a)) (λ (e : ltb (notes_in bars) 2 ≡ false). a)

reply_settled : (r : Draw (List Beats)) (n : ℕ) → All Settled r.value → All Settled (reply_to r n).value
unfolding reply_to reply_of
reply_settled r zero a = a
reply_settled r (suc n) a =
    let q = reply_to r n in
    let t = reply_settled r n a in
    let b = get_or q.value n past_beats in
    all_set Settled q.value (4 + n) (answer_bar_of q.stream b).value (answer_bar_settled q.stream b (heard_at q.value n t)) t
  where
    heard_at : (bars : List Beats) (k : ℕ) → All Settled bars → Heard (get_or bars k past_beats)
    heard_at [] k a = (omega arith, tt)
    heard_at (x ∷ xs) zero a = settled_heard x a.0
    heard_at (x ∷ xs) (suc k) a = heard_at xs k a.1

pub rhythm_settled : (s : NoiseStream) (style : LeadStyle) → All Settled (rhythm_of s style).value
unfolding rhythm_of statement_of
rhythm_settled s style = reply_settled (statement_of s style) 4 (fallback_settled (state_to style s 4).value (state_settled style s 4))

-- ---- what a reader wants of each bar
length_state : (style : LeadStyle) (s : NoiseStream) (n : ℕ) → length (state_to style s n).value ≡ 8
unfolding state_to state_of
length_state style s zero = refl
length_state style s (suc n) = length-set (state_to style s n).value n _ ∙ length_state style s n

length_fallback : (bars : List Beats) → length (fallback_of bars) ≡ length bars
unfolding fallback_of
length_fallback bars =
    cond_by (λ (out : List Beats). length out ≡ length bars) (ltb (notes_in bars) 2) (set (set bars 0 fallback_first) 2 fallback_third) bars
    (λ (e : ltb (notes_in bars) 2 ≡ true). length-set (set bars 0 fallback_first) 2 fallback_third ∙ length-set bars 0 fallback_first) (λ (e : ltb (notes_in bars) 2 ≡ false). refl)

length_reply : (r : Draw (List Beats)) (n : ℕ) → length (reply_to r n).value ≡ length r.value
unfolding reply_to reply_of
length_reply r zero = refl
length_reply r (suc n) = length-set (reply_to r n).value (4 + n) _ ∙ length_reply r n

pub rhythm_length : (s : NoiseStream) (style : LeadStyle) → length (rhythm_of s style).value ≡ 8
unfolding rhythm_of statement_of
rhythm_length s style = length_reply (statement_of s style) 4 ∙ length_fallback (state_to style s 4).value ∙ length_state style s 4

module _ (s : NoiseStream) (style : LeadStyle) (k : ℕ) (h : k < 8) where
  abbrev bar : Beats
  bar = get_or (rhythm_of s style).value k past_beats

  pub rhythm_bar : Settled bar
  rhythm_bar = all_at Settled (rhythm_of s style).value k past_beats (omega (arith, rhythm_length s style)) (rhythm_settled s style)

  pub rhythm_few : bar.n ≤ 7
  rhythm_few = rw rhythm_bar.is rhythm_bar.few

  -- every beat is a multiple of a quarter, from 0.5 to 3.5
  pub rhythm_quarter : (i : ℕ) → i < bar.n → Quarter (get_or bar.at i zero32)
  rhythm_quarter i l =
      let t = rhythm_bar in
      let m : i < length t.beats = subst (λ (b : Beats). i < b.n) t.is l in
      rw (t.is, pad_at_lem zero32 7 t.beats i m) (all_at Quarter t.beats i zero32 m t.quartered)

  -- the unused entries are zero
  pub rhythm_rest : (i : ℕ) → bar.n ≤ i → i < 7 → get_or bar.at i nan ≡ zero32
  rhythm_rest i l u =
      let t = rhythm_bar in
      let m : length t.beats ≤ i = subst (λ (b : Beats). b.n ≤ i) t.is l in
      rw t.is (rest_zero t.beats i m u)

-- ---- the fallback
pub fallback_stays : (bars : List Beats) → 2 ≤ notes_in bars → fallback_of bars ≡ bars
unfolding fallback_of
fallback_stays bars h = rw (le-ltb (notes_in bars) 2 h)
