-- Every note of the melody has its role by the rule, and so has every lead note of a song. Assumes nothing.
use mathlib.Core.Path.{◌≡◌, refl, sym, ap, ◌∙◌, subst}
use mathlib.Core.Logic.{⊎_elim}
use mathlib.Core.Bool.{Bool, true, false, cond, not, ◌&&◌, ◌||◌, and-true}
use mathlib.Core.List.{List}
use Prim.Native.Nat.{ℕ, zero, suc, ◌+◌, ◌-◌, ◌≤◌, ◌<◌, min}
use native.Mathlib.Nat.{eq-or-lt_of_le, le_of_suc-le-suc, not-suc-le-zero}
use native.Mathlib.Numerals.{add-one}
use native.Mathlib.Omega.{arith}
use borrow.Author.Tests.{eqb-true, ltb-true, ltb-false, ne_eqb}
use lib.Dec.{eqb, ltb, eqb-suc-zero}
use lib.ListN.{get_or, set, length}
use lib.Seq.{get_or-set_same, get_or-set_other}
use lib.Ieee.{Float, nan}
use Rattle.laws.specs.Sums.{sum_to}
use Rattle.laws.proofs.Sums.{sum_within, sum_part}
use Rattle.streams.specs.Draw.{chance_of}
use Rattle.streams.specs.declared.stream.NoiseStream.{NoiseStream}
use Rattle.composer.specs.Chord.{past_chord}
use Rattle.composer.specs.Few.{one_more}
use Rattle.composer.specs.Harmony.{Tonal}
use Rattle.composer.specs.Lead.{sung_of, lead_of}
use Rattle.composer.specs.Lead.Beats.{Beats, past_beats}
use Rattle.composer.specs.Lead.Ground.{ground_of}
use Rattle.composer.specs.Lead.Line.{is_strong_of, place_of, carried_of}
use Rattle.composer.specs.Lead.Melody.{past_lead, step_of, sing_of, bar_to, start_of, nothing_sung, bars_to, melody_of}
use Rattle.composer.specs.Lead.Rhythm.{rhythm_of}
use Rattle.composer.specs.Lead.Role.{noted_of, quotes_of, peaks_of, leapt_of, tone_chance, chosen_of, chance_role_of, role_of}
use Rattle.composer.specs.Lead.Rule.{rule_of, notes_of_bar, notes_before, heads_in, midi_before, tone_drawn, sung_before, song_beats, song_start, song_stream, ToldAt, LeadTold}
use Rattle.composer.specs.Lead.Scale.{pool_of}
use Rattle.composer.specs.Lead.Tones.{distance_of}
use Rattle.composer.specs.Lead.Sound.{Ready}
use Rattle.composer.specs.Style.{lead_style_of}
use Rattle.composer.specs.declared.chord.Chord.{Chord}
use Rattle.composer.specs.declared.few.Few.{Few}
use Rattle.composer.specs.declared.harmony.Harmony.{Harmony}
use Rattle.composer.specs.declared.style.Style.{Style}
use Rattle.composer.specs.declared.style.LeadStyle.{LeadStyle}
use Rattle.composer.specs.declared.lead.ground.Ground.{Ground}
use Rattle.composer.specs.declared.lead.line.Line.{Line}
use Rattle.composer.specs.declared.lead.line.Place.{Place}
use Rattle.composer.specs.declared.lead.melody.LeadNote.{LeadNote}
use Rattle.composer.specs.declared.lead.melody.Sung.{Sung}
use Rattle.composer.specs.declared.lead.role.Role.{Role}
use Rattle.composer.specs.declared.lead.role.Role.TheVariants.{Quote, Close, Peak, Resolve, ChordTone, Passing}
use Rattle.composer.proofs.lead.BarsLaws.{sing_grown, bar_grown, good_to}
use Rattle.composer.proofs.lead.LeadLaws.{song_ready, keeps}
use Rattle.composer.proofs.lead.MelodyLaws.{bar_count}
use Rattle.composer.proofs.lead.PlayedLaws.{played_count}

-- ---- the rule by a note's place, and of the melody before it is played
rule_by : Place → ℕ → ℕ → ℕ → Bool → Role
rule_by p heads from prev tone =
    cond (quotes_of p heads) Quote
    (cond p.last Close
    (cond (peaks_of p) Peak
    (cond (leapt_of from prev) Resolve
    (cond p.strong ChordTone
    (cond tone ChordTone Passing)))))

-- the pitch before note n of the melody
pitch_before : ℕ → List LeadNote → ℕ → ℕ
pitch_before start notes zero = start
pitch_before start notes (suc n) = (get_or notes n past_lead).note

-- note n of the melody is note i of bar k, and has its role by the rule; s is the stream as it was before the note
record ByRule (start : ℕ) (beats : List Beats) (notes : List LeadNote) (s : NoiseStream) (k i n : ℕ) : Type 0 where
  bar : (get_or notes n past_lead).bar ≡ k
  role : (get_or notes n past_lead).role
      ≡ rule_by (place_of k (get_or beats k past_beats) i) (heads_in beats) (pitch_before start notes (n - 1)) (pitch_before start notes n) (tone_drawn s)

-- in a teacher's words: no note of bar 4 is the last one of bar 7
rule_said : (bar : ℕ) (b : Beats) (i heads from prev : ℕ) (tone : Bool)
    → rule_by (place_of bar b i) heads from prev tone ≡ rule_of bar i b.n (is_strong_of (get_or b.at i nan)) heads from prev tone
unfolding rule_by
rule_said bar b i heads from prev tone = go (eqb bar 4) (is_strong_of (get_or b.at i nan)) tone refl
  where
    tail : (strong t : Bool) → cond strong ChordTone (cond t ChordTone Passing) ≡ cond (strong || t) ChordTone Passing
    tail true t = refl
    tail false t = refl

    rest : (strong t : Bool) → cond (eqb bar 7 && eqb (i + 1) b.n) Close (cond (eqb bar 5 && eqb i 0) Peak (cond (ltb 4 (distance_of from prev)) Resolve (cond strong ChordTone (cond t ChordTone Passing))))
        ≡ cond (eqb bar 7 && eqb (i + 1) b.n) Close (cond (eqb bar 5 && eqb i 0) Peak (cond (ltb 4 (distance_of from prev)) Resolve (cond (strong || t) ChordTone Passing)))
    rest strong t = ap (λ (r : Role). cond (eqb bar 7 && eqb (i + 1) b.n) Close (cond (eqb bar 5 && eqb i 0) Peak (cond (ltb 4 (distance_of from prev)) Resolve r))) (tail strong t)

    go : (four strong t : Bool) → eqb bar 4 ≡ four
        → cond (four && ltb i heads && not (eqb bar 7 && eqb (i + 1) b.n)) Quote (cond (eqb bar 7 && eqb (i + 1) b.n) Close (cond (eqb bar 5 && eqb i 0) Peak (cond (ltb 4 (distance_of from prev)) Resolve (cond strong ChordTone (cond t ChordTone Passing)))))
        ≡ cond (four && ltb i heads) Quote (cond (eqb bar 7 && eqb (i + 1) b.n) Close (cond (eqb bar 5 && eqb i 0) Peak (cond (ltb 4 (distance_of from prev)) Resolve (cond (strong || t) ChordTone Passing))))
    go true strong t e =
        let four = eqb-true bar 4 e in
        rw (ne_eqb bar 7 (λ q. omega (arith, four)), and-true (ltb i heads), tail strong t)
    go false strong t e = rest strong t

-- ---- the role by the line
role_by : (l : Line) (p : Place) → (role_of l p).value ≡ rule_by p l.head.n l.from l.prev (tone_drawn l.stream)
unfolding role_of chance_role_of rule_by
role_by l p = by_cases (quotes_of p l.head.n) p.last (peaks_of p) (leapt_of l.from l.prev) p.strong (tone_drawn l.stream) l.stream (chance_of l.stream tone_chance).stream
  where
    by_cases : (a b c d e f : Bool) (s t : NoiseStream)
        → ◌≡◌ {A = Role} (cond a (chosen_of Quote s) (cond b (chosen_of Close s) (cond c (chosen_of Peak s) (cond d (chosen_of Resolve s) (cond e (chosen_of ChordTone s) (cond f (chosen_of ChordTone t) (chosen_of Passing t))))))).value
        (cond a Quote (cond b Close (cond c Peak (cond d Resolve (cond e ChordTone (cond f ChordTone Passing))))))
    by_cases true b c d e f s t = refl
    by_cases false true c d e f s t = refl
    by_cases false false true d e f s t = refl
    by_cases false false false true e f s t = refl
    by_cases false false false false true f s t = refl
    by_cases false false false false false true s t = refl
    by_cases false false false false false false s t = refl

-- ---- the two notes before, by the notes alone
module _ (start : ℕ) where
  before_same : (xs ys : List LeadNote) (n : ℕ) → ((j : ℕ) → j < n → get_or ys j past_lead ≡ get_or xs j past_lead) → pitch_before start ys n ≡ pitch_before start xs n
  unfolding pitch_before
  before_same xs ys zero h = refl
  before_same xs ys (suc n) h = ap (λ (x : LeadNote). x.note) (h n (omega arith))

  before_put : (xs : List LeadNote) (n : ℕ) (x : LeadNote) (m : ℕ) → m ≤ n → pitch_before start (set xs n x) m ≡ pitch_before start xs m
  before_put xs n x m h = before_same xs (set xs n x) m (λ j k. get_or-set_other xs n j x past_lead (λ e. omega arith))

  before_new : (xs : List LeadNote) (n : ℕ) (x : LeadNote) → n < length xs → pitch_before start (set xs n x) (n + 1) ≡ x.note
  unfolding pitch_before
  before_new xs n x h = ap (pitch_before start (set xs n x)) (add-one n) ∙ ap (λ (y : LeadNote). y.note) (get_or-set_same xs n x past_lead h)

  record Traced (m : Sung) : Type 0 where
    from : m.line.from ≡ pitch_before start m.notes.at (m.notes.n - 1)
    prev : m.line.prev ≡ pitch_before start m.notes.at m.notes.n

  traced_put : (xs : List LeadNote) (n : ℕ) (x : LeadNote) (l m : Line) → n < length xs → l.prev ≡ pitch_before start xs n → m.from ≡ l.prev → m.prev ≡ x.note
      → Traced (record { notes = record { at = set xs n x; n = n + 1 }; line = m })
  traced_put xs n x l m h e f g =
      let back : n + 1 - 1 ≡ n = omega arith in
      record {
        from = f ∙ e ∙ sym (before_put xs n x n (omega arith)) ∙ sym (ap (pitch_before start (set xs n x)) back);
        prev = g ∙ sym (before_new xs n x h);
      }

  module _ (beats : List Beats) where
    -- what is told of a note stays told while those up to it stay
    rule_kept : (xs ys : List LeadNote) (s : NoiseStream) (k i n : ℕ) → ((j : ℕ) → j ≤ n → get_or ys j past_lead ≡ get_or xs j past_lead) → ByRule start beats xs s k i n → ByRule start beats ys s k i n
    rule_kept xs ys s k i n h r =
        let from = before_same xs ys (n - 1) (λ j b. h j (omega arith)) in
        let prev = before_same xs ys n (λ j b. h j (omega arith)) in
        record {
          bar = ap (λ (x : LeadNote). x.bar) (h n (omega arith)) ∙ r.bar;
          role = ap (λ (x : LeadNote). x.role) (h n (omega arith)) ∙ rw (from, prev) r.role;
        }

    rule_put : (xs : List LeadNote) (n : ℕ) (x : LeadNote) (k i : ℕ) (s : NoiseStream) → n < length xs → x.bar ≡ k
        → x.role ≡ rule_by (place_of k (get_or beats k past_beats) i) (heads_in beats) (pitch_before start xs (n - 1)) (pitch_before start xs n) (tone_drawn s) → ByRule start beats (set xs n x) s k i n
    rule_put xs n x k i s h b r =
        let same = get_or-set_same xs n x past_lead h in
        let from = before_put xs n x (n - 1) (omega arith) in
        let prev = before_put xs n x n (omega arith) in
        record {
          bar = ap (λ (y : LeadNote). y.bar) same ∙ b;
          role = ap (λ (y : LeadNote). y.role) same ∙ rw (from, prev) r;
        }

    -- ---- one note more
    -- the head matters in bar 4 alone
    abbrev Heads : ℕ → ℕ → Type 0
    Heads zero heads = heads ≤ 2
    Heads (suc k) heads = heads ≡ heads_in beats

    rule_heads : (k i heads from prev : ℕ) (tone : Bool) → Heads k heads
        → rule_by (place_of k (get_or beats k past_beats) i) heads from prev tone ≡ rule_by (place_of k (get_or beats k past_beats) i) (heads_in beats) from prev tone
    unfolding rule_by
    rule_heads zero i heads from prev tone h = refl
    rule_heads (suc k) i heads from prev tone h = ap (λ (n : ℕ). rule_by (place_of (suc k) (get_or beats (suc k) past_beats) i) n from prev tone) h

    module _ (pool : List Bool) (g : Ground) (k : ℕ) where
      abbrev bar : Beats
      bar = get_or beats k past_beats

      sing_traced : (m : Sung) (i : ℕ) → m.notes.n < length m.notes.at → Traced m → Traced (sing_of pool g k bar m i)
      unfolding sing_of step_of carried_of
      sing_traced m i h t = traced_put m.notes.at m.notes.n _ m.line _ h t.prev refl refl

      sing_told : (m : Sung) (i : ℕ) → m.notes.n < length m.notes.at → Traced m → Heads k m.line.head.n → ByRule start beats (sing_of pool g k bar m i).notes.at m.line.stream k i m.notes.n
      unfolding sing_of step_of
      sing_told m i h t e =
          rule_put m.notes.at m.notes.n _ k i m.line.stream h refl
          (role_by m.line (place_of k bar i) ∙ rule_heads k i m.line.head.n m.line.from m.line.prev (tone_drawn m.line.stream) e ∙ rw (← t.from, ← t.prev))

      -- ---- a bar
      bar_told : (m : Sung) (i : ℕ) → m.notes.n + i ≤ length m.notes.at → Traced m → ((j : ℕ) → Heads k (bar_to pool g k bar m j).line.head.n)
          → Traced (bar_to pool g k bar m i) × ((j : ℕ) → j < i → ByRule start beats (bar_to pool g k bar m i).notes.at (bar_to pool g k bar m j).line.stream k j (m.notes.n + j))
      unfolding bar_to
      bar_told m zero h t e = (t, λ j l. absurd (not-suc-le-zero l))
      bar_told m (suc i) h t e =
          let n = bar_to pool g k bar m i in
          let before = bar_told m i (omega arith) t e in
          let count : n.notes.n ≡ m.notes.n + i = bar_count pool g k bar m i in
          let room : n.notes.n < length n.notes.at = omega (arith, (bar_grown pool g k bar m i (omega arith)).size) in
          let grown = sing_grown pool g k bar n i room in (
            sing_traced n i room before.0,
            λ j l.
                ⊎_elim
                (λ (q : j ≡ i). subst (λ (v : ℕ). ByRule start beats (sing_of pool g k bar n i).notes.at (bar_to pool g k bar m v).line.stream k v (m.notes.n + v)) (sym q) (subst (ByRule start beats (sing_of pool g k bar n i).notes.at n.line.stream k i) count (sing_told n i room before.0 (e i))))
                (λ (q : j < i). rule_kept n.notes.at (sing_of pool g k bar n i).notes.at (bar_to pool g k bar m j).line.stream k j (m.notes.n + j) (λ v u. grown.kept v (omega arith)) (before.1 j q))
                (eq-or-lt_of_le (le_of_suc-le-suc l)),
          )

-- ---- how much of the head is sung
heads_more : (h : Few ℕ 2) (note i : ℕ) → h.n ≡ min 2 i → (cond (ltb h.n 2) (one_more h note) h).n ≡ min 2 (suc i)
heads_more h note i e = go (ltb h.n 2) refl
  where
    go : (b : Bool) → ltb h.n 2 ≡ b → (cond b (one_more h note) h).n ≡ min 2 (suc i)
    go true t = omega (arith, e, ltb-true h.n 2 t)
    go false t = omega (arith, e, ltb-false h.n 2 t)

module _ (pool : List Bool) (g : Ground) (b : Beats) (m : Sung) where
  heads_first : m.line.head.n ≡ 0 → (i : ℕ) → (bar_to pool g 0 b m i).line.head.n ≡ min 2 i
  unfolding bar_to sing_of step_of carried_of
  heads_first e zero = omega (arith, e)
  heads_first e (suc i) = heads_more (bar_to pool g 0 b m i).line.head _ i (heads_first e i)

  heads_later : (k i : ℕ) → (bar_to pool g (suc k) b m i).line.head.n ≡ m.line.head.n
  unfolding bar_to sing_of step_of carried_of
  heads_later k zero = refl
  heads_later k (suc i) = rw eqb-suc-zero (heads_later k i)

-- ---- the eight bars
module _ (s : NoiseStream) (beats : List Beats) (bars : List Chord) (pool : List Bool) (style : LeadStyle) (ready : Ready beats bars pool style) where
  abbrev first : ℕ
  first = start_of style (get_or bars 0 past_chord) pool

  abbrev lane_to : ℕ → Sung
  lane_to k = bars_to beats bars pool style (nothing_sung first s) k

  abbrev ground : ℕ → Ground
  ground k = ground_of style (get_or bars k past_chord) pool

  count_is : (k : ℕ) → (lane_to k).notes.n ≡ notes_before beats k
  unfolding bars_to sum_to nothing_sung
  count_is zero = refl
  count_is (suc k) = let b = get_or beats k past_beats in omega (arith, bar_count pool (ground k) k b (lane_to k) b.n, count_is k)

  heads_at : (k : ℕ) → (lane_to (suc k)).line.head.n ≡ heads_in beats
  unfolding bars_to nothing_sung
  heads_at zero = let b = get_or beats 0 past_beats in heads_first pool (ground 0) b (nothing_sung first s) refl b.n
  heads_at (suc k) = let b = get_or beats (suc k) past_beats in heads_later pool (ground (suc k)) b (lane_to (suc k)) k b.n ∙ heads_at k

  heads_in_lem : (k i : ℕ) → Heads first beats k (bar_to pool (ground k) k (get_or beats k past_beats) (lane_to k) i).line.head.n
  unfolding bars_to nothing_sung
  heads_in_lem zero i = omega (arith, heads_first pool (ground 0) (get_or beats 0 past_beats) (nothing_sung first s) refl i)
  heads_in_lem (suc k) i = heads_later pool (ground (suc k)) (get_or beats (suc k) past_beats) (lane_to (suc k)) k i ∙ heads_at k

  abbrev Told : ℕ → Sung → Type 0
  Told c m = (i : ℕ) → i < (get_or beats c past_beats).n → ByRule first beats m.notes.at (sung_before s beats bars pool style c i).line.stream c i (notes_before beats c + i)

  lanes_told : (k : ℕ) → k ≤ 8 → Traced first (lane_to k) × ((c : ℕ) → c < k → Told c (lane_to k))
  unfolding bars_to
  lanes_told zero h = (unfold nothing_sung pitch_before in record { from = refl; prev = refl }, λ c l. absurd (not-suc-le-zero l))
  lanes_told (suc k) h =
      let b = get_or beats k past_beats in
      let before = lanes_told k (omega arith) in
      let good = good_to s beats bars pool style ready k (omega arith) in
      let room : (lane_to k).notes.n + b.n ≤ length (lane_to k).notes.at = omega (arith, good.0.size, good.1, ready.few k h) in
      let told = bar_told first beats pool (ground k) k (lane_to k) b.n room before.0 (heads_in_lem k) in
      let grown = bar_grown pool (ground k) k b (lane_to k) b.n room in (
        told.0,
        λ c l.
            ⊎_elim
            (λ (e : c ≡ k). subst (λ (v : ℕ). Told v (lane_to (suc k))) (sym e) (λ i u. subst (λ (v : ℕ). ByRule first beats (lane_to (suc k)).notes.at (sung_before s beats bars pool style k i).line.stream k i (v + i)) (count_is k) (told.1 i u)))
            (λ (e : c < k).
            λ i u.
            rule_kept first beats (lane_to k).notes.at (lane_to (suc k)).notes.at (sung_before s beats bars pool style c i).line.stream c i (notes_before beats c + i) (λ j q. grown.kept j (omega (arith, count_is k, sum_within (notes_of_bar beats) c i k e u))) (before.1 c e i u))
            (eq-or-lt_of_le (le_of_suc-le-suc l)),
      )

  -- the melody has as many notes as its rhythm
  melody_count : (melody_of s beats bars pool style).notes.n ≡ notes_before beats 8
  unfolding melody_of
  melody_count = count_is 8

  -- each has its role by the rule
  melody_told : (k i : ℕ) → k < 8 → i < (get_or beats k past_beats).n → ByRule first beats (melody_of s beats bars pool style).notes.at (sung_before s beats bars pool style k i).line.stream k i (notes_before beats k + i)
  unfolding melody_of
  melody_told k i h = (lanes_told 8 (omega arith)).1 k h i

-- ---- the lead over every tonal harmony
module _ (s : NoiseStream) (h : Harmony) (tonal : Tonal h) (style : Style) (beatS : Float) where
  abbrev beats : List Beats
  beats = song_beats s style

  -- as many notes as the rhythm has beats
  lead_count : (lead_of s h style beatS).value.n ≡ notes_before beats 8
  unfolding lead_of sung_of
  lead_count =
      let l = lead_style_of style in
      played_count (sung_of s h style) beatS l.dur ∙ melody_count (rhythm_of s l).stream beats h.bars (pool_of h.scale) l (song_ready s h tonal style)

  sung_told : (k i : ℕ) → k < 8 → i < (get_or beats k past_beats).n
      → ByRule (song_start h style) beats (sung_of s h style).notes.at (song_stream s h style k i) k i (notes_before beats k + i)
  unfolding sung_of
  sung_told = let l = lead_style_of style in melody_told (rhythm_of s l).stream beats h.bars (pool_of h.scale) l (song_ready s h tonal style)

  -- the pitches of the lane are those of the melody
  midi_same : (n : ℕ) → n ≤ (lead_of s h style beatS).value.n → midi_before (song_start h style) (lead_of s h style beatS).value.at n ≡ pitch_before (song_start h style) (sung_of s h style).notes.at n
  unfolding midi_before pitch_before
  midi_same zero a = refl
  midi_same (suc n) a = (keeps s h tonal style beatS n a).1

  -- note i of bar k has the role that the rule gives it
  told_at : (k i : ℕ) → k < 8 → i < (get_or beats k past_beats).n → ToldAt s h style (lead_of s h style beatS).value.at (notes_before beats k + i)
  told_at k i a b =
      let n = notes_before beats k + i in
      let in_lane : n < (lead_of s h style beatS).value.n = omega (arith, lead_count, sum_within (notes_of_bar beats) k i 8 a b) in
      let kept = keeps s h tonal style beatS n in_lane in
      let rule = sung_told k i a b in
      let bar = get_or beats k past_beats in
      record {
        bar = k;
        place = i;
        in_loop = a;
        in_bar = b;
        stands = refl;
        of_bar = kept.0 ∙ rule.bar;
        role =
            kept.2 ∙ ap noted_of rule.role
            ∙ rw (midi_same (n - 1) (omega arith), midi_same n (omega arith)) (ap noted_of (rule_said k bar i (heads_in beats) (pitch_before (song_start h style) (sung_of s h style).notes.at (n - 1)) (pitch_before (song_start h style) (sung_of s h style).notes.at n) (tone_drawn (song_stream s h style k i))));
      }

  -- and every note of the lane is such a note
  pub lead_told : LeadTold s h style (lead_of s h style beatS).value.at (lead_of s h style beatS).value.n
  lead_told = record {
    all = lead_count;
    each = λ n a.
        let p = sum_part (notes_of_bar beats) 8 n (omega (arith, lead_count)) in
        subst (ToldAt s h style (lead_of s h style beatS).value.at) (sym p.stands) (told_at p.part p.place p.few p.inside);
  }
