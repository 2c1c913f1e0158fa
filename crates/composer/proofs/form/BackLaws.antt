-- Drums come back where a phrase begins, and so at loop bar 0: within a phrase what mutes them goes on to its end, and
-- an intro or an outro has them throughout or not at all. Assumes nothing.
use mathlib.Core.Path.{◌≡◌, refl, ◌∙◌}
use mathlib.Core.Bool.{Bool, true, false, ◌&&◌, ◌||◌, cond}
use Prim.Native.Nat.{ℕ, ◌+◌, ◌-◌, ◌*◌, ◌/◌, ◌%◌, ◌≤◌}
use native.Mathlib.Omega.{arith}
use borrow.Author.Tests.{ltb-true, ltb-false, eqb-true, eqb-false}
use lib.Dec.{T, eqb, ltb, leb, leb→le, le→leb}
use Rattle.laws.proofs.Bools.{or_map, and_map, contra, clash}
use Rattle.composer.specs.Form.Body.{is_break, thins, cut_heard, cut_at, cut_takes, drums_out, body_bar_of}
use Rattle.composer.specs.Form.Song.{intro_plays, outro_plays, song_bar_of}
use Rattle.composer.specs.declared.form.decisions.Closing.{Closing}
use Rattle.composer.specs.declared.form.decisions.Decisions.{Decisions}

module _ (d : Decisions) where
  -- a bar without drums, not the last of its phrase: nor has the next
  drums_stay : (b : ℕ) → ((b + 1) % 8 ≡ 0 → ⊥) → T (drums_out d b) → T (drums_out d (b + 1))
  drums_stay b within =
      let q : (b + 1) / 8 ≡ b / 8 = omega arith in
      let r : (b + 1) % 8 ≡ b % 8 + 1 = omega arith in
      let p = d.phrases / 2 in
      let n = (cut_at d (b / 8)).bars in
      rw (q, r)
      (or_map (is_break d.thinning && thins d b) (cut_takes d b) (is_break d.thinning && (eqb (b / 8) p && (d.whole || leb 4 (b % 8 + 1)))) (cut_heard d (b / 8) && leb (8 - (b % 8 + 1)) n)
      (and_map (is_break d.thinning) (thins d b) (eqb (b / 8) p && (d.whole || leb 4 (b % 8 + 1)))
      (and_map (eqb (b / 8) p) (d.whole || leb 4 (b % 8)) (d.whole || leb 4 (b % 8 + 1))
      (or_map d.whole (leb 4 (b % 8)) d.whole (leb 4 (b % 8 + 1)) (λ t. t) (λ t. le→leb 4 (b % 8 + 1) (omega (arith, leb→le 4 (b % 8) t))))))
      (and_map (cut_heard d (b / 8)) (leb (8 - b % 8) n) (leb (8 - (b % 8 + 1)) n) (λ t. le→leb (8 - (b % 8 + 1)) n (omega (arith, leb→le (8 - b % 8) n t)))))

  body_back : (b : ℕ) → (body_bar_of d b).drums ≡ false → (body_bar_of d (b + 1)).drums ≡ true → (b + 1) % 8 ≡ 0
  unfolding body_bar_of
  body_back b out back = go (eqb ((b + 1) % 8) 0) refl
    where
      go : (v : Bool) → eqb ((b + 1) % 8) 0 ≡ v → (b + 1) % 8 ≡ 0
      go true e = eqb-true ((b + 1) % 8) 0 e
      go false e = absurd (clash (contra (drums_out d b) (drums_out d (b + 1)) (drums_stay b (eqb-false ((b + 1) % 8) 0 e)) back) out)

  outro_same : (c : Closing) (k j : ℕ) → (outro_plays c k).drums ≡ (outro_plays c j).drums
  outro_same (Closing.Sparse p) k j = refl
  outro_same Closing.RingOut k j = refl
  outro_same (Closing.Edged e) k j = refl
  outro_same Closing.Cold k j = refl

  -- after an intro of n bars
  pub drums_return : (n b : ℕ) → (song_bar_of d n b).drums ≡ false → (song_bar_of d n (b + 1)).drums ≡ true → (n ≤ b + 1) × ((b + 1 - n) % 8 ≡ 0)
  unfolding song_bar_of
  drums_return n b = go (ltb b n) (ltb (b + 1) n) (ltb (b - n) (8 * d.phrases)) (ltb (b + 1 - n) (8 * d.phrases)) refl refl refl refl
    where
      go : (i j k l : Bool) → ltb b n ≡ i → ltb (b + 1) n ≡ j → ltb (b - n) (8 * d.phrases) ≡ k → ltb (b + 1 - n) (8 * d.phrases) ≡ l
          → (cond i (intro_plays d.opening) (cond k (body_bar_of d (b - n)) (outro_plays d.closing (b - n - 8 * d.phrases)))).drums ≡ false
          → (cond j (intro_plays d.opening) (cond l (body_bar_of d (b + 1 - n)) (outro_plays d.closing (b + 1 - n - 8 * d.phrases)))).drums ≡ true
          → (n ≤ b + 1) × ((b + 1 - n) % 8 ≡ 0)
      go true true k l e1 e2 e3 e4 out back = absurd (clash back out)
      go true false k l e1 e2 e3 e4 out back = (omega (arith, ltb-false (b + 1) n e2), omega (arith, ltb-true b n e1, ltb-false (b + 1) n e2))
      go false true k l e1 e2 e3 e4 out back = absurd (omega (arith, ltb-false b n e1, ltb-true (b + 1) n e2))
      go false false true true e1 e2 e3 e4 out back =
          let m : b + 1 - n ≡ b - n + 1 = omega (arith, ltb-false b n e1) in
          let c : (b - n + 1) % 8 ≡ 0 = body_back (b - n) out (rw m at back) in
          (omega (arith, ltb-false b n e1), rw m c)
      go false false true false e1 e2 e3 e4 out back =
          (omega (arith, ltb-false b n e1), omega (arith, ltb-false b n e1, ltb-true (b - n) (8 * d.phrases) e3, ltb-false (b + 1 - n) (8 * d.phrases) e4))
      go false false false true e1 e2 e3 e4 out back = absurd (omega (arith, ltb-false (b - n) (8 * d.phrases) e3, ltb-true (b + 1 - n) (8 * d.phrases) e4))
      go false false false false e1 e2 e3 e4 out back = absurd (clash (outro_same d.closing (b - n - 8 * d.phrases) (b + 1 - n - 8 * d.phrases) ∙ back) out)
