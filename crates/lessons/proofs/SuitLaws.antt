-- The test of a seed says whether its song has what is wished. Assumes nothing.
use mathlib.Core.Path.{◌≡◌, sym, ap, ◌∙◌}
use mathlib.Core.Bool.{true, false, ◌&&◌, ◌||◌, or-true}
use mathlib.Core.Logic.{◌⊎◌, inl, inr, ⊎_elim}
use Prim.Native.Nat.{ℕ, ◌^◌, ◌≤◌}
use borrow.Author.Tests.{eqb-true, eq-eqb}
use lib.Dec.{eqb}
use lib.Ieee.{to_unsigned}
use lib.ListN.{get_or}
use Rattle.laws.specs.Floats.{f32_of}
use Rattle.laws.proofs.Bools.{both, one_of, clash}
use Rattle.laws.proofs.Rounding.{whole_back}
use Rattle.composer.specs.Compose.{composed_of}
use Rattle.composer.specs.Traits.{traits_in}
use Rattle.composer.specs.Voice.{voice_number_of}
use Rattle.composer.specs.declared.style.Style.{Style}
use Rattle.composer.proofs.TraitsLaws.{traits_tempo}
use Rattle.lessons.specs.Inner.Search.{is_suited, SuitsIn}
use Rattle.lessons.specs.declared.wishes.Wishes.{Wishes}

-- ---- one wish: any, or the song's
wish_told : (w any has : ℕ) → (eqb w any || eqb w has) ≡ true → (w ≡ any) ⊎ (w ≡ has)
wish_told w any has e = ⊎_elim (λ (t : eqb w any ≡ true). inl (eqb-true w any t)) (λ (t : eqb w has ≡ true). inr (eqb-true w has t)) (one_of (eqb w any) (eqb w has) e)

wish_met : (w any has : ℕ) → (w ≡ any) ⊎ (w ≡ has) → (eqb w any || eqb w has) ≡ true
wish_met w any has = ⊎_elim (λ (q : w ≡ any). rw (eq-eqb w any q)) (λ (q : w ≡ has). rw (eq-eqb w has q) (or-true (eqb w any)))

module _ (style : Style) (w : Wishes) (seed : ℕ) where
  -- the song's tempo is the float of the number that is compared
  tempo_told : (w.tempo ≡ 0) ⊎ (w.tempo ≡ (traits_in (composed_of style seed)).tempo) → (w.tempo ≡ 0) ⊎ (f32_of w.tempo ≡ (composed_of style seed).score.bpm)
  tempo_told =
      ⊎_elim (λ (q : w.tempo ≡ 0). inl q)
      (λ (q : w.tempo ≡ (traits_in (composed_of style seed)).tempo). inr (ap f32_of q ∙ sym (traits_tempo style seed)))

  tempo_met : w.tempo ≤ 2 ^ 24 → (w.tempo ≡ 0) ⊎ (f32_of w.tempo ≡ (composed_of style seed).score.bpm) → (w.tempo ≡ 0) ⊎ (w.tempo ≡ (traits_in (composed_of style seed)).tempo)
  unfolding traits_in
  tempo_met small =
      ⊎_elim (λ (q : w.tempo ≡ 0). inl q)
      (λ (q : f32_of w.tempo ≡ (composed_of style seed).score.bpm). inr (sym (whole_back w.tempo small) ∙ ap (to_unsigned 64) q))

  pub suits_told : is_suited style w seed ≡ true → SuitsIn style w seed
  unfolding is_suited
  suits_told e =
      let t = traits_in (composed_of style seed) in
      let key = eqb w.key 12 || eqb w.key t.key in
      let tempo = eqb w.tempo 0 || eqb w.tempo t.tempo in
      let voice = eqb w.voice 255 || eqb w.voice (voice_number_of t.voice) in
      let u = both (key && tempo) voice e in
      let v = both key tempo u.0 in
      record {
        key = unfold traits_in in wish_told w.key 12 (get_or (composed_of style seed).scale.pcs 0 0) v.0;
        tempo = tempo_told (wish_told w.tempo 0 t.tempo v.1);
        voice = unfold traits_in in wish_told w.voice 255 (voice_number_of (composed_of style seed).score.lead_voice) u.1;
      }

  suits_met : w.tempo ≤ 2 ^ 24 → SuitsIn style w seed → is_suited style w seed ≡ true
  unfolding is_suited
  suits_met small h =
      let t = traits_in (composed_of style seed) in
      let key : (eqb w.key 12 || eqb w.key t.key) ≡ true = unfold traits_in in wish_met w.key 12 (get_or (composed_of style seed).scale.pcs 0 0) h.key in
      let tempo = wish_met w.tempo 0 t.tempo (tempo_met small h.tempo) in
      let voice : (eqb w.voice 255 || eqb w.voice (voice_number_of t.voice)) ≡ true = unfold traits_in in wish_met w.voice 255 (voice_number_of (composed_of style seed).score.lead_voice) h.voice in
      rw (key, tempo, voice)

  pub suits_not : w.tempo ≤ 2 ^ 24 → is_suited style w seed ≡ false → SuitsIn style w seed → ⊥
  suits_not small e h = clash (suits_met small h) e
