-- What each answer that a call may give is, in numbers. Assumes nothing.
use mathlib.Core.Path.{◌≡◌, sym, ap, ◌∙◌}
use mathlib.Core.Bool.{true, false, or-true, and-false}
use mathlib.Core.Logic.{⊎_elim}
use Prim.Native.Nat.{ℕ, ◌≤◌, ◌<◌}
use native.Mathlib.Omega.{arith}
use borrow.Author.Tests.{lt-ltb, le-ltb, eq-eqb, ne_eqb}
use lib.Dec.{ltb}
use Rattle.composer.specs.Refusal.{number_of, Answer, Gives, Refuses, answered}
use Rattle.composer.specs.declared.refusal.Refusal.{Refusal}
use Rattle.lessons.specs.Lesson.{lesson_checked, NoneFits, Found, Suits, AllowedBy, LessonAllowed}
use Rattle.lessons.specs.Promise.{SeedSpan, Known, LessonAnswers}
use Rattle.lessons.specs.Wishes.{is_unknown}
use Rattle.lessons.specs.declared.wishes.Wishes.{Wishes}
use Rattle.lessons.proofs.CheckLaws.{not_done, by_style, by_span, by_wish, by_none}
use Rattle.lessons.proofs.SeedSpanLaws.{seeds_none, seeds_many, seeds_past, seeds_are}
use Rattle.std.proofs.Common.{Result, Ok, Err}

-- ---- wishes
key_unknown : (w : Wishes) → 12 < w.key → is_unknown w ≡ true
key_unknown w h = rw (lt-ltb 12 w.key h)

voice_unknown : (w : Wishes) → 3 < w.voice → (w.voice ≡ 255 → ⊥) → is_unknown w ≡ true
voice_unknown w l n = rw (lt-ltb 3 w.voice l, ne_eqb w.voice 255 n) (or-true (ltb 12 w.key))

wishes_known : (w : Wishes) → Known w → is_unknown w ≡ false
wishes_known w k =
    rw (le-ltb 12 w.key k.key)
    (⊎_elim (λ (h : w.voice ≤ 3). rw (le-ltb 3 w.voice h)) (λ (h : w.voice ≡ 255). rw (eq-eqb w.voice 255 h) (and-false (ltb 3 w.voice))) k.voice)

-- ---- the answers
-- a refusal of the checks is the answer
told : (c : Result (Unit {0}) Refusal) (r : Refusal) (Fits : ℕ → Type 0) (start count : ℕ) (x : Result ℕ Refusal) → AllowedBy c Fits start count x → c ≡ Err r → answered x ≡ Refuses (number_of r)
told (Ok u) r Fits start count x a e = absurd (not_done r (sym e))
told (Err s) r Fits start count x a e = ap answered a ∙ ap (λ (q : Refusal). Refuses (number_of q)) (let z : s ≡ r = cc in z)

found_of : (c : Result (Unit {0}) Refusal) (Fits : ℕ → Type 0) (start count : ℕ) (x : Result ℕ Refusal) → AllowedBy c Fits start count x → c ≡ Ok tt → Found Fits start count (answered x)
found_of (Ok u) Fits start count x a e = a
found_of (Err s) Fits start count x a e = absurd (not_done s e)

-- 12 exactly if none fits
module _ (Fits : ℕ → Type 0) (start count : ℕ) where
  unfound_none : (x : Answer ℕ) → Found Fits start count x → x ≡ Refuses 12 → NoneFits Fits start count
  unfound_none (Gives s) h e = absurd (let z : ◌≡◌ {A = ℕ} 0 1 = cc in omega arith)
  unfound_none (Refuses n) h e = h.1

  none_unfound : (x : Answer ℕ) → Found Fits start count x → NoneFits Fits start count → x ≡ Refuses 12
  none_unfound (Gives s) h n = absurd (n s h.0 h.1)
  none_unfound (Refuses n) h f = ap Refuses h.0

module _ (style start count : ℕ) (w : Wishes) (x : Result ℕ Refusal) where
  pub lesson_answers : LessonAllowed style start count w x → LessonAnswers style start count w x
  lesson_answers a =
      let c = lesson_checked style start count w in
      let refused : (r : Refusal) → c ≡ Err r → answered x ≡ Refuses (number_of r) = λ r e. told c r (Suits style w) start count x a e in
      let found : style < 2 → SeedSpan start count → Known w → Found (Suits style w) start count (answered x) =
      λ h s k. found_of c (Suits style w) start count x a (by_none style start count w (omega arith) (seeds_are start count s) (wishes_known w k)) in
      record {
        no_style = λ h. refused Refusal.UnknownStyle (by_style style start count w (omega arith));
        none = λ h e. refused Refusal.LessonSpan (by_span style start count w (omega arith) (seeds_none start count (omega arith)));
        many = λ h m. refused Refusal.LessonSpan (by_span style start count w (omega arith) (seeds_many start count m));
        past = λ h l m. refused Refusal.LessonSpan (by_span style start count w (omega arith) (seeds_past start count l m));
        key = λ h s k. refused Refusal.LessonWish (by_wish style start count w (omega arith) (seeds_are start count s) (key_unknown w k));
        voice = λ h s l n. refused Refusal.LessonWish (by_wish style start count w (omega arith) (seeds_are start count s) (voice_unknown w l n));
        found = found;
        unfound = λ h s k. (unfound_none (Suits style w) start count (answered x) (found h s k), none_unfound (Suits style w) start count (answered x) (found h s k));
      }
