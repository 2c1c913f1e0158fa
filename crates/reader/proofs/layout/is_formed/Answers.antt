-- Tags and lengths, field by field. Assumes nothing.
use mathlib.Core.Bool.{Bool, ◌&&◌}
use mathlib.Core.List.{List}
use mathlib.Core.Path.{◌≡◌, refl, ap, ◌∙◌}
use Prim.Native.Nat.{ℕ, ◌+◌, ◌-◌, ◌<◌}
use native.Mathlib.Omega.{arith}
use borrow.Author.Tests.{tests}
use lib.Dec.{eqb}
use lib.ListN.{length, get_or}
use Rattle.std.proofs.Common.{rules}
use Rattle.std.proofs.lemmas.Iterator.{YieldsList-from_range}
use Rattle.std.proofs.lemmas.Iterator.Search.{all_from_yields_List}
use Rattle.pages.specs.Bytes.{byte_at}
use Rattle.reader.specs.Layout.{edition_in, start_at, body_at, size_at, length_fits, field_fits, led, formed}
use Rattle.reader.specs.Tests.{all_to}
use Rattle.reader.proofs.LoopLaws.{all_in_range}
use Rattle.reader.proofs.TestLaws.{all_to_same, all_to_both}
use Rattle.reader.proofs.layout.is_formed.Goals as goal

tagged : List ℕ → ℕ → Bool
tagged b k = eqb (byte_at b (body_at b k - 3)) (k + 1)

-- tags, lengths and end
whole : (b sizes : List ℕ) {first tags lengths : Bool} {end : ℕ} → ((k : ℕ) → k < 10 → get_or sizes k 0 ≡ size_at b k) → first ≡ led (edition_in b) b → tags ≡ all_to (tagged b) 10
    → lengths ≡ all_to (λ k. length_fits (edition_in b) k (get_or sizes k 0)) 10 → end ≡ start_at b 10 → (first && (tags && lengths) && eqb end (length b)) ≡ formed b
unfolding formed field_fits tagged
whole b sizes are f p q e =
    let back : (k : ℕ) → body_at b k - 3 ≡ start_at b k = λ k. omega arith in
    let fits = length_fits (edition_in b) in
    let sized = all_to_same (λ k. fits k (get_or sizes k 0)) (λ k. fits k (size_at b k)) 10 (λ k h. ap (fits k) (are k h)) in
    let at = all_to_same (tagged b) (λ k. eqb (byte_at b (start_at b k)) (k + 1)) 10 (λ k h. ap (λ (a : ℕ). eqb (byte_at b a) (k + 1)) (back k)) in
    rw (f, p, q, e, sized, at, all_to_both (λ k. eqb (byte_at b (start_at b k)) (k + 1)) (λ k. fits k (size_at b k)) 10)

pub returns : goal.returns
unfolding tagged
returns c =
    let f = c.args.fields.now in
    let tags = all_from_yields_List (tagged f.bytes.now) _ _ c.all-tags.result c.all-tags.ensures.ran (YieldsList-from_range 0 10 10 refl (omega arith)) (λ x b q k. search (rules, tests)) ∙ all_in_range _ 10 in
    whole f.bytes.now f.sizes f.sizes_are (rw f.edition_is at c.is_led-first.ensures) tags (rw f.edition_is at c.lengths_fit-lengths.ensures) f.end_is
