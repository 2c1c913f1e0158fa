-- What stands in the bytes from one place up to another, put together from its parts. Assumes nothing.
use mathlib.Core.Path.{◌≡◌, refl, sym, ap, ◌∙◌}
use mathlib.Core.Bool.{Bool, true, false}
use mathlib.Core.List.{List, [], ◌∷◌, ◌++◌, map, map-append}
use Prim.Native.Nat.{ℕ, zero, suc, ◌+◌, ◌-◌, ◌*◌, ◌<◌}
use native.Mathlib.Nat.{not-suc-le-zero, mul-suc, mul-zero, add-zero}
use native.Mathlib.Omega.{arith}
use borrow.Author.Tests.{ltb-true, ltb-false}
use lib.Dec.{ltb}
use lib.ListN.{length, length-append, get_or-append}
use lib.Seq.{ext_get_or, get_or-append-add}
use Rattle.laws.specs.Lists.{list_to, joined}
use Rattle.laws.proofs.Joins.{joined_snoc}
use Rattle.laws.proofs.Lists.{length_list_to, list_to_at}
use Rattle.pages.specs.Bytes.{byte_at}

-- xs stands from `at` up to `next`. Its end has a name of its own, so that parts meet where numbers are equal
pub record Span (bytes : List ℕ) (at next : ℕ) (xs : List ℕ) : Type 0 where
  pub end : next ≡ at + length xs
  pub same : (i : ℕ) → i < length xs → byte_at bytes (at + i) ≡ byte_at xs i

module _ {bytes : List ℕ} where
  pub span_none : {at : ℕ} → Span bytes at at []
  span_none {at} = record { end = sym (add-zero at); same = λ i h. absurd (not-suc-le-zero h) }

  -- one part after the other
  pub span_then : {a b c : ℕ} {xs ys : List ℕ} → Span bytes a b xs → Span bytes b c ys → Span bytes a c (xs ++ ys)
  span_then {a} {b} {c} {xs} {ys} s t = record {
    end = omega (arith, s.end, t.end, length-append xs ys);
    same = λ i h. go i (ltb i (length xs)) refl (omega (arith, length-append xs ys));
  }
    where
      go : (i : ℕ) (q : Bool) → ltb i (length xs) ≡ q → i < length xs + length ys → byte_at bytes (a + i) ≡ byte_at (xs ++ ys) i
      go i true e h = let l = ltb-true i (length xs) e in s.same i l ∙ sym (get_or-append xs ys 0 i l)
      go i false e h =
          let l = ltb-false i (length xs) e in
          let j = i - length xs in
          let p : a + i ≡ b + j = omega (arith, s.end) in
          let q : length xs + j ≡ i = omega arith in
          ap (byte_at bytes) p ∙ t.same j (omega arith) ∙ sym (get_or-append-add xs ys j 0) ∙ ap (byte_at (xs ++ ys)) q

  -- one byte
  pub span_byte : (at next b : ℕ) → next ≡ at + 1 → byte_at bytes at ≡ b → Span bytes at next (b ∷ [])
  span_byte at next b e same = record { end = e; same = λ i h. rest i h }
    where
      rest : (i : ℕ) → i < 1 → byte_at bytes (at + i) ≡ byte_at (b ∷ []) i
      rest i h = let z : i ≡ 0 = omega arith in rw z (ap (byte_at bytes) (add-zero at) ∙ same)

  -- and what stands behind it
  pub span_cons : {next c : ℕ} {xs : List ℕ} (at b : ℕ) → next ≡ at + 1 → byte_at bytes at ≡ b → Span bytes next c xs → Span bytes at c (b ∷ xs)
  span_cons {next} at b e same s = span_then (span_byte at next b e same) s

  -- an end by another name
  pub span_to : {a b c : ℕ} {xs : List ℕ} → b ≡ c → Span bytes a b xs → Span bytes a c xs
  span_to e s = rw (← e) s

  -- all of the bytes
  pub span_whole : {xs : List ℕ} → Span bytes 0 (length bytes) xs → xs ≡ bytes
  span_whole {xs} s =
      let l : length xs ≡ length bytes = omega (arith, s.end) in
      ext_get_or 0 xs bytes l (λ i h. let e : 0 + i ≡ i = omega arith in sym (s.same i h) ∙ ap (byte_at bytes) e)

  -- ---- many
  -- each of one byte
  pub span_list : (at n : ℕ) (f : ℕ → ℕ) → ((i : ℕ) → i < n → byte_at bytes (at + i) ≡ f i) → Span bytes at (at + n) (list_to f n)
  span_list at n f each =
      let l = length_list_to f n in
      record { end = omega arith; same = λ i h. let k : i < n = omega arith in each i k ∙ sym (list_to_at f 0 n i k) }

  -- as they stand
  pub span_bytes : (at n : ℕ) → Span bytes at (at + n) (list_to (λ i. byte_at bytes (at + i)) n)
  span_bytes at n = span_list at n (λ i. byte_at bytes (at + i)) (λ i h. refl)

  -- each of w bytes
  pub span_entries : {A : Type 0} (w at : ℕ) (f : ℕ → A) (g : A → List ℕ) (n : ℕ)
      → ((i : ℕ) → i < n → Span bytes (at + w * i) (at + w * i + w) (g (f i))) → Span bytes at (at + w * n) (joined (map g (list_to f n)))
  unfolding list_to joined
  span_entries w at f g zero each = let e : at ≡ at + w * 0 = omega (arith, mul-zero w) in span_to e span_none
  span_entries w at f g (suc n) each =
      let e : at + w * n + w ≡ at + w * suc n = omega (arith, mul-suc w n) in
      let before = span_entries w at f g n (λ i h. each i (omega arith)) in
      rw (map-append, joined_snoc, ← e) (span_then before (each n (omega arith)))
