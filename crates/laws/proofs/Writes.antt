-- One write after another is one write. Assumes nothing.
use mathlib.Core.Path.{◌≡◌, refl, sym, ap, ◌∙◌}
use mathlib.Core.List.{List, [], ◌∷◌, ◌++◌, append_assoc}
use Prim.Native.Nat.{ℕ, ◌+◌, ◌≤◌}
use native.Mathlib.Nat.{zero-add}
use native.Mathlib.Omega.{arith}
use lib.ListN.{length, set, take, drop, length-append, length-drop}
use lib.Seq.{length-take-le, take_at, drop-append-add, drop-drop}
use Rattle.laws.specs.Lists.{splice}
use Rattle.laws.specs.Writes.{Wrote}
use Rattle.laws.proofs.Splices.{splice_none, splice_push}

module _ {A : Type 0} where
  pub length_splice : (b : List A) (at : ℕ) (vs : List A) → at + length vs ≤ length b → length (splice b at vs) ≡ length b
  unfolding splice
  length_splice b at vs h =
      omega (arith, length-append (take at b) (vs ++ drop (at + length vs) b), length-append vs (drop (at + length vs) b), length-take-le at b (omega arith), length-drop (at + length vs) b)

  -- two writes in a row are one
  pub splice_append : (b : List A) (at : ℕ) (xs ys : List A) → at + length xs ≤ length b → splice (splice b at xs) (at + length xs) ys ≡ splice b at (xs ++ ys)
  unfolding splice
  splice_append b at xs ys h =
      let p = take at b ++ xs in
      let k = at + length xs in
      let rest = drop k b in
      let size : length p ≡ k = length-append (take at b) xs ∙ ap (λ (n : ℕ). n + length xs) (length-take-le at b (omega arith)) in
      let e : at + length (xs ++ ys) ≡ k + length ys = omega (arith, length-append xs ys) in
      let beyond : drop (k + length ys) (p ++ rest) ≡ drop (k + length ys) b =
      ap (λ (n : ℕ). drop (n + length ys) (p ++ rest)) (sym size) ∙ drop-append-add p rest (length ys) ∙ drop-drop (length ys) k b in
      rw (← append_assoc (take at b) xs rest, take_at p rest k size, beyond, e)
      (append_assoc (take at b) xs (ys ++ drop (k + length ys) b)
      ∙ ap (λ (l : List A). take at b ++ l) (sym (append_assoc xs ys (drop (k + length ys) b))))

-- nothing yet
pub wrote_none : {A : Type 0} (b : List A) (at : ℕ) → at ≤ length b → Wrote b b at at 0 []
wrote_none b at h = record { next = omega arith; size = refl; fits = omega arith; bytes = sym (splice_none b at) }

module _ {A : Type 0} {b b' : List A} {at r n : ℕ} {xs : List A} where
  pub wrote_length : Wrote b b' at r n xs → length b' ≡ length b
  wrote_length w = ap length w.bytes ∙ length_splice b at xs (omega (arith, w.size, w.fits))

  -- one write after another
  pub wrote_then : {b'' : List A} {r' m : ℕ} {ys : List A} → Wrote b b' at r n xs → Wrote b' b'' r r' m ys → Wrote b b'' at r' (n + m) (xs ++ ys)
  wrote_then {b''} {r'} {m} {ys} p q =
      let e : r ≡ at + length xs = omega (arith, p.next, p.size) in
      record {
        next = omega (arith, p.next, q.next);
        size = omega (arith, length-append xs ys, p.size, q.size);
        fits = omega (arith, p.next, q.fits, wrote_length p);
        bytes = q.bytes ∙ rw (p.bytes, e) (splice_append b at xs ys (omega (arith, p.fits, p.size)));
      }

  -- the same write, its size and its entries said in another way
  pub wrote_as : {m : ℕ} {ys : List A} → n ≡ m → xs ≡ ys → Wrote b b' at r n xs → Wrote b b' at r m ys
  wrote_as e f w = rw (← e, ← f) w

-- from the first place on
pub wrote_first : {A : Type 0} {b b' : List A} {r n : ℕ} {xs : List A} → Wrote b b' 0 r n xs → (r ≡ length xs) × (b' ≡ xs ++ drop (length xs) b)
unfolding splice
wrote_first {A} {b} {b'} {r} {n} {xs} w = (omega (arith, w.next, w.size), w.bytes ∙ ap (λ (k : ℕ). xs ++ drop k b) (zero-add (length xs)))

-- one entry
pub wrote_set : {A : Type 0} (b : List A) (at : ℕ) (v : A) → at + 1 ≤ length b → Wrote b (set b at v) at (at + 1) 1 (v ∷ [])
wrote_set b at v h = record {
  next = refl;
  size = refl;
  fits = h;
  bytes =
      let e : at + 0 ≡ at = omega arith in
      ap (λ (l : List _). set l at v) (sym (splice_none b at)) ∙ ap (λ (k : ℕ). set (splice b at []) k v) (sym e) ∙ splice_push b at [] v (omega arith);
}
