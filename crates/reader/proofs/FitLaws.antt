-- What the tests of a field say of it, in numbers. Assumes nothing.
use mathlib.Core.Path.{◌≡◌, sym, ap, ◌∙◌}
use mathlib.Core.Bool.{true, not, ◌&&◌}
use mathlib.Core.List.{List}
use Prim.Native.Nat.{ℕ, ◌+◌, ◌*◌, ◌/◌, ◌%◌, ◌≤◌, ◌<◌}
use native.Mathlib.Nat.{div-add-mod, mul-one}
use native.Mathlib.Omega.{arith}
use borrow.Author.Tests.{eqb-true, leb-true}
use lib.Dec.{eqb, leb}
use lib.ListN.{length, get_or}
use Rattle.laws.proofs.Bools.{both}
use Rattle.pages.specs.Bytes.{byte_at}
use Rattle.pages.specs.declared.edition.Edition.{Edition}
use Rattle.reader.specs.Layout.{edition_in, start_at, size_at, widths, least, most, length_fits, field_fits, led, formed}
use Rattle.reader.specs.Tests.{all_to}
use Rattle.reader.proofs.TestLaws.{all_to_at}

-- ---- n bytes are whole entries of w bytes, lo to hi of them
pub record Spans (w lo hi n : ℕ) : Type 0 where
  pub whole : n % w ≡ 0
  pub least : lo ≤ n / w
  pub most : n / w ≤ hi

pub length_spans : (edition : Edition) (k n : ℕ) → length_fits edition k n ≡ true → Spans (get_or (widths edition) k 0) (get_or least k 0) (get_or most k 0) n
unfolding length_fits
length_spans edition k n e =
    let w = get_or (widths edition) k 0 in
    let a = both (eqb (n % w) 0 && leb (get_or least k 0) (n / w)) (leb (n / w) (get_or most k 0) && not (eqb n 62)) e in
    let b = both (eqb (n % w) 0) (leb (get_or least k 0) (n / w)) a.0 in
    let c = both (leb (n / w) (get_or most k 0)) (not (eqb n 62)) a.1 in
    record { whole = eqb-true (n % w) 0 b.0; least = leb-true (get_or least k 0) (n / w) b.1; most = leb-true (n / w) (get_or most k 0) c.0 }

-- so many entries, of w bytes each
pub whole_size : {w lo hi n : ℕ} → Spans w lo hi n → w * (n / w) ≡ n
whole_size {w} {lo} {hi} {n} s = omega (arith, div-add-mod n w, s.whole)

-- and where there is one alone
pub one_size : {w n : ℕ} → Spans w 1 1 n → w ≡ n
one_size {w} {n} s =
    let one : n / w ≡ 1 = omega (arith, s.least, s.most) in
    sym (mul-one w) ∙ ap (λ (m : ℕ). w * m) (sym one) ∙ whole_size s

-- ---- formed bytes
module _ (bytes : List ℕ) (ok : formed bytes ≡ true) where
  -- the tenth field ends where the bytes do
  pub last_start_lem : start_at bytes 10 ≡ length bytes
  unfolding formed
  last_start_lem = eqb-true (start_at bytes 10) (length bytes) (both (led (edition_in bytes) bytes && all_to (field_fits bytes) 10) (eqb (start_at bytes 10) (length bytes)) ok).1

  first_told : (led (edition_in bytes) bytes ≡ true) × (all_to (field_fits bytes) 10 ≡ true)
  unfolding formed
  first_told = both (led (edition_in bytes) bytes) (all_to (field_fits bytes) 10) (both (led (edition_in bytes) bytes && all_to (field_fits bytes) 10) (eqb (start_at bytes 10) (length bytes)) ok).0

  -- the edition's own field is as it has to be
  pub led_read : led (edition_in bytes) bytes ≡ true
  led_read = first_told.0

  field_told : (k : ℕ) → k < 10 → (eqb (byte_at bytes (start_at bytes k)) (k + 1) ≡ true) × (length_fits (edition_in bytes) k (size_at bytes k) ≡ true)
  unfolding field_fits
  field_told k h = both (eqb (byte_at bytes (start_at bytes k)) (k + 1)) (length_fits (edition_in bytes) k (size_at bytes k)) (all_to_at (field_fits bytes) 10 first_told.1 k h)

  pub tag_read : (k : ℕ) → k < 10 → byte_at bytes (start_at bytes k) ≡ k + 1
  tag_read k h = eqb-true (byte_at bytes (start_at bytes k)) (k + 1) (field_told k h).0

  pub formed_fits : (k : ℕ) → k < 10 → length_fits (edition_in bytes) k (size_at bytes k) ≡ true
  formed_fits k h = (field_told k h).1

  pub entries : (k : ℕ) → k < 10 → Spans (get_or (widths (edition_in bytes)) k 0) (get_or least k 0) (get_or most k 0) (size_at bytes k)
  entries k h = length_spans (edition_in bytes) k (size_at bytes k) (formed_fits k h)
