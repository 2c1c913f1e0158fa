-- Bytes are formed exactly if they are the fields of an edition in their order, each as long as some value's field.
-- Assumes nothing.
use mathlib.Core.Path.{◌≡◌, refl, sym, ap, ◌∙◌}
use mathlib.Core.Bool.{true}
use mathlib.Core.List.{List, [], ◌∷◌, ◌++◌, append_assoc, append-nil}
use Prim.Native.Nat.{ℕ, zero, suc, ◌+◌, ◌≤◌, ◌<◌}
use native.Mathlib.Omega.{arith}
use borrow.Author.Tests.{eq-eqb}
use lib.ListN.{length, get_or, take, drop}
use lib.Seq.{take-suc, take_all, split_at}
use Rattle.laws.specs.Lists.{list_to, joined}
use Rattle.laws.proofs.Joins.{joined_append, joined_snoc}
use Rattle.laws.proofs.Lists.{length_list_to, list_to_at}
use Rattle.pages.specs.Bytes.{byte_at, field}
use Rattle.pages.specs.Edition.{edition_field, edition_size}
use Rattle.pages.specs.declared.edition.Edition.{Edition}
use Rattle.pages.proofs.BytesLaws.{edition_length}
use Rattle.reader.specs.Fields.{TenFields}
use Rattle.reader.specs.Layout.{edition_in, start_at, body_at, size_at, field_fits, led, formed}
use Rattle.reader.specs.Promise.{Octets}
use Rattle.reader.proofs.AgainLaws.{field_span, first_span}
use Rattle.reader.proofs.FitLaws.{last_start_lem, formed_fits}
use Rattle.reader.proofs.FormedLaws.{field_fits_lem}
use Rattle.reader.proofs.RoomyLaws.{first_start}
use Rattle.reader.proofs.LayoutLaws.{Stands, size_is, end_is}
use Rattle.reader.proofs.LengthLaws.{length_had, had_fits}
use Rattle.reader.proofs.SpanLaws.{Span, span_none, span_then, span_to, span_whole, span_bytes}
use Rattle.reader.proofs.TestLaws.{all_to_by}

-- ---- formed bytes are ten fields, whose bodies stand where the reader looks for them
module _ (bytes : List ℕ) (octets : Octets bytes) (ok : formed bytes ≡ true) where
  abbrev body_in : ℕ → List ℕ
  body_in k = list_to (λ i. byte_at bytes (body_at bytes k + i)) (size_at bytes k)

  body_size : (k : ℕ) → length (body_in k) ≡ size_at bytes k
  body_size k = length_list_to (λ i. byte_at bytes (body_at bytes k + i)) (size_at bytes k)

  -- the first n of them
  fields_span : (n : ℕ) → n ≤ 10 → Span bytes (start_at bytes 0) (start_at bytes n) (joined (list_to (λ k. field (k + 1) (body_in k)) n))
  unfolding list_to joined
  fields_span zero h = span_none
  fields_span (suc n) h =
      rw (joined_snoc (list_to (λ k. field (k + 1) (body_in k)) n) (field (n + 1) (body_in n)))
      (span_then (fields_span n (omega arith)) (field_span bytes octets ok n (size_at bytes n) h refl (span_bytes (body_at bytes n) (size_at bytes n))))

  pub formed_fields : TenFields bytes
  formed_fields = record {
    edition = edition_in bytes;
    body = body_in;
    split = sym (span_whole (span_to (last_start_lem bytes ok) (span_then (first_span bytes octets ok) (fields_span 10 (omega arith)))));
    had = λ k h. rw (body_size k) (length_had (edition_in bytes) k (size_at bytes k) h (formed_fits bytes ok k h));
  }

-- ---- the fields of an edition are formed
module _ (edition : Edition) (body : ℕ → List ℕ) where
  abbrev in_edition : List ℕ
  in_edition = edition_field edition ++ joined (list_to (λ k. field (k + 1) (body k)) 10)

-- their first bytes tell which
first_told : (edition : Edition) (body : ℕ → List ℕ) → (edition_in (in_edition edition body) ≡ edition) × (led edition (in_edition edition body) ≡ true)
unfolding edition_in led list_to joined field
first_told Edition.One body = (refl, refl)
first_told Edition.Two body = (refl, refl)

module _ (bytes : List ℕ) (t : TenFields bytes) where
  abbrev tagged : ℕ → List ℕ
  tagged k = field (k + 1) (t.body k)

  abbrev ten : List (List ℕ)
  ten = list_to tagged 10

  abbrev before : List ℕ
  before = edition_field t.edition

  edition_is : edition_in bytes ≡ t.edition
  edition_is = ap edition_in t.split ∙ (first_told t.edition t.body).0

  count : length ten ≡ 10
  count = length_list_to tagged 10

  tagged_at : (k : ℕ) → k < 10 → get_or ten k [] ≡ tagged k
  tagged_at k h = list_to_at tagged [] 10 k h

  -- each of them stands behind those before it, if it begins where they end
  stands : (k : ℕ) → k < 10 → start_at bytes k ≡ length (before ++ joined (take k ten)) → Stands bytes k (k + 1) (t.body k) (joined (drop (suc k) ten))
  unfolding joined
  stands k h place = record {
    pre = before ++ joined (take k ten);
    split =
        t.split
        ∙ ap (λ (x : List ℕ). before ++ x) (ap joined (split_at ten k [] (omega (arith, count))) ∙ joined_append (take k ten) (get_or ten k [] ∷ drop (suc k) ten))
        ∙ ap (λ (x : List ℕ). before ++ (joined (take k ten) ++ (x ++ joined (drop (suc k) ten)))) (tagged_at k h)
        ∙ sym (append_assoc before (joined (take k ten)) (tagged k ++ joined (drop (suc k) ten)));
    place = place;
  }

  -- and it does
  place : (k : ℕ) → k ≤ 10 → start_at bytes k ≡ length (before ++ joined (take k ten))
  unfolding joined stands
  place zero h = first_start bytes ∙ ap edition_size edition_is ∙ sym (edition_length t.edition) ∙ ap length (sym (append-nil before))
  place (suc k) h =
      rw (take-suc ten k [] (omega (arith, count)), tagged_at k h, joined_snoc)
      (end_is (stands k h (place k (omega arith))) ∙ ap length (append_assoc before (joined (take k ten)) (tagged k)))

  ten_fit : (k : ℕ) → k < 10 → field_fits bytes k ≡ true
  ten_fit k h =
      let s = stands k h (place k (omega arith)) in
      field_fits_lem k s (rw (edition_is, size_is s) (had_fits t.edition k (length (t.body k)) h (t.had k h)))

  pub fields_formed : formed bytes ≡ true
  unfolding formed
  fields_formed =
      let first : led (edition_in bytes) bytes ≡ true = ap (λ (e : Edition). led e bytes) edition_is ∙ ap (led t.edition) t.split ∙ (first_told t.edition t.body).1 in
      let end : start_at bytes 10 ≡ length bytes = place 10 (omega arith) ∙ ap (λ (l : List (List ℕ)). length (before ++ joined l)) (take_all 10 ten (omega (arith, count))) ∙ ap length (sym t.split) in
      rw (first, all_to_by (field_fits bytes) 10 ten_fit) (eq-eqb (start_at bytes 10) (length bytes) end)
