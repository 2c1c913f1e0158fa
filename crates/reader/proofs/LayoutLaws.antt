-- The fields of a sheet stand where the reader looks for them. Assumes nothing.
use mathlib.Core.Path.{◌≡◌, refl, sym, ap, ◌∙◌}
use mathlib.Core.List.{List, [], ◌++◌, append_assoc, append-nil}
use Prim.Native.Nat.{ℕ, suc, ◌+◌}
use native.Mathlib.Nat.{add-zero}
use native.Mathlib.Omega.{arith}
use lib.ListN.{length, length-append}
use Rattle.pages.specs.Bytes.{byte_at, be16_at, head, field}
use Rattle.pages.specs.Edition.{edition_field, edition_size}
use Rattle.pages.specs.declared.edition.Edition.{Edition}
use Rattle.pages.proofs.BytesLaws.{edition_length}
use Rattle.reader.specs.Layout.{edition_in, start_at, body_at, size_at}
use Rattle.reader.proofs.NumberLaws.{Shifts, byte_shifts, be16_shifts, be16_back}

-- field k of the bytes, between what stands before it and behind it
pub record Stands (bytes : List ℕ) (k tag : ℕ) (body post : List ℕ) : Type 0 where
  pub pre : List ℕ
  pub split : bytes ≡ pre ++ (field tag body ++ post)
  pub place : start_at bytes k ≡ length pre

module _ {bytes : List ℕ} {k tag : ℕ} {body post : List ℕ} (s : Stands bytes k tag body post) where
  abbrev pre : List ℕ
  pre = s.pre

  pub tag_is : byte_at bytes (start_at bytes k) ≡ tag
  unfolding field
  tag_is =
      let e : length pre ≡ length pre + 0 = omega arith in
      ap (byte_at bytes) (s.place ∙ e) ∙ ap (λ (b : List ℕ). byte_at b (length pre + 0)) s.split ∙ byte_shifts pre (field tag body ++ post) 0

  pub size_is : size_at bytes k ≡ length body
  unfolding field
  size_is =
      ap (λ (n : ℕ). be16_at bytes (n + 1)) s.place ∙ ap (λ (b : List ℕ). be16_at b (length pre + 1)) s.split ∙ be16_shifts pre (field tag body ++ post) 1
      ∙ be16_back (length body) (body ++ post)

  pub end_is : start_at bytes (suc k) ≡ length (pre ++ field tag body)
  unfolding start_at field
  end_is = rw (length-append pre (field tag body)) (omega (arith, s.place, size_is))

  -- what is read from its body
  pub read_body : {A : Type 0} (f : List ℕ → ℕ → A) → Shifts f → (j : ℕ) → f bytes (body_at bytes k + j) ≡ f (body ++ post) j
  unfolding field
  read_body f shifts j =
      let p = pre ++ head tag (length body) in
      let e : body_at bytes k + j ≡ length p + j = omega (arith, s.place, length-append pre (head tag (length body))) in
      ap (f bytes) e ∙ ap (λ (b : List ℕ). f b (length p + j)) (s.split ∙ sym (append_assoc pre (head tag (length body)) (body ++ post))) ∙ shifts p (body ++ post) j

  pub read_first : {A : Type 0} (f : List ℕ → ℕ → A) → Shifts f → f bytes (body_at bytes k) ≡ f (body ++ post) 0
  read_first f shifts = ap (f bytes) (sym (add-zero (body_at bytes k))) ∙ read_body f shifts 0

-- the first of the ten, behind the edition's own
pub edition_told : (edition : Edition) (body post : List ℕ) → edition_in (edition_field edition ++ (field 1 body ++ post)) ≡ edition
unfolding edition_in field
edition_told Edition.One body post = refl
edition_told Edition.Two body post = refl

pub stands_first : (edition : Edition) (body post : List ℕ) → Stands (edition_field edition ++ (field 1 body ++ post)) 0 1 body post
unfolding start_at
stands_first edition body post = record { pre = edition_field edition; split = refl; place = ap edition_size (edition_told edition body post) ∙ sym (edition_length edition) }

pub stands_next : {bytes : List ℕ} {k tag next : ℕ} {body after post : List ℕ} → Stands bytes k tag body (field next after ++ post) → Stands bytes (suc k) next after post
stands_next {bytes} {k} {tag} {next} {body} {after} {post} s = record {
  pre = s.pre ++ field tag body;
  split = s.split ∙ sym (append_assoc s.pre (field tag body) (field next after ++ post));
  place = end_is s;
}

-- the last field ends where the bytes do
pub last_end : {bytes : List ℕ} {k tag : ℕ} {body : List ℕ} → Stands bytes k tag body [] → start_at bytes (suc k) ≡ length bytes
last_end {bytes} {k} {tag} {body} s = end_is s ∙ ap length (ap (λ (l : List ℕ). s.pre ++ l) (sym (append-nil (field tag body))) ∙ sym s.split)
