-- The fields of an edition in their order, told of the bytes themselves: what is not refused with 7. Definitions only.
use Rattle.std.specs.Prelude.{◌≡◌, List, ◌++◌, ℕ, ◌+◌, ◌<◌, length}
use Rattle.laws.specs.Lists.{list_to, joined}
use Rattle.pages.specs.Bytes.{field}
use Rattle.pages.specs.Edition.{edition_field}
use Rattle.pages.specs.declared.edition.Edition.{Edition}
use Rattle.reader.specs.Lengths.{Had}

-- the bytes are, in some edition, its own field, then ten fields with tags 1 to 10 in their order and nothing else,
-- each as long as some value's field in that edition
pub record TenFields (bytes : List ℕ) : Type 0 where
  pub edition : Edition
  pub body : ℕ → List ℕ
  pub split : bytes ≡ edition_field edition ++ joined (list_to (λ k. field (k + 1) (body k)) 10)
  pub had : (k : ℕ) → k < 10 → Had edition k (length (body k))
