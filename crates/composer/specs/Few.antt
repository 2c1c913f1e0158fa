-- An array of which the first entries count: its list, and one entry more. Definitions only.
use Rattle.std.specs.Prelude.{List, ℕ, ◌+◌, length, take, set}
use Rattle.laws.specs.Lists.{pad}
use Rattle.composer.specs.declared.few.Few.{Few}

-- the entries in use
abbrev pub used_of : {A : Type 0} {cap : ℕ} → Few A cap → List A
used_of few = take few.n few.at

-- a list of at most `cap` in the array, with `rest` behind it
abbrev pub few_of : {A : Type 0} → A → (cap : ℕ) → List A → Few A cap
few_of rest cap xs = record { at = pad rest cap xs; n = length xs }

-- x behind the entries in use
abbrev pub one_more : {A : Type 0} {cap : ℕ} → Few A cap → A → Few A cap
one_more few x = record { at = set few.at few.n x; n = few.n + 1 }
